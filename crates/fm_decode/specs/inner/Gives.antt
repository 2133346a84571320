-- What the result of a function that may run out of memory means for a reading.
use Rattle.std.specs.Prelude.{◌≡◌, Option, Some, None, option_and_then, Result, Ok, Err}
use Rattle.fm_decode.specs.declared.error.DecodeFail.{DecodeFail}
use Rattle.fm_decode.specs.declared.error.DecodeFail.TheVariants as fail

infixl 10 ◌>>=◌
abbrev pub ◌>>=◌ : {A B : Type 0} → Option A → (A → Option B) → Option B
o >>= f = option_and_then f o

abbrev pub Fails : {Y : Type 0} → DecodeFail → Option Y → Type 0
Fails fail.Malformed reading = reading ≡ None
Fails fail.NoMemory reading = Unit {0}

-- what was returned, seen by view, is what the reading gives, unless memory ran out
abbrev pub Gives : {X Y : Type 0} → (X → Y) → Result X DecodeFail → Option Y → Type 0
Gives view (Ok x) reading = reading ≡ Some (view x)
Gives view (Err e) reading = Fails e reading
