-- What failures mean.
use Rattle.std.proofs.Common.{◌≡◌, Option, Some, None, refl, sym, subst, ◌∙◌}
use Rattle.std.specs.Prelude.{Result, Ok, Err, IfOk, MatchResult}
use Rattle.std.proofs.lemmas.Option.{none-some, same_Some}
use Rattle.fm_decode.specs.declared.error.DecodeFail.{DecodeFail}
use Rattle.fm_decode.specs.declared.error.DecodeFail.TheVariants as fail
use Rattle.fm_decode.specs.inner.Gives.{Fails, Gives}

-- where one reading gives nothing another gives nothing
pub fails_from : {X Y : Type 0} (e : DecodeFail) (o : Option X) (all : Option Y) → (o ≡ None → all ≡ None) → Fails e o → Fails e all
fails_from fail.Malformed o all none failed = none failed
fails_from fail.NoMemory o all none failed = tt

pub gives_found : {X Y : Type 0} (view : X → Y) (r : Result X DecodeFail) (reading : Option Y) (P : Y → Type 0) → Gives view r reading → ((y : Y) → reading ≡ Some y → P y)
    → IfOk r (λ x. P (view x))
gives_found view (Ok x) reading P gives holds = holds (view x) gives
gives_found view (Err e) reading P gives holds = tt

pub gives_read : {X Y : Type 0} (view : X → Y) (r : Result X DecodeFail) (reading : Option Y) (y : Y) → Gives view r reading → reading ≡ Some y
    → MatchResult r (λ x. view x ≡ y) (λ e. e ≡ fail.NoMemory)
gives_read view (Ok x) reading y gives is = same_Some (view x) y (sym gives ∙ is)
gives_read view (Err fail.Malformed) reading y gives is = absurd (none-some y (sym gives ∙ is))
gives_read view (Err fail.NoMemory) reading y gives is = refl

-- a failure that isn't Malformed
pub is_memory : {T : Type 0} (e : DecodeFail) → (◌≡◌ {A = Result T DecodeFail} (Err e) (Err fail.Malformed) → ⊥) → e ≡ fail.NoMemory
is_memory fail.Malformed other = absurd (other refl)
is_memory fail.NoMemory other = refl

-- where a failure that was handed on is Malformed there is nothing to read
pub failed_none : {X Y : Type 0} (r : Result X DecodeFail) (e f : DecodeFail) (reading : Option Y) → r ≡ Err f → f ≡ e → r ≡ Err fail.Malformed → Fails e reading → reading ≡ None
failed_none r e f reading is same malformed fails = let e_is : e ≡ fail.Malformed = cc in subst (λ (x : DecodeFail). Fails x reading) e_is fails

-- and in what another one says of its failure
pub failed_so : {X Y : Type 0} (r : Result X DecodeFail) (s : Result Y DecodeFail) (e f : DecodeFail) → r ≡ Err f → f ≡ e → s ≡ Err e → r ≡ Err fail.Malformed → s ≡ Err fail.Malformed
failed_so r s e f is same was malformed = let e_is : e ≡ fail.Malformed = cc in was ∙ (λ k. Err (e_is k))

-- what is found unless memory ran out isn't Malformed
pub not_malformed : {X : Type 0} (P : X → Type 0) (r : Result X DecodeFail) → MatchResult r P (λ e. e ≡ fail.NoMemory) → r ≡ Err fail.Malformed → ⊥
not_malformed P (Ok x) found e = absurd cc
not_malformed P (Err fail.Malformed) found e = absurd cc
not_malformed P (Err fail.NoMemory) found e = absurd cc
