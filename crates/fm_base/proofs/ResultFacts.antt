-- Results: what holds of a result whatever it is, or of one that was handed on. For every crate above.
use Rattle.std.proofs.Common.{◌≡◌, Result, Ok, Err, IfOk, OnErr, OnOk, ◌⊎◌, ⊎_elim, sym, subst}

-- what holds anyway holds at an error
pub OnErr-anyway : {T E : Type 0} {P : Type 0} (answer : Result T E) → P → OnErr answer P
OnErr-anyway (Ok x) p = tt
OnErr-anyway (Err e) p = p

-- and at a value
pub OnOk-anyway : {T E : Type 0} {P : Type 0} (answer : Result T E) → P → OnOk answer P
OnOk-anyway (Ok x) p = p
OnOk-anyway (Err e) p = tt

-- what holds of every value holds of the one that came
pub IfOk-from_every : {T E : Type 0} {P : T → Type 0} (answer : Result T E) → ((x : T) → P x) → IfOk answer P
IfOk-from_every (Ok x) every = every x
IfOk-from_every (Err e) every = tt

-- of a result that was handed on the same holds, and else it is this error
pub IfOk-handed_on : {T E : Type 0} (P : T → Type 0) (answer result : Result T E) (error : E) → IfOk answer P → (result ≡ answer) ⊎ (result ≡ Err error) → IfOk result P
IfOk-handed_on {T} {E} P answer result error said which =
    let Q : Result T E → Type 0 = λ r. IfOk r P in
    ⊎_elim (λ same. subst Q (sym same) said) (λ gone. subst Q (sym gone) tt) which
