-- What a call means in its two cases.
use Rattle.std.proofs.Common.{Bool, true, false}
use Rattle.std.specs.Prelude.{Err, IfOk, MatchBool, Ok, Result}

pub ok_weaker : {E : Type 0} (A B C : Type 0) (r : Result Bool E) → (A → B) → IfOk r (λ b. MatchBool b A C) → IfOk r (λ b. MatchBool b B C)
ok_weaker A B C (Ok true) f h = f h
ok_weaker A B C (Ok false) f h = h
ok_weaker A B C (Err e) f h = tt
