-- Tests over lists by witnesses, and the parts of a test.
use Rattle.std.proofs.Common.{◌≡◌, Bool, true, List, Contains}
use Rattle.std.specs.List.{list_any}
use Rattle.std.proofs.lemmas.List.Folds.{list_any-from_Any}

-- ---- tests over lists

pub any-from : {X : Type 0} (p : X → Bool) (xs : List X) (x : X) → Contains xs x → p x ≡ true → list_any p xs ≡ true
any-from p xs x (k, inside, there) holds = list_any-from_Any p xs (k, x, inside, there, holds)
