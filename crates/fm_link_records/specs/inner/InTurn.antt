-- Lists whose elements come one after the other, each once.
use Rattle.std.specs.Prelude.{◌≡◌, Bool, true, List, [], ◌∷◌, ◌++◌, if◌then◌else◌}
use Rattle.std.specs.List.{list_any}

-- one element more, unless it is there
abbrev pub with_one : {A : Type 0} → (A → A → Bool) → List A → A → List A
with_one same xs y = if list_any (same y) xs then xs else xs ++ y ∷ []

-- the same for several elements one after the other
abbrev pub with_all : {A : Type 0} → (A → A → Bool) → List A → List A → List A
with_all same xs [] = xs
with_all same xs (y ∷ ys) = with_all same (with_one same xs y) ys

-- the test holds where two are the same
pub record Tells (A : Type 0) (same : A → A → Bool) : Type 0 where
  pub exact : (a b : A) → same a b ≡ true → a ≡ b
  pub itself : (a : A) → same a a ≡ true
