-- Numbers that are in lists made of other lists.
use Rattle.std.proofs.Common.{◌≡◌, sym, ◌∙◌, ap, refl, ℕ, ◌⊎◌, inl, inr, Bool, true, false, cond, List, [], ◌∷◌, ◌++◌, nat_eq}
use Rattle.std.specs.List.{filter, flat_map}
use Rattle.std.proofs.lemmas.Bool.{eqb-true, false≢true, or_cases, or_right}
use Rattle.std.proofs.lemmas.List.Folds.{list_any-append}
use Rattle.fm_link_supers.proofs.Downwards.{among_head, among_left, among_right}
use Rattle.fm_world.specs.Chains.{is_among}

pub among_either : (x : ℕ) (xs ys : List ℕ) → is_among x (xs ++ ys) ≡ true → (is_among x xs ≡ true) ⊎ (is_among x ys ≡ true)
among_either x xs ys e = or_cases (is_among x xs) (is_among x ys) (sym (list_any-append (nat_eq x) xs ys) ∙ e)

-- one of the lists has the number
abbrev pub IsInOne : (ℕ → List ℕ) → List ℕ → ℕ → Type 0
IsInOne f xs y = (x : ℕ) × (is_among x xs ≡ true) × (is_among y (f x) ≡ true)

pub among_flat : (f : ℕ → List ℕ) (xs : List ℕ) (y : ℕ) → is_among y (flat_map f xs) ≡ true → IsInOne f xs y
among_flat f [] y e = absurd (false≢true e)
among_flat f (x ∷ xs) y e = by_part (among_flat f xs y) (among_either y (f x) (flat_map f xs) e) where
  by_part : (is_among y (flat_map f xs) ≡ true → IsInOne f xs y) → (is_among y (f x) ≡ true) ⊎ (is_among y (flat_map f xs) ≡ true)
      → IsInOne f (x ∷ xs) y
  by_part later (inl here) = (x, among_head x xs, here)
  by_part later (inr there) = let one = later there in (one.0, or_right (nat_eq one.0 x) (is_among one.0 xs) one.1, one.2)

pub in_flat : (f : ℕ → List ℕ) (xs : List ℕ) (x y : ℕ) → is_among x xs ≡ true → is_among y (f x) ≡ true → is_among y (flat_map f xs) ≡ true
in_flat f [] x y among e = absurd (false≢true among)
in_flat f (z ∷ zs) x y among e = by_part (in_flat f zs x y) (or_cases (nat_eq x z) (is_among x zs) among) where
  by_part : (is_among x zs ≡ true → is_among y (f x) ≡ true → is_among y (flat_map f zs) ≡ true) → (nat_eq x z ≡ true) ⊎ (is_among x zs ≡ true)
      → is_among y (f z ++ flat_map f zs) ≡ true
  by_part later (inl same) = among_left y (f z) (flat_map f zs) (ap (λ k. is_among y (f k)) (sym (eqb-true x z same)) ∙ e)
  by_part later (inr there) = among_right y (f z) (flat_map f zs) (later there e)

-- no number of the list passes
pub filter_none : (p : ℕ → Bool) (xs : List ℕ) → ((x : ℕ) → is_among x xs ≡ true → p x ≡ true → ⊥) → filter p xs ≡ []
filter_none p [] none = refl
filter_none p (y ∷ ys) none = by_test (p y) refl (filter_none p ys (λ x among. none x (or_right (nat_eq x y) (is_among x ys) among))) where
  by_test : (b : Bool) → p y ≡ b → filter p ys ≡ [] → cond b (y ∷ filter p ys) (filter p ys) ≡ []
  by_test true e others = absurd (none y (among_head y ys) e)
  by_test false e others = others
