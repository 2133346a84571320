-- Places of a list that gets one element more, and where a test first passes.
use Rattle.std.proofs.Common.{◌≡◌, refl, sym, ◌∙◌, ap, ℕ, ◌+◌, ◌<◌, ◌≤◌, ◌⊎◌, inl, inr, Bool, cond, List, [], ◌∷◌, ◌++◌, length, map, slice_get, Some, arith}
use Rattle.std.proofs.lemmas.Bool.{cases_lt}
use Rattle.std.specs.List.{position, position_from}
use Rattle.std.proofs.lemmas.Iterator.Adapters.{position_from-zero}
use Rattle.std.proofs.lemmas.List.{get_or_append_left, length_push}
use Rattle.std.proofs.lemmas.Option.{same_Some, slice_get-get_or, slice_get_within, get_or_from_slice_get}
use Rattle.fm_base.proofs.ListFacts.{slice_get_push}

-- ---- what is at a place

-- an earlier element, or the new one
pub slice_get_push_cases : {X : Type 0} (xs : List X) (y x : X) (k : ℕ) → slice_get (xs ++ y ∷ []) k ≡ Some x
    → (slice_get xs k ≡ Some x) ⊎ ((k ≡ length xs) × (y ≡ x))
slice_get_push_cases {X} xs y x k at = by_place (cases_lt k (length xs)) where
  within : k < length xs + 1
  within = let one = length_push xs y in let below = slice_get_within (xs ++ y ∷ []) k x at in omega (arith, one, below)

  by_place : (k < length xs) ⊎ (length xs ≤ k) → (slice_get xs k ≡ Some x) ⊎ ((k ≡ length xs) × (y ≡ x))
  by_place (inl below) =
      inl (slice_get-get_or xs k x below
      ∙ ap (λ z. Some z) (sym (get_or_append_left xs (y ∷ []) x k below) ∙ get_or_from_slice_get (xs ++ y ∷ []) k x x at))
  by_place (inr above) =
      let last : k ≡ length xs = omega (arith, within, above) in
      inr (last, same_Some y x (sym (slice_get_push xs y) ∙ ap (slice_get (xs ++ y ∷ [])) (sym last) ∙ at))

-- ---- the first place where a test passes

-- among what a function makes of a list
pub position_from-map : {A B : Type 0} (f : A → B) (p : B → Bool) (q : A → Bool) (i : ℕ) (xs : List A) → ((x : A) → p (f x) ≡ q x)
    → position_from p i (map f xs) ≡ position_from q i xs
position_from-map f p q i [] same = refl
position_from-map f p q i (x ∷ xs) same =
    ap (λ b. cond b (Some i) (position_from p (i + 1) (map f xs))) (same x)
    ∙ ap (λ o. cond (q x) (Some i) o) (position_from-map f p q (i + 1) xs same)

pub position-map : {A B : Type 0} (f : A → B) (p : B → Bool) (xs : List A) → position p (map f xs) ≡ position (λ x. p (f x)) xs
position-map f p xs =
    position_from-zero p (map f xs) ∙ position_from-map f p (λ x. p (f x)) 0 xs (λ x. refl)
    ∙ sym (position_from-zero (λ x. p (f x)) xs)
