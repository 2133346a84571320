-- Elements of lists: their places, and what a function gives of them.
use Rattle.std.proofs.Common.{◌≡◌, refl, ◌⊎◌, ℕ, List, [], ◌∷◌, Option, Some, None, Contains, sym, ◌∙◌, ap, subst, ⊎_elim}
use Rattle.std.specs.Prelude.{slice_get}
use Rattle.std.specs.List.{cons_option, filter_map}
use Rattle.std.proofs.lemmas.Option.{slice_get-get_or}
use Rattle.fm_base.proofs.ContainsFacts.{Contains-cons_cases, Contains-none}
use Rattle.fm_code.proofs.EdgesLemmas.{Contains-first, Contains-later}

-- ---- places

-- an element is at a place
pub place_of : {X : Type 0} (xs : List X) (x : X) → Contains xs x → (k : ℕ) × (slice_get xs k ≡ Some x)
place_of xs x (k, within, there) = (k, slice_get-get_or xs k x within ∙ ap (λ y. Some y) there)

-- ---- what a function gives of elements

pub Contains-from_filter_map : {X Y : Type 0} (find : X → Option Y) (xs : List X) (y : Y) → Contains (filter_map find xs) y
    → (x : X) × Contains xs x × (find x ≡ Some y)
Contains-from_filter_map find [] y h = absurd (Contains-none y h)
Contains-from_filter_map {X} {Y} find (x ∷ xs) y h = by_first (find x) refl h (Contains-from_filter_map find xs y) where
  IsFrom : List X → Type 0
  IsFrom all = (z : X) × Contains all z × (find z ≡ Some y)

  one_later : IsFrom xs → IsFrom (x ∷ xs)
  one_later from = (from.0, Contains-later x xs from.0 from.1, from.2)

  by_first : (o : Option Y) → find x ≡ o → Contains (cons_option o (filter_map find xs)) y → (Contains (filter_map find xs) y → IsFrom xs) → IsFrom (x ∷ xs)
  by_first None here among later = one_later (later among)
  by_first (Some z) here among later =
      ⊎_elim (λ (same : y ≡ z). (x, Contains-first x xs x refl, here ∙ ap Some (sym same))) (λ rest. one_later (later rest))
      (Contains-cons_cases z (filter_map find xs) y among)

pub Contains-filter_map : {X Y : Type 0} (find : X → Option Y) (xs : List X) (x : X) (y : Y) → Contains xs x → find x ≡ Some y → Contains (filter_map find xs) y
Contains-filter_map find [] x y among is = absurd (Contains-none x among)
Contains-filter_map {X} {Y} find (z ∷ xs) x y among is = ⊎_elim
    (λ (same : x ≡ z). subst (λ o. Contains (cons_option o (filter_map find xs)) y) (sym (ap find (sym same) ∙ is)) (Contains-first y (filter_map find xs) y refl))
    (λ later. more (find z) (Contains-filter_map find xs x y later is)) (Contains-cons_cases z xs x among) where
      more : (o : Option Y) → Contains (filter_map find xs) y → Contains (cons_option o (filter_map find xs)) y
      more None found = found
      more (Some first) found = Contains-later first (filter_map find xs) y found
