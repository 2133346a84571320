-- The actions that make arrays of arrays: how many objects they make, of how many words, and how they go on from one element to the next.
use Rattle.std.proofs.Common.{◌≡◌, ℕ, zero, suc, ◌+◌, ◌*◌, ◌-◌, ◌<◌, false, List, [], ◌∷◌, ◌++◌, refl, ap, ◌∙◌, append_assoc, arith}
use Rattle.std.specs.List.{flat_map, range_with_len}
use Rattle.std.proofs.Math.Nat.{suc-mul}
use Rattle.std.proofs.lemmas.List.Sums.{sum_by-append, sum_by-cons}
use Rattle.fm_base.specs.declared.kinds.TypeRef.{TypeRef}
use Rattle.fm_cells.specs.Objects.{request_words}
use Rattle.fm_frames.specs.Acts.{requested}
use Rattle.fm_frames.specs.ArrayRows.{array_actions, arrays_made, element_kind, element_type}
use Rattle.fm_frames.specs.Effects.{Action, Make, OfMade, Put}
use Rattle.fm_frames.specs.States.{Areas}
use Rattle.fm_frames.specs.Steps.{objects_made, words_among}
use Rattle.fm_exec_nests.specs.inner.Nests.{nest_words}
use Rattle.fm_world.specs.Programs.{Outline}

-- what is made and put for one element of the array that was made as this one
abbrev pub put_at : TypeRef → List ℕ → (first place : ℕ) → Action
put_at t inner first place = Put (OfMade first) place (element_kind t) (OfMade (first + 1 + place * arrays_made inner))

abbrev pub at_place : TypeRef → List ℕ → (first place : ℕ) → List Action
at_place t inner first place = array_actions (element_type t) inner (first + 1 + place * arrays_made inner) ++ put_at t inner first place ∷ []

-- and for this many elements from one on
abbrev pub places_from : TypeRef → List ℕ → (first start count : ℕ) → List Action
places_from t inner first start count = flat_map (at_place t inner first) (range_with_len start count)

pub nest-actions : (t : TypeRef) (len next first : ℕ) (lens : List ℕ)
    → array_actions t (len ∷ next ∷ lens) first ≡ Make t len [] ∷ places_from t (next ∷ lens) first 0 len
unfolding array_actions
nest-actions t len next first lens = refl

pub one-action : (t : TypeRef) (len first : ℕ) → array_actions t (len ∷ []) first ≡ Make t len [] ∷ []
unfolding array_actions
one-action t len first = refl

-- one element, and the rest
pub places-step : (t : TypeRef) (inner : List ℕ) (first place len : ℕ) → place < len
    → places_from t inner first place (len - place) ≡ at_place t inner first place ++ places_from t inner first (place + 1) (len - (place + 1))
places-step t inner first place len inside =
    let more : len - place ≡ suc (len - (place + 1)) = omega (arith, inside) in ap (places_from t inner first place) more

-- the arrays of one element are made before they are put
pub parts-joined : (made : List Action) (put : Action) (more rest : List Action) → ((made ++ put ∷ []) ++ more) ++ rest ≡ made ++ (put ∷ more ++ rest)
parts-joined made put more rest = append_assoc (made ++ put ∷ []) more rest ∙ append_assoc made (put ∷ []) (more ++ rest)

-- ---- how many objects

pub arrays-more : (len : ℕ) (inner : List ℕ) → arrays_made (len ∷ inner) ≡ 1 + len * arrays_made inner
arrays-more len [] = omega arith
arrays-more len (next ∷ lens) = refl

objects-append : (xs ys : List Action) → objects_made (xs ++ ys) ≡ objects_made xs + objects_made ys
objects-append xs ys = sum_by-append _ xs ys

places-objects : (t : TypeRef) (inner : List ℕ) (first : ℕ) → ((at : ℕ) → objects_made (array_actions (element_type t) inner at) ≡ arrays_made inner)
    → (start count : ℕ) → objects_made (places_from t inner first start count) ≡ count * arrays_made inner
places-objects t inner first each start zero = omega arith
places-objects t inner first each start (suc count) =
    let at : ℕ = first + 1 + start * arrays_made inner in
    let made : List Action = array_actions (element_type t) inner at in
    let more : List Action = places_from t inner first (start + 1) count in
    let all = objects-append (made ++ put_at t inner first start ∷ []) more in
    let here = objects-append made (put_at t inner first start ∷ []) in
    let one = each at in
    let rest = places-objects t inner first each (start + 1) count in
    let put : objects_made (put_at t inner first start ∷ []) ≡ 0 = refl in
    let product = suc-mul count (arrays_made inner) in
    omega (arith, all, here, one, rest, put, product)

pub nest-objects : (t : TypeRef) (lens : List ℕ) (first : ℕ) → objects_made (array_actions t lens first) ≡ arrays_made lens
unfolding array_actions
nest-objects t [] first = refl
nest-objects t (len ∷ []) first = refl
nest-objects t (len ∷ next ∷ lens) first =
    let outer : objects_made (Make t len [] ∷ places_from t (next ∷ lens) first 0 len) ≡ 1 + objects_made (places_from t (next ∷ lens) first 0 len) =
    sum_by-cons _ (Make t len []) (places_from t (next ∷ lens) first 0 len) in
    outer ∙ ap (λ n. 1 + n) (places-objects t (next ∷ lens) first (λ at. nest-objects (element_type t) (next ∷ lens) at) 0 len)

-- ---- of how many words

module _ (o : Outline) (x : Areas) (literals : List ℕ) where
  abbrev words : List Action → ℕ
  words actions = words_among o x literals actions

  places-words : (t : TypeRef) (inner : List ℕ) (first : ℕ)
      → ((at : ℕ) (rest : List Action) → words (array_actions (element_type t) inner at ++ rest) ≡ nest_words o (element_type t) inner + words rest)
      → (start count : ℕ) (rest : List Action)
      → words (places_from t inner first start count ++ rest) ≡ count * nest_words o (element_type t) inner + words rest
  places-words t inner first each start zero rest = omega arith
  places-words t inner first each start (suc count) rest =
      let at : ℕ = first + 1 + start * arrays_made inner in
      let made : List Action = array_actions (element_type t) inner at in
      let put : Action = put_at t inner first start in
      let more : List Action = places_from t inner first (start + 1) count in
      let joined : words (((made ++ put ∷ []) ++ more) ++ rest) ≡ words (made ++ (put ∷ more ++ rest)) = ap words (parts-joined made put more rest) in
      let one = each at (put ∷ more ++ rest) in
      let none : words (put ∷ more ++ rest) ≡ 0 + words (more ++ rest) = refl in
      let others = places-words t inner first each (start + 1) count rest in
      let product = suc-mul count (nest_words o (element_type t) inner) in
      omega (arith, joined, one, none, others, product)

  pub nest-words-then : (t : TypeRef) (lens : List ℕ) (first : ℕ) (rest : List Action)
      → words (array_actions t lens first ++ rest) ≡ nest_words o t lens + words rest
  unfolding array_actions
  nest-words-then t [] first rest = omega arith
  nest-words-then t (len ∷ []) first rest = omega arith
  nest-words-then t (len ∷ next ∷ lens) first rest =
      let own : ℕ = request_words (requested o t len false) in
      let outer : words (Make t len [] ∷ (places_from t (next ∷ lens) first 0 len ++ rest)) ≡ own + words (places_from t (next ∷ lens) first 0 len ++ rest) = refl in
      let inner = places-words t (next ∷ lens) first (λ at rest. nest-words-then (element_type t) (next ∷ lens) at rest) 0 len rest in
      omega (arith, outer, inner)
