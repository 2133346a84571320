-- What holds of each array that multianewarray makes, and of each that is put into another, holds of all that it does.
use Rattle.std.proofs.Common.{ℕ, ◌+◌, ◌*◌, List, [], ◌∷◌, ◌++◌}
use Rattle.std.specs.List.{AllByRecursion, flat_map, range_with_len}
use Rattle.fm_base.proofs.ListFacts.{AllByRecursion-append}
use Rattle.fm_base.specs.declared.kinds.Kind.{Kind}
use Rattle.fm_base.specs.declared.kinds.TypeRef.{TypeRef}
use Rattle.fm_frames.specs.ArrayRows.{array_actions, arrays_made, element_kind, element_type}
use Rattle.fm_frames.specs.Effects.{Action, Make, OfMade, Put}

-- what holds of each of the lists holds of all together
pub all_flat : {A B : Type 0} (P : B → Type 0) (g : A → List B) (xs : List A) → ((x : A) → AllByRecursion P (g x)) → AllByRecursion P (flat_map g xs)
all_flat P g [] h = tt
all_flat P g (x ∷ xs) h = AllByRecursion-append P (g x) (flat_map g xs) (h x) (all_flat P g xs h)

module _ (P : Action → Type 0) (makes : (t : TypeRef) (count : ℕ) → P (Make t count [])) (puts : (first place inner : ℕ) (k : Kind) → P (Put (OfMade first) place k (OfMade inner))) where
  pub nested_actions : (t : TypeRef) (counts : List ℕ) (first : ℕ) → AllByRecursion P (array_actions t counts first)
  unfolding array_actions
  nested_actions t [] first = tt
  nested_actions t (count ∷ []) first = (makes t count, tt)
  nested_actions t (count ∷ next ∷ counts) first = (
    makes t count,
    all_flat P
        (λ place. array_actions (element_type t) (next ∷ counts) (first + 1 + place * arrays_made (next ∷ counts))
        ++ Put (OfMade first) place (element_kind t) (OfMade (first + 1 + place * arrays_made (next ∷ counts))) ∷ [])
        (range_with_len 0 count)
        (λ place. AllByRecursion-append P
        (array_actions (element_type t) (next ∷ counts) (first + 1 + place * arrays_made (next ∷ counts)))
        (Put (OfMade first) place (element_kind t) (OfMade (first + 1 + place * arrays_made (next ∷ counts))) ∷ [])
        (nested_actions (element_type t) (next ∷ counts) (first + 1 + place * arrays_made (next ∷ counts)))
        (puts first place (first + 1 + place * arrays_made (next ∷ counts)) (element_kind t), tt)),
  )
