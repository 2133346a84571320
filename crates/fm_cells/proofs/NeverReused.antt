-- Memory that is never reused: its choices are among those of memory that reuses cells in any way, and its stores stay
-- what they are.
use Rattle.std.proofs.Common.{◌≡◌, ℕ, ◌+◌, ◌≤◌, Bool, true, false, ◌∷◌, refl, sym, ap, subst, nat_eq, arith, inl, inr}
use Rattle.std.specs.Prelude.{Option, Some, slice_set}
use Rattle.std.proofs.lemmas.Bool.{cases_eq}
use Rattle.fm_cells.specs.Objects.{Object, size_class_of, request_size_class, Request}
use Rattle.fm_cells.specs.Stores.{Store, opened, no_lists, object_at, free_cells, passes_limit}
use Rattle.fm_cells.specs.Changes.{Take, without, made_by, without_object, with_object}
use Rattle.fm_cells.specs.Choices.{MayReuse}
use Rattle.fm_cells.specs.Soundness.{IsNeverReused}
use Rattle.fm_cells.proofs.Held.{within_limit, zero_within_limit, not_held, held_if, nothing_held, held_after, held_before}
use Rattle.fm_cells.proofs.Changes.{object_at-made_by, object_at-without_object, object_at-with_object}
use Rattle.fm_cells.proofs.Soundness.{IsOrderly-opened, IsOrderly-made_by, IsOrderly-without_object, IsOrderly-with_object}

-- an opened store
pub IsNeverReused-opened : (budget : ℕ) (limit : Option ℕ) → IsNeverReused (opened budget limit no_lists)
IsNeverReused-opened budget limit = record {
  orderly = IsOrderly-opened budget limit no_lists;
  within = λ cell h. absurd (nothing_held cell h);
  no_lists = refl;
  made_within_limit = zero_within_limit limit;
}

-- the next number that no object had isn't held
pub MayReuse-next : (store : Store) (request : Request) (grows : Bool) → IsNeverReused store → MayReuse store request (Take (store.births + 1) grows)
MayReuse-next store request grows never = (omega arith, not_held (object_at store (store.births + 1)) (λ h. absurd (omega (arith, never.within (store.births + 1) h))))

-- a make leads from a store that is never reused to one
pub IsNeverReused-made_by : (store : Store) (request : Request) → IsNeverReused store → passes_limit store request ≡ false → IsNeverReused (made_by store request (Take (store.births + 1) true))
IsNeverReused-made_by store request never limit = record {
  orderly = IsOrderly-made_by store request (store.births + 1) true never.orderly (MayReuse-next store request true never);
  within = λ q h. elim (cases_eq q (store.births + 1)) as (λ _. q ≤ store.births + 1) [
    | inl e ↦ omega arith
    | inr e ↦ omega (arith, never.within q (held_after q (store.births + 1) _ _ _ (object_at-made_by store request (store.births + 1) true q) h e))
  ];
  no_lists = ap (λ lists. slice_set lists (request_size_class request) (without (store.births + 1) (free_cells store (request_size_class request)))) never.no_lists;
  made_within_limit = within_limit store.limit _ limit;
}

-- and so does a free
pub IsNeverReused-without_object : (store : Store) (cell : ℕ) (object : Object) → IsNeverReused store → IsNeverReused (without_object store cell object)
IsNeverReused-without_object store cell object never = record {
  orderly = IsOrderly-without_object store cell object never.orderly;
  within = λ q h. never.within q (held_before (nat_eq q cell) _ _ (object_at-without_object store cell object q) h);
  no_lists = ap (λ lists. slice_set lists (size_class_of object) (cell ∷ free_cells store (size_class_of object))) never.no_lists;
  made_within_limit = never.made_within_limit;
}

-- and a put, or a change of a chain
pub IsNeverReused-with_object : (store : Store) (cell : ℕ) (old object : Object) → IsNeverReused store → object_at store cell ≡ Some old → object.birth ≡ old.birth → IsNeverReused (with_object store cell object)
IsNeverReused-with_object store cell old object never held same_birth = record {
  orderly = IsOrderly-with_object store cell old object never.orderly held same_birth;
  within = λ q h. elim (cases_eq q cell) as (λ _. q ≤ store.births) [
    | inl e ↦ subst (λ c. c ≤ store.births) (sym e) (never.within cell (held_if (object_at store cell) old held))
    | inr e ↦ never.within q (held_after q cell _ _ _ (object_at-with_object store cell object q) h e)
  ];
  no_lists = never.no_lists;
  made_within_limit = never.made_within_limit;
}
