-- How many objects a store holds, after each change of it; and what was freed is counted.
use Rattle.std.proofs.Common.{◌≡◌, ℕ, ◌+◌, ◌^◌, ◌≤◌, Bool, true, false, cond, List, [], ◌∷◌, length, map, nat_eq, Option, Some, None, Result, Ok, if◌then◌else◌, refl, sym, ◌∙◌, ap, subst, arith}
use Rattle.std.specs.FinMap as fin
use Rattle.std.specs.List.{sum_by}
use Rattle.std.specs.Ordering.{nat_cmp}
use Rattle.std.proofs.lemmas.List.{length-map}
use Rattle.std.proofs.lemmas.List.Sums.{sum_by-cons}
use Rattle.fm_cells.proofs.Maps.{total, total-insert_held, total-insert_new, total-remove}
use Rattle.fm_cells.specs.Answers.{free_answer, freed_answer}
use Rattle.fm_cells.specs.Changes.{freed_by, on_object, without_object}
use Rattle.fm_cells.specs.Objects.{Object}
use Rattle.fm_cells.specs.Stores.{object_at, Store}
use Rattle.fm_cells.specs.declared.answers.Freed.{Freed}
use Rattle.fm_cells.specs.declared.answers.Freed.TheVariants.{Done, Skipped}
use Rattle.fm_cells.specs.declared.answers.NotHeld.{NotHeld}
use Rattle.fm_frames.specs.States.{Areas}
use Rattle.fm_frames.specs.inner.Places.{CountsFrees}

-- ---- how many are held

one_each : {X : Type 0} (xs : List X) → sum_by (λ x. 1) xs ≡ length xs
one_each [] = refl
one_each (x ∷ xs) = let rest = one_each xs in let first = sum_by-cons (λ y. 1) x xs in omega (arith, rest, first)

pub held_total : (m : fin.FinMap nat_cmp Object) → length (fin.entries m) ≡ total (λ object. 1) m
held_total m = sym (length-map (fin.entries m) (λ e. e.1)) ∙ sym (one_each (map (λ e. e.1) (fin.entries m)))

pub held_insert_new : (m : fin.FinMap nat_cmp Object) (cell : ℕ) (object : Object) → fin.get m cell ≡ None
    → length (fin.entries (fin.insert m cell object)) ≡ length (fin.entries m) + 1
held_insert_new m cell object free =
    held_total (fin.insert m cell object) ∙ total-insert_new (λ other. 1) m cell object free ∙ ap (λ n. n + 1) (sym (held_total m))

pub held_insert_held : (m : fin.FinMap nat_cmp Object) (cell : ℕ) (old object : Object) → fin.get m cell ≡ Some old
    → length (fin.entries (fin.insert m cell object)) ≡ length (fin.entries m)
held_insert_held m cell old object held =
    let later = held_total (fin.insert m cell object) in
    let before = held_total m in
    let both = total-insert_held (λ other. 1) m cell old object held in omega (arith, later, before, both)

pub held_remove : (m : fin.FinMap nat_cmp Object) (cell : ℕ) (object : Object) → fin.get m cell ≡ Some object
    → length (fin.entries (fin.remove m cell)) + 1 ≡ length (fin.entries m)
held_remove m cell object held =
    let later = held_total (fin.remove m cell) in
    let before = held_total m in
    let both = total-remove (λ other. 1) m cell object held in omega (arith, later, before, both)

-- ---- what was freed

abbrev pub IsDone : Result Freed NotHeld → Type 0
IsDone answer = Ok Done ≡ answer

done-answer : (found : Option Object) → IsDone (freed_answer found) → (object : Object) × (found ≡ Some object) × (object.fixed ≡ false)
done-answer None e = absurd (cc)
done-answer (Some object) e = (object, refl, by_fixed object.fixed refl e) where
  by_fixed : (b : Bool) → object.fixed ≡ b → IsDone (if b then Ok Skipped else Ok Done) → object.fixed ≡ false
  by_fixed true is e = absurd (cc)
  by_fixed false is e = is

-- an object that was freed was held, and doesn't live for ever
pub done-held : (store : Store) (cell : ℕ) → IsDone (free_answer store cell) → (object : Object) × (object_at store cell ≡ Some object) × (object.fixed ≡ false)
done-held store cell e = by_null (nat_eq cell 0) e where
  by_null : (b : Bool) → IsDone (if b then Ok Skipped else freed_answer (object_at store cell))
      → (object : Object) × (object_at store cell ≡ Some object) × (object.fixed ≡ false)
  by_null true e = absurd (cc)
  by_null false e = done-answer (object_at store cell) e

pub counts-freed : (x : Areas) (store : Store) (cell words : ℕ) → IsDone (free_answer x.store cell) → store ≡ freed_by x.store cell → words ≤ 2 ^ 32 → CountsFrees x
    → CountsFrees (record x { store = store; frees = x.frees + 1; freed_words = x.freed_words + words })
counts-freed x store cell words done is few h =
    let (object, held, fixed) = done-held x.store cell done in
    let after : freed_by x.store cell ≡ without_object x.store cell object =
    ap (λ found. on_object found (λ object. (if object.fixed then x.store else without_object x.store cell object)) x.store) held ∙ ap (λ b. cond b x.store (without_object x.store cell object)) fixed in
    subst (λ s. CountsFrees (record x { store = s; frees = x.frees + 1; freed_words = x.freed_words + words })) (sym (is ∙ after))
    (record {
      freed =
          let less = held_remove x.store.held cell object held in
          let before = h.freed in omega (arith, less, before);
      freed_words = let before = h.freed_words in omega (arith, few, before);
    })
