-- The elements, the pack and the chain of the object in a cell.
use Rattle.std.proofs.Common.{◌≡◌, ◌≢◌, ℕ, cond, nat_eq, ◌<◌, ◌^◌, [], length, get_or, refl, sym, ◌∙◌, ap, subst, arith}
use Rattle.std.specs.Prelude.{Option, Some, None, IsSome, is_some}
use Rattle.std.specs.Option.{option_map, unwrap_or}
use Rattle.fm_cells.specs.Sizes.{element_bits}
use Rattle.fm_cells.specs.Objects.{Object, IsObject}
use Rattle.fm_cells.specs.Stores.{Store, object_at, elements_at, pack_at, chain_at}
use Rattle.fm_cells.specs.Changes.{on_object, without_object, with_object, with_element, with_chain, put_by, chained_by, freed_by}
use Rattle.std.specs.Prelude.{Ok, Err}
use Rattle.fm_base.proofs.TestFacts.{apart-nat_eq}
use Rattle.fm_cells.specs.Answers.{free_answer, freed_answer}
use Rattle.fm_cells.specs.declared.answers.Freed.TheVariants.{Done, Skipped}
use Rattle.fm_cells.specs.Soundness.{IsSound}

pub elements_at-some : (store : Store) (cell : ℕ) (object : Object) → object_at store cell ≡ Some object → elements_at store cell ≡ object.elements
elements_at-some store cell object e = ap (λ o. unwrap_or (option_map (λ (x : Object). x.elements) o) []) e

pub elements_at-none : (store : Store) (cell : ℕ) → object_at store cell ≡ None → elements_at store cell ≡ []
elements_at-none store cell e = ap (λ o. unwrap_or (option_map (λ (x : Object). x.elements) o) []) e

pub pack_at-some : (store : Store) (cell : ℕ) (object : Object) → object_at store cell ≡ Some object → pack_at store cell ≡ object.pack
pack_at-some store cell object e = ap (λ o. unwrap_or (option_map (λ (x : Object). x.pack) o) 1) e

pub chain_at-some : (store : Store) (cell : ℕ) (object : Object) → object_at store cell ≡ Some object → chain_at store cell ≡ object.chain
chain_at-some store cell object e = ap (λ o. unwrap_or (option_map (λ (x : Object). x.chain) o) 0) e

-- a cell that has elements is held
pub has_object : (store : Store) (cell place : ℕ) → place < length (elements_at store cell) → (object : Object) × (object_at store cell ≡ Some object)
has_object store cell place h =
    elim (object_at store cell) as (λ o. object_at store cell ≡ o → (object : Object) × (o ≡ Some object)) [
      | None ↦ λ e. absurd (omega (arith, ap length (elements_at-none store cell e)))
      | Some object ↦ λ e. (object, refl)
    ] refl

-- each element of an object of a sound store lies in its range
pub element-fits : (store now : Store) (cell place value : ℕ) → store ≡ now → IsSound store → place < length (elements_at now cell) → value ≡ get_or (elements_at now cell) place 0 → value < 2 ^ element_bits (pack_at now cell)
element-fits store now cell place value view sound within is =
    let object = (has_object now cell place within).0 in
    let held : object_at now cell ≡ Some object = (has_object now cell place within).1 in
    let fits : IsObject object = sound.objects_fit cell object (ap (λ s. object_at s cell) view ∙ held) in
    let same = elements_at-some now cell object held in
    let below : place < length object.elements = omega (arith, ap length same) in
    let element : get_or object.elements place 0 < 2 ^ element_bits object.pack = fits.elements_fit place 0 below in
    subst (λ n. n < 2 ^ element_bits (pack_at now cell)) (sym (is ∙ ap (λ all. get_or all place 0) same))
    (subst (λ p. get_or object.elements place 0 < 2 ^ element_bits p) (sym (pack_at-some now cell object held)) element)

-- a put, a change of a chain and a free of a held cell
pub put_by-some : (store : Store) (cell place element : ℕ) (object : Object) → object_at store cell ≡ Some object → put_by store cell place element ≡ with_object store cell (with_element object place element)
put_by-some store cell place element object e = ap (λ o. on_object o (λ x. with_object store cell (with_element x place element)) store) e

pub chained_by-some : (store : Store) (cell to : ℕ) (object : Object) → object_at store cell ≡ Some object → chained_by store cell to ≡ with_object store cell (with_chain object to)
chained_by-some store cell to object e = ap (λ o. on_object o (λ x. with_object store cell (with_chain x to)) store) e

-- where no cell is held they change nothing
pub put_by-none : (store : Store) (cell place element : ℕ) → object_at store cell ≡ None → put_by store cell place element ≡ store
put_by-none store cell place element none = ap (λ o. on_object o (λ x. with_object store cell (with_element x place element)) store) none

pub chained_by-none : (store : Store) (cell to : ℕ) → object_at store cell ≡ None → chained_by store cell to ≡ store
chained_by-none store cell to none = ap (λ o. on_object o (λ x. with_object store cell (with_chain x to)) store) none

-- a cell that has elements is held
pub held_of_elements : (store : Store) (cell place : ℕ) → place < length (elements_at store cell) → IsSome (object_at store cell)
held_of_elements store cell place h = let found = has_object store cell place h in ap is_some found.1

-- the object in a held cell lies in its ranges
pub fits_at : (store now : Store) (cell : ℕ) (object : Object) → store ≡ now → IsSound store → object_at now cell ≡ Some object → IsObject object
fits_at store now cell object view sound held = sound.objects_fit cell object (ap (λ s. object_at s cell) view ∙ held)

-- what a free returns and does: at null, at a cell that isn't held, at a fixed object, and at any other
pub free_answer-null : (store : Store) (cell : ℕ) → cell ≡ 0 → free_answer store cell ≡ Ok Skipped
free_answer-null store cell null = ap (λ b. cond b (Ok Skipped) (freed_answer (object_at store cell))) (ap (λ n. nat_eq n 0) null)

pub free_answer-none : (store : Store) (cell : ℕ) → cell ≢ 0 → object_at store cell ≡ None → free_answer store cell ≡ Err (record {})
free_answer-none store cell above none = ap (λ b. cond b (Ok Skipped) (freed_answer (object_at store cell))) (apart-nat_eq cell 0 above) ∙ ap freed_answer none

pub free_answer-some : (store : Store) (cell : ℕ) (object : Object) → cell ≢ 0 → object_at store cell ≡ Some object → free_answer store cell ≡ cond object.fixed (Ok Skipped) (Ok Done)
free_answer-some store cell object above some = ap (λ b. cond b (Ok Skipped) (freed_answer (object_at store cell))) (apart-nat_eq cell 0 above) ∙ ap freed_answer some

pub freed_by-none : (store : Store) (cell : ℕ) → object_at store cell ≡ None → freed_by store cell ≡ store
freed_by-none store cell none = ap (λ o. on_object o (λ x. cond x.fixed store (without_object store cell x)) store) none

pub freed_by-some : (store : Store) (cell : ℕ) (object : Object) → object_at store cell ≡ Some object → freed_by store cell ≡ cond object.fixed store (without_object store cell object)
freed_by-some store cell object some = ap (λ o. on_object o (λ x. cond x.fixed store (without_object store cell x)) store) some

-- what is held has an object
pub some-object : (o : Option Object) → IsSome o → (object : Object) × (o ≡ Some object)
some-object None h = absurd (cc)
some-object (Some object) h = (object, refl)
