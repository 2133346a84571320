-- The laws of each call as a whole, for the layers above: what a free, a put and a change of a chain leave in each cell, and
-- that sound stores lead to sound stores.
use Rattle.std.proofs.Common.{◌≡◌, ◌≢◌, ℕ, ◌*◌, ◌^◌, ◌<◌, Bool, true, false, cond, refl, sym, ◌∙◌, ap, subst, arith, length}
use Rattle.std.specs.Prelude.{Some, None, IsSome}
use Rattle.fm_base.proofs.TestFacts.{apart-nat_eq}
use Rattle.fm_cells.specs.Sizes.{element_bits, cell_words}
use Rattle.fm_cells.specs.Objects.{Object, Request, IsRequest, request_words}
use Rattle.fm_cells.specs.Stores.{Store, object_at, elements_at, pack_at}
use Rattle.fm_cells.specs.Changes.{without_object, with_element, with_chain, freed_by, put_by, chained_by}
use Rattle.fm_cells.specs.Soundness.{IsSound}
use Rattle.fm_cells.proofs.SizeLaws.{cell_words-lt-double}
use Rattle.fm_cells.proofs.Elements.{has_object, some-object, pack_at-some, freed_by-none, freed_by-some, put_by-some, chained_by-some}
use Rattle.fm_cells.proofs.Changes.{object_at-without_object, object_at-with_object, object_words-with_element}
use Rattle.fm_cells.proofs.Soundness.{IsSound-without_object, IsSound-with_object, IsObject-with_element, IsObject-with_chain, request_words_bound}

either_freed : (fixed : Bool) (store : Store) (cell : ℕ) (object : Object) (q : ℕ) → q ≢ cell → object_at (cond fixed store (without_object store cell object)) q ≡ object_at store q
either_freed true store cell object q apart = refl
either_freed false store cell object q apart = object_at-without_object store cell object q ∙ ap (λ b. cond b None (object_at store q)) (apart-nat_eq q cell apart)

either_sound : (fixed : Bool) (store : Store) (cell : ℕ) (object : Object) → IsSound store → object_at store cell ≡ Some object → IsSound (cond fixed store (without_object store cell object))
either_sound true store cell object sound held = sound
either_sound false store cell object sound held = IsSound-without_object store cell object sound held

-- a call leaves each other cell as it was
pub object_at-freed_by_other : (store : Store) (cell q : ℕ) → q ≢ cell → object_at (freed_by store cell) q ≡ object_at store q
object_at-freed_by_other store cell q apart =
    elim (object_at store cell) as (λ o. object_at store cell ≡ o → object_at (freed_by store cell) q ≡ object_at store q) [
      | None ↦ λ e. ap (λ s. object_at s q) (freed_by-none store cell e)
      | Some object ↦ λ e. ap (λ s. object_at s q) (freed_by-some store cell object e) ∙ either_freed object.fixed store cell object q apart
    ] refl

pub object_at-put_by_other : (store : Store) (cell place element q : ℕ) → IsSome (object_at store cell) → q ≢ cell → object_at (put_by store cell place element) q ≡ object_at store q
object_at-put_by_other store cell place element q held apart =
    let found = some-object (object_at store cell) held in
    ap (λ s. object_at s q) (put_by-some store cell place element found.0 found.1) ∙ object_at-with_object store cell (with_element found.0 place element) q ∙ ap (λ b. cond b (Some (with_element found.0 place element)) (object_at store q)) (apart-nat_eq q cell apart)

pub object_at-chained_by_other : (store : Store) (cell to q : ℕ) → IsSome (object_at store cell) → q ≢ cell → object_at (chained_by store cell to) q ≡ object_at store q
object_at-chained_by_other store cell to q held apart =
    let found = some-object (object_at store cell) held in
    ap (λ s. object_at s q) (chained_by-some store cell to found.0 found.1) ∙ object_at-with_object store cell (with_chain found.0 to) q ∙ ap (λ b. cond b (Some (with_chain found.0 to)) (object_at store q)) (apart-nat_eq q cell apart)

-- a call leads from a sound store to a sound store
pub IsSound-freed_by : (store : Store) (cell : ℕ) → IsSound store → IsSound (freed_by store cell)
IsSound-freed_by store cell sound =
    elim (object_at store cell) as (λ o. object_at store cell ≡ o → IsSound (freed_by store cell)) [
      | None ↦ λ e. subst (λ s. IsSound s) (sym (freed_by-none store cell e)) sound
      | Some object ↦ λ e. subst (λ s. IsSound s) (sym (freed_by-some store cell object e)) (either_sound object.fixed store cell object sound e)
    ] refl

pub IsSound-put_by : (store : Store) (cell place element : ℕ) → IsSound store → place < length (elements_at store cell) → element < 2 ^ element_bits (pack_at store cell) → IsSound (put_by store cell place element)
IsSound-put_by store cell place element sound within fits =
    let found = has_object store cell place within in
    let small : element < 2 ^ element_bits found.0.pack = subst (λ p. element < 2 ^ element_bits p) (pack_at-some store cell found.0 found.1) fits in
    subst (λ s. IsSound s) (sym (put_by-some store cell place element found.0 found.1))
    (IsSound-with_object store cell found.0 (with_element found.0 place element) sound found.1 (IsObject-with_element found.0 place element (sound.objects_fit cell found.0 found.1) small) refl (object_words-with_element found.0 place element))

pub IsSound-chained_by : (store : Store) (cell to : ℕ) → IsSound store → IsSome (object_at store cell) → to < 2 ^ 32 → IsSound (chained_by store cell to)
IsSound-chained_by store cell to sound held fits =
    let found = some-object (object_at store cell) held in
    subst (λ s. IsSound s) (sym (chained_by-some store cell to found.0 found.1))
    (IsSound-with_object store cell found.0 (with_chain found.0 to) sound found.1 (IsObject-with_chain found.0 to (sound.objects_fit cell found.0 found.1) fits) refl refl)

-- the words of the cell of a request are below the double of its words
pub cell_words-request : (request : Request) → IsRequest request → cell_words (request_words request) < 2 * request_words request
cell_words-request request asked = cell_words-lt-double (request_words request) (omega arith) (omega (arith, request_words_bound request asked))
