-- What the calls of a memory keep, whatever the ranges of numbers.
use Rattle.std.proofs.Common.{◌≡◌, ℕ, ◌+◌, Bool, true, false, cond, [], ◌∷◌, refl, sym, ◌∙◌, ap, subst}
use Rattle.std.specs.Prelude.{Some, None}
use Rattle.fm_cells.specs.Objects.{Object, object_words, Request, request_size_class}
use Rattle.fm_cells.specs.Stores.{Store, object_at, live_words, passes_limit, free_cells}
use Rattle.fm_cells.specs.Changes.{Take, RefuseStore, made_by, without_object, with_object, with_element, with_chain, freed_by, put_by, chained_by}
use Rattle.fm_cells.specs.Choices.{never_choice, last_choice, new_cell_choice, last_choice_among}
use Rattle.fm_cells.specs.Soundness.{IsOrderly, IsNeverReused, IsLastReused}
use Rattle.fm_cells.specs.Laws.{KeptByMake, KeptByMakeOf, KeptByFree, KeptByPut, KeptByChain}
use Rattle.fm_cells.proofs.Changes.{live_words-without_object, live_words-with_object, object_words-with_element}
use Rattle.fm_cells.proofs.Elements.{freed_by-none, freed_by-some, put_by-none, put_by-some, chained_by-none, chained_by-some}
use Rattle.fm_cells.proofs.LastReused.{IsLastReused-head, IsLastReused-fresh, IsLastReused-without_object, IsLastReused-with_object}
use Rattle.fm_cells.proofs.NeverReused.{IsNeverReused-made_by, IsNeverReused-without_object, IsNeverReused-with_object}
use Rattle.fm_cells.proofs.Soundness.{IsOrderly-made_by, IsOrderly-without_object, IsOrderly-with_object}

-- what is kept where a held object is given up, and where it is changed but for its birth and its words
abbrev IsKeptWithout : (Store → Type 0) → Type 0
IsKeptWithout P = (store : Store) (cell : ℕ) (object : Object) → P store → object_at store cell ≡ Some object → P (without_object store cell object)

abbrev IsKeptWith : (Store → Type 0) → Type 0
IsKeptWith P = (store : Store) (cell : ℕ) (old object : Object) → P store → object_at store cell ≡ Some old → object.birth ≡ old.birth → object_words object ≡ object_words old → P (with_object store cell object)

either_freed : (P : Store → Type 0) (fixed : Bool) (store : Store) (cell : ℕ) (object : Object) → P store → P (without_object store cell object) → P (cond fixed store (without_object store cell object))
either_freed P true store cell object old new = old
either_freed P false store cell object old new = new

kept_by_free : (P : Store → Type 0) → IsKeptWithout P → KeptByFree P
kept_by_free P without store cell h =
    elim (object_at store cell) as (λ o. object_at store cell ≡ o → P (freed_by store cell)) [
      | None ↦ λ e. subst P (sym (freed_by-none store cell e)) h
      | Some object ↦ λ e. subst P (sym (freed_by-some store cell object e)) (either_freed P object.fixed store cell object h (without store cell object h e))
    ] refl

kept_by_put : (P : Store → Type 0) → IsKeptWith P → KeptByPut P
kept_by_put P with store cell place element h =
    elim (object_at store cell) as (λ o. object_at store cell ≡ o → P (put_by store cell place element)) [
      | None ↦ λ e. subst P (sym (put_by-none store cell place element e)) h
      | Some object ↦ λ e. subst P (sym (put_by-some store cell place element object e)) (with store cell object (with_element object place element) h e refl (object_words-with_element object place element))
    ] refl

kept_by_chain : (P : Store → Type 0) → IsKeptWith P → KeptByChain P
kept_by_chain P with store cell to h =
    elim (object_at store cell) as (λ o. object_at store cell ≡ o → P (chained_by store cell to)) [
      | None ↦ λ e. subst P (sym (chained_by-none store cell to e)) h
      | Some object ↦ λ e. subst P (sym (chained_by-some store cell to object e)) (with store cell object (with_chain object to) h e refl refl)
    ] refl

-- stores in order
pub IsOrderly-make : KeptByMake IsOrderly
IsOrderly-make store request (Take cell grows) orderly may = IsOrderly-made_by store request cell grows orderly may
IsOrderly-make store request RefuseStore orderly may = orderly

pub IsOrderly-free : KeptByFree IsOrderly
IsOrderly-free = kept_by_free IsOrderly (λ store cell object h _. IsOrderly-without_object store cell object h)

abbrev orderly_with : IsKeptWith IsOrderly
orderly_with store cell old object h held same_birth _ = IsOrderly-with_object store cell old object h held same_birth

pub IsOrderly-put : KeptByPut IsOrderly
IsOrderly-put = kept_by_put IsOrderly orderly_with

pub IsOrderly-chain : KeptByChain IsOrderly
IsOrderly-chain = kept_by_chain IsOrderly orderly_with

-- stores of memory that is never reused
pub IsNeverReused-make : KeptByMakeOf IsNeverReused never_choice
IsNeverReused-make store request never =
    elim (passes_limit store request) as (λ b. passes_limit store request ≡ b → IsNeverReused (made_by store request (cond b RefuseStore (Take (store.births + 1) true)))) [
      | true ↦ λ _. never
      | false ↦ λ e. IsNeverReused-made_by store request never e
    ] refl

pub IsNeverReused-free : KeptByFree IsNeverReused
IsNeverReused-free = kept_by_free IsNeverReused (λ store cell object h _. IsNeverReused-without_object store cell object h)

abbrev never_with : IsKeptWith IsNeverReused
never_with store cell old object h held same_birth _ = IsNeverReused-with_object store cell old object h held same_birth

pub IsNeverReused-put : KeptByPut IsNeverReused
IsNeverReused-put = kept_by_put IsNeverReused never_with

pub IsNeverReused-chain : KeptByChain IsNeverReused
IsNeverReused-chain = kept_by_chain IsNeverReused never_with

-- stores of memory that takes the last freed cell
last_fresh : (store : Store) (request : Request) → IsLastReused store → free_cells store (request_size_class request) ≡ [] → IsLastReused (made_by store request (new_cell_choice store request (store.made_words + 1)))
last_fresh store request last none =
    elim (passes_limit store request) as (λ b. passes_limit store request ≡ b → IsLastReused (made_by store request (cond b RefuseStore (Take (store.made_words + 1) true)))) [
      | true ↦ λ _. last
      | false ↦ λ e. IsLastReused-fresh store request last e none
    ] refl

pub IsLastReused-make : KeptByMakeOf IsLastReused last_choice
IsLastReused-make store request last =
    elim (free_cells store (request_size_class request)) as (λ cells. free_cells store (request_size_class request) ≡ cells → IsLastReused (made_by store request (last_choice_among cells store request))) [
      | [] ↦ λ e. last_fresh store request last e
      | cell ∷ rest ↦ λ e. IsLastReused-head store request cell rest last e
    ] refl

pub IsLastReused-free : KeptByFree IsLastReused
IsLastReused-free = kept_by_free IsLastReused IsLastReused-without_object

pub IsLastReused-put : KeptByPut IsLastReused
IsLastReused-put = kept_by_put IsLastReused IsLastReused-with_object

pub IsLastReused-chain : KeptByChain IsLastReused
IsLastReused-chain = kept_by_chain IsLastReused IsLastReused-with_object

-- the live words after each call
pub live_words-freed_by : (store : Store) (cell : ℕ) (object : Object) → object_at store cell ≡ Some object → object.fixed ≡ false → live_words (freed_by store cell) + object_words object ≡ live_words store
live_words-freed_by store cell object held loose =
    let is : freed_by store cell ≡ without_object store cell object = freed_by-some store cell object held ∙ ap (λ b. cond b store (without_object store cell object)) loose in
    ap (λ s. live_words s + object_words object) is ∙ live_words-without_object store cell object held

pub live_words-put_by : (store : Store) (cell place element : ℕ) → live_words (put_by store cell place element) ≡ live_words store
live_words-put_by store cell place element =
    elim (object_at store cell) as (λ o. object_at store cell ≡ o → live_words (put_by store cell place element) ≡ live_words store) [
      | None ↦ λ e. ap live_words (put_by-none store cell place element e)
      | Some object ↦ λ e. ap live_words (put_by-some store cell place element object e) ∙ live_words-with_object store cell object (with_element object place element) e (object_words-with_element object place element)
    ] refl

pub live_words-chained_by : (store : Store) (cell to : ℕ) → live_words (chained_by store cell to) ≡ live_words store
live_words-chained_by store cell to =
    elim (object_at store cell) as (λ o. object_at store cell ≡ o → live_words (chained_by store cell to) ≡ live_words store) [
      | None ↦ λ e. ap live_words (chained_by-none store cell to e)
      | Some object ↦ λ e. ap live_words (chained_by-some store cell to object e) ∙ live_words-with_object store cell object (with_chain object to) e refl
    ] refl
