-- What holds of the number of the type of each object that is held, and of each one that is made, holds of those that are held after actions.
use Rattle.std.proofs.Common.{◌≡◌, ℕ, ◌+◌, ◌∷◌, ◌++◌, cond, nat_eq, Bool, true, false, List, [], length, Option, Some, None, refl, sym, ◌∙◌, ap, subst, unwrap_or, slice_set}
use Rattle.std.specs.List.{AllByRecursion}
use Rattle.fm_base.specs.declared.kinds.TypeRef.{TypeRef}
use Rattle.fm_cells.proofs.Changes.{object_at-made_by, object_at-with_object, object_at-without_object}
use Rattle.fm_cells.proofs.Elements.{chained_by-none, chained_by-some, freed_by-some, put_by-none, put_by-some}
use Rattle.fm_cells.specs.Changes.{Choice, chained_by, freed_by, made_by, put_by, RefuseStore, Take, with_chain, with_element, with_object, without_object}
use Rattle.fm_cells.specs.Objects.{new_object, Object, object_words, Request}
use Rattle.fm_cells.specs.Stores.{object_at, Store}
use Rattle.fm_frames.specs.Acts.{all_freed, cell_of, chain_from, chain_freed, chained, Choose, copied, Did, freed, freed_object, FullAt, is_there, literal_made, literal_text, literal_type, LostAt, made_then, performed, Performed, put_value, requested, set_static, Sources, value_of, with_content}
use Rattle.fm_frames.specs.Effects.{Action, Copy, Free, FreeChain, Make, MakeFixed, MakeLiteral, Put, SetChain, SetStatic, Start}
use Rattle.fm_frames.specs.Elements.{kept}
use Rattle.fm_frames.specs.States.{Areas, word_at}
use Rattle.fm_frames.specs.declared.values.Value.{Value}
use Rattle.fm_law_sound.proofs.ActsKeep.{content_in, heap_put}
use Rattle.fm_world.specs.Numbers.{type_number}
use Rattle.fm_world.specs.Programs.{Outline}

module _ (P : ℕ → Type 0) where
  -- of each object that is held
  abbrev pub Holds : Store → Type 0
  Holds store = (cell : ℕ) (object : Object) → object_at store cell ≡ Some object → P object.class

  -- of those that the result leaves
  abbrev pub LeavesHeld : Performed → Type 0
  LeavesHeld (Did x made) = Holds x.store
  LeavesHeld (FullAt x needed) = Holds x.store
  LeavesHeld (LostAt v) = Unit {0}

  -- ---- one cell

  held_changed : (store : Store) (cell : ℕ) (old object : Object) → object_at store cell ≡ Some old → object.class ≡ old.class → Holds store
      → Holds (with_object store cell object)
  held_changed store cell old object held same h =
      heap_put (λ (x : Object). P x.class) store (with_object store cell object) cell object (subst P (sym same) (h cell old held))
      (λ q. object_at-with_object store cell object q) h

  held_made : (store : Store) (request : Request) (cell : ℕ) (grows : Bool) → P request.class → Holds store
      → Holds (made_by store request (Take cell grows))
  held_made store request cell grows new h =
      heap_put (λ (x : Object). P x.class) store (made_by store request (Take cell grows)) cell (new_object store.births request) new
      (λ q. object_at-made_by store request cell grows q) h

  held_filled : (store : Store) (cell : ℕ) (content : List ℕ) → Holds store → Holds (with_content store cell content)
  held_filled store cell [] h = h
  held_filled store cell (unit ∷ units) h = by_object (object_at store cell) refl where
    by_object : (found : Option Object) → object_at store cell ≡ found → Holds (content_in store cell unit units found)
    by_object None is = h
    by_object (Some object) is = held_changed store cell object (record object { elements = unit ∷ units }) is refl h

  held_put : (store : Store) (cell place n : ℕ) → Holds store → Holds (put_by store cell place n)
  held_put store cell place n h = by_object (object_at store cell) refl where
    by_object : (found : Option Object) → object_at store cell ≡ found → Holds (put_by store cell place n)
    by_object None is = subst Holds (sym (put_by-none store cell place n is)) h
    by_object (Some object) is =
        subst Holds (sym (put_by-some store cell place n object is)) (held_changed store cell object (with_element object place n) is refl h)

  held_chained : (store : Store) (cell to : ℕ) → Holds store → Holds (chained_by store cell to)
  held_chained store cell to h = by_object (object_at store cell) refl where
    by_object : (found : Option Object) → object_at store cell ≡ found → Holds (chained_by store cell to)
    by_object None is = subst Holds (sym (chained_by-none store cell to is)) h
    by_object (Some object) is = subst Holds (sym (chained_by-some store cell to object is)) (held_changed store cell object (with_chain object to) is refl h)

  held_without : (store : Store) (cell : ℕ) (object : Object) → Holds store → Holds (without_object store cell object)
  held_without store cell object h =
      λ q found is. h q found (still (nat_eq q cell) q found (sym (object_at-without_object store cell object q) ∙ is)) where
        still : (b : Bool) (q : ℕ) (found : Object) → cond b None (object_at store q) ≡ Some found → object_at store q ≡ Some found
        still true q found is = absurd (cc)
        still false q found is = is

  held_freed : (x : Areas) (cell : ℕ) → Holds x.store → Holds (freed x cell).store
  held_freed x cell h = by_object (object_at x.store cell) refl where
    by_fixed : (b : Bool) (object : Object) → object_at x.store cell ≡ Some object → object.fixed ≡ b
        → Holds (cond b x (record x { store = freed_by x.store cell; frees = x.frees + 1; freed_words = x.freed_words + object_words object })).store
    by_fixed true object held is = h
    by_fixed false object held is =
        subst Holds (sym (freed_by-some x.store cell object held ∙ ap (λ b. cond b x.store (without_object x.store cell object)) is))
        (held_without x.store cell object h)

    by_object : (found : Option Object) → object_at x.store cell ≡ found → Holds (freed_object x cell found).store
    by_object None held = h
    by_object (Some object) held = by_fixed object.fixed object held refl

  held_all_freed : (x : Areas) (cells : List ℕ) → Holds x.store → Holds (all_freed x cells).store
  held_all_freed x [] h = h
  held_all_freed x (cell ∷ cells) h = held_all_freed (freed x cell) cells (held_freed x cell h)

  -- ---- actions

  module _ (o : Outline) where
    -- of the type's number
    abbrev pub OfNumber : TypeRef → Type 0
    OfNumber t = P (unwrap_or (type_number o.types t) 0)

    -- of the type of what an action makes
    abbrev pub Makes : Action → Type 0
    Makes (Make t len content) = OfNumber t
    Makes (MakeFixed t) = OfNumber t
    Makes (MakeLiteral text) = OfNumber (literal_type o text)
    Makes (Copy t len operand) = OfNumber t
    Makes action = Unit {0}

    made_goes : (x : Areas) (t : TypeRef) (len : ℕ) (content : List ℕ) (fixed : Bool) (choice : Choice) (follows : Areas → ℕ → Performed) → OfNumber t
        → Holds x.store → ((later : Store) (cell : ℕ) → Holds later → LeavesHeld (follows (record x { store = later }) cell))
        → LeavesHeld (made_then x (requested o t len fixed) content choice follows)
    made_goes x t len content fixed RefuseStore follows new h rest = h
    made_goes x t len content fixed (Take cell grows) follows new h rest =
        let store : Store = made_by x.store (requested o t len fixed) (Take cell grows) in
        rest (with_content store cell content) cell (held_filled store cell content (held_made x.store (requested o t len fixed) cell grows new h))

    either_leaves : (b : Bool) (one other : Performed) → LeavesHeld one → LeavesHeld other → LeavesHeld (cond b one other)
    either_leaves true one other first second = first
    either_leaves false one other first second = second

    module _ (choose : Choose) (locals stack : List Value) where
      chain_goes : (x : Areas) (v : Value) (cells : Option (List ℕ)) (follows : Areas → Performed) → Holds x.store
          → ((y : Areas) → Holds y.store → LeavesHeld (follows y)) → LeavesHeld (chain_freed x v cells follows)
      chain_goes x v None follows h rest = tt
      chain_goes x v (Some cells) follows h rest = rest (all_freed x cells) (held_all_freed x cells h)

      pub acts_hold : (actions : List Action) (x : Areas) (made : List ℕ) → AllByRecursion Makes actions → Holds x.store
          → LeavesHeld (performed o choose locals stack actions x made)
      unfolding performed
      acts_hold [] x made all h = h
      acts_hold (Make t len content ∷ more) x made all h =
          made_goes x t len content false (choose x.store (requested o t len false)) _ all.0 h
          (λ later cell held. acts_hold more (record x { store = later }) (made ++ cell ∷ []) all.1 held)
      acts_hold (MakeFixed t ∷ more) x made all h =
          made_goes x t 0 [] true (choose x.store (requested o t 0 true)) _ all.0 h
          (λ later cell held. acts_hold more (record x { store = later }) (made ++ cell ∷ []) all.1 held)
      acts_hold (MakeLiteral text ∷ more) x made all h =
          let t : TypeRef = literal_type o text in
          let len : ℕ = length (literal_text o text) in
          either_leaves (is_there x text) (performed o choose locals stack more x made)
          (made_then x (requested o t len true) (literal_text o text) (choose x.store (requested o t len true))
          (λ y cell. performed o choose locals stack more (literal_made y text cell) made))
          (acts_hold more x made all.1 h)
          (made_goes x t len (literal_text o text) true (choose x.store (requested o t len true))
          (λ y cell. performed o choose locals stack more (literal_made y text cell) made) all.0 h
          (λ later cell held. acts_hold more (literal_made (record x { store = later }) text cell) made all.1 held))
      acts_hold (Put object place k v ∷ more) x made all h =
          let from : Sources = record { locals = locals; stack = stack; areas = x; made = made } in
          acts_hold more (put_value x (value_of from object) place k (value_of from v)) made all.1
          (held_put x.store (cell_of (value_of from object)) place (kept k (value_of from v)) h)
      acts_hold (SetStatic slot k v ∷ more) x made all h =
          let from : Sources = record { locals = locals; stack = stack; areas = x; made = made } in
          acts_hold more (set_static x slot k (value_of from v)) made all.1 h
      acts_hold (Start class ∷ more) x made all h = acts_hold more (record x { started = slice_set x.started class true }) made all.1 h
      acts_hold (Free operand ∷ more) x made all h =
          acts_hold more (freed x (cell_of (word_at stack operand))) made all.1 (held_freed x (cell_of (word_at stack operand)) h)
      acts_hold (SetChain operand to ∷ more) x made all h =
          acts_hold more (chained x (cell_of (word_at stack operand)) (cell_of (word_at stack to))) made all.1
          (held_chained x.store (cell_of (word_at stack operand)) (cell_of (word_at stack to)) h)
      acts_hold (FreeChain operand ∷ more) x made all h =
          chain_goes x (word_at stack operand) (chain_from x.store (cell_of (word_at stack operand))) (λ y. performed o choose locals stack more y made) h
          (λ y held. acts_hold more y made all.1 held)
      acts_hold (Copy t len operand ∷ more) x made all h =
          made_goes x t len (copied x.store (cell_of (word_at stack operand)) len) false (choose x.store (requested o t len false)) _ all.0 h
          (λ later cell held. acts_hold more (record x { store = later }) (made ++ cell ∷ []) all.1 held)
