-- The object that a step makes last, after the start of classes, is born in the step, and doesn't live for ever.
use Rattle.std.proofs.Common.{◌≡◌, ℕ, ◌+◌, ◌<◌, ◌≤◌, Bool, true, false, cond, List, [], ◌∷◌, ◌++◌, length, Some, refl, slice_index_or, arith}
use Rattle.std.specs.List.{AllByRecursion}
use Rattle.fm_base.specs.declared.kinds.TypeRef.{TypeRef}
use Rattle.fm_cells.specs.Changes.{Choice, RefuseStore, Take}
use Rattle.fm_cells.specs.Choices.{MayReuse}
use Rattle.fm_cells.specs.Objects.{Object, Request}
use Rattle.fm_cells.specs.Stores.{object_at, Store}
use Rattle.fm_world.specs.Programs.{Outline}
use Rattle.fm_frames.specs.Acts.{Choose, Did, is_there, literal_made, literal_text, literal_type, made_object, made_then, performed, Performed, requested, set_static, value_of}
use Rattle.fm_frames.specs.Effects.{Action, Make, MakeLiteral, SetStatic, Start}
use Rattle.fm_frames.specs.States.{Areas}
use Rattle.fm_frames.specs.declared.values.Value.{Value}
use Rattle.fm_same.proofs.ActsKeep.{made_as, make_is, stored_as}
use Rattle.fm_same.proofs.StoreChanges.{IsMade, put_here}
use Rattle.fm_law_sound.proofs.Opening.{IsOfStart}

-- an object that was born from this number on, and doesn't live for ever
pub record IsNew (births : ℕ) (store : Store) (cell : ℕ) : Type 0 where
  pub object : Object
  pub held : object_at store cell ≡ Some object
  pub since : births ≤ object.birth
  pub born : object.birth < store.births
  pub not_fixed : object.fixed ≡ false

-- the first object that is made is one, where all is done
abbrev pub NewFirst : ℕ → Performed → Type 0
NewFirst births (Did y cells) = IsNew births y.store (slice_index_or cells 0 0)
NewFirst births result = Unit {0}

either_first : (births : ℕ) (b : Bool) (one other : Performed) → NewFirst births one → NewFirst births other → NewFirst births (cond b one other)
either_first births true one other first second = first
either_first births false one other first second = second

module _ (o : Outline) (choose : Choose) (may : (s : Store) (request : Request) → MayReuse s request (choose s request)) (locals stack : List Value) (births : ℕ) where
  -- what is made with its content was born where the births stood
  made_now : (x : Areas) (request : Request) (cell : ℕ) (grows : Bool) → births ≤ x.store.births → request.fixed ≡ false
      → MayReuse x.store request (Take cell grows) → IsNew births (stored_as x.store request cell grows []) cell
  made_now x request cell grows le loose may_be =
      let object : Object = made_as x.store request [] in
      let is : IsMade x.store (stored_as x.store request cell grows []) cell object = make_is x.store request cell grows [] may_be.1 in
      let born : object.birth ≡ x.store.births = is.birth in
      let more : (stored_as x.store request cell grows []).births ≡ x.store.births + 1 = is.births in
      record {
        object = object;
        held = put_here x.store (stored_as x.store request cell grows []) cell object is.puts;
        since = omega (arith, born, le);
        born = omega (arith, born, more);
        not_fixed = loose;
      }

  last_made : (t : TypeRef) (n : ℕ) (x : Areas) (choice : Choice) → births ≤ x.store.births → MayReuse x.store (requested o t n false) choice
      → NewFirst births (made_then x (requested o t n false) [] choice (λ y cell. Did y (cell ∷ [])))
  last_made t n x RefuseStore le may_be = tt
  last_made t n x (Take cell grows) le may_be = made_now x (requested o t n false) cell grows le refl may_be

  literal_then : (x : Areas) (request : Request) (content : List ℕ) (choice : Choice) (follows : Areas → ℕ → Performed) → births ≤ x.store.births
      → MayReuse x.store request choice → ((y : Areas) (cell : ℕ) → births ≤ y.store.births → NewFirst births (follows y cell))
      → NewFirst births (made_then x request content choice follows)
  literal_then x request content RefuseStore follows le may_be then = tt
  literal_then x request content (Take cell grows) follows le may_be then =
      let is = make_is x.store request cell grows content may_be.1 in
      let more : (stored_as x.store request cell grows content).births ≡ x.store.births + 1 = is.births in
      then (record x { store = stored_as x.store request cell grows content }) cell (omega (arith, le, more))

  pub new_first : (t : TypeRef) (n : ℕ) (starts : List Action) → AllByRecursion IsOfStart starts → (x : Areas) → births ≤ x.store.births
      → NewFirst births (performed o choose locals stack (starts ++ Make t n [] ∷ []) x [])
  unfolding performed
  new_first t n [] each x le = last_made t n x (choose x.store (requested o t n false)) le (may x.store (requested o t n false))
  new_first t n (MakeLiteral text ∷ more) each x le =
      let len : ℕ = length (literal_text o text) in
      either_first births (is_there x text) (performed o choose locals stack (more ++ Make t n [] ∷ []) x [])
      (made_object o choose (literal_type o text) len true (literal_text o text) x
      (λ y cell. performed o choose locals stack (more ++ Make t n [] ∷ []) (literal_made y text cell) []))
      (new_first t n more each.1 x le)
      (literal_then x (requested o (literal_type o text) len true) (literal_text o text) (choose x.store (requested o (literal_type o text) len true))
      (λ y cell. performed o choose locals stack (more ++ Make t n [] ∷ []) (literal_made y text cell) []) le
      (may x.store (requested o (literal_type o text) len true)) (λ y cell later. new_first t n more each.1 (literal_made y text cell) later))
  new_first t n (SetStatic field k v ∷ more) each x le =
      new_first t n more each.1 (set_static x field k (value_of (record { locals = locals; stack = stack; areas = x; made = [] }) v)) le
  new_first t n (Start class ∷ more) each x le = new_first t n more each.1 _ le
  new_first t n (action ∷ more) each x le = absurd each.0
