-- What is done one after the other: what finds what it needs isn't lost, so what is lost is lost by what comes behind. And nothing that is done changes the limits
-- of a store.
use Rattle.std.proofs.Common.{◌≡◌, ℕ, zero, suc, ◌+◌, Bool, true, false, cond, List, [], ◌∷◌, ◌++◌, append-nil, map, Option, Some, None, refl, sym, subst}
use Rattle.fm_cells.specs.Changes.{freed_by, on_object, with_chain, with_object, without_object}
use Rattle.fm_cells.specs.Objects.{Object, object_words}
use Rattle.fm_cells.specs.Stores.{object_at, Store}
use Rattle.fm_code.specs.declared.code_array.Code.{Code}
use Rattle.fm_frames.specs.Acts.{all_freed, cell_of, chain_from, freed, freed_object}
use Rattle.fm_frames.specs.States.{Areas, Frame, word_at}
use Rattle.fm_frames.specs.declared.values.Value.{Value}
use Rattle.fm_law_two_memories.proofs.Limits.{limits_same, limits_then}
use Rattle.fm_law_two_memories.specs.Results.{KeepsLimits}
use Rattle.fm_law_unwoven.specs.Doing.{all_areas_after, all_locals_after, areas_after, freed_along, freed_from, IsLost, joined_to, locals_after, Misses}
use Rattle.fm_law_unwoven.specs.Laid.{Todo, ToFree, ToFreeAll, ToKeep, ToLink, ToStart}
use Rattle.fm_place.specs.Woven.{local_of}

module _ (old : Code) (stack : List Value) where
  -- each thing finds what it needs, after those before it are done
  abbrev pub FindsAll : List Todo → List Value → Areas → Type 0
  FindsAll [] locals areas = Unit {0}
  FindsAll (t ∷ todos) locals areas =
      (Misses old areas stack locals t → ⊥) × FindsAll todos (locals_after old stack t locals) (areas_after old stack locals t areas)

  pub finds_both : (one two : List Todo) (locals : List Value) (areas : Areas) → FindsAll one locals areas
      → FindsAll two (all_locals_after old stack one locals) (all_areas_after old stack one locals areas) → FindsAll (one ++ two) locals areas
  finds_both [] two locals areas first second = second
  finds_both (t ∷ one) two locals areas first second =
      (first.0, finds_both one two (locals_after old stack t locals) (areas_after old stack locals t areas) first.1 second)

  -- one after the other
  pub areas_both : (one two : List Todo) (locals : List Value) (areas : Areas)
      → all_areas_after old stack (one ++ two) locals areas
      ≡ all_areas_after old stack two (all_locals_after old stack one locals) (all_areas_after old stack one locals areas)
  areas_both [] two locals areas = refl
  areas_both (t ∷ one) two locals areas = areas_both one two (locals_after old stack t locals) (areas_after old stack locals t areas)

  -- ---- at the start

  pub starts_find : (hs : List ℕ) (locals : List Value) (areas : Areas) → FindsAll (map ToStart hs) locals areas
  starts_find [] locals areas = tt
  starts_find (h ∷ hs) locals areas = ((λ misses. misses), starts_find hs (locals_after old stack (ToStart h) locals) areas)

  pub starts_areas : (hs : List ℕ) (locals : List Value) (areas : Areas) → all_areas_after old stack (map ToStart hs) locals areas ≡ areas
  starts_areas [] locals areas = refl
  starts_areas (h ∷ hs) locals areas = starts_areas hs (locals_after old stack (ToStart h) locals) areas

module _ (old : Code) where
  -- ---- what is lost

  -- the frame with what these leave in its locals
  abbrev pub frame_after : Frame → List Todo → Frame
  frame_after f first = record f { locals = all_locals_after old f.stack first f.locals }

  module _ (f : Frame) (areas : Areas) where
    behind_one : (t : Todo) → (Misses old areas f.stack f.locals t → ⊥) → (todos before : List Todo) (todo : Todo) (behind : List Todo)
        → t ∷ todos ≡ before ++ todo ∷ behind
        → Misses old (all_areas_after old f.stack before f.locals areas) f.stack (all_locals_after old f.stack before f.locals) todo
        → IsLost old (frame_after f (t ∷ [])) (areas_after old f.stack f.locals t areas) todos
    behind_one t finds todos [] todo behind is misses =
        let same : todo ≡ t = cc in absurd (finds (subst (Misses old areas f.stack f.locals) same misses))
    behind_one t finds todos (u ∷ before) todo behind is misses =
        let same : u ≡ t = cc in
        let others : todos ≡ before ++ todo ∷ behind = cc in
        record {
          before = before;
          todo = todo;
          behind = behind;
          is = others;
          misses = subst (λ v.
              Misses old (all_areas_after old f.stack (v ∷ before) f.locals areas) f.stack (all_locals_after old f.stack (v ∷ before) f.locals) todo) same misses;
        }

  pub lost_behind : (f : Frame) (areas : Areas) (first rest : List Todo) → FindsAll old f.stack first f.locals areas → IsLost old f areas (first ++ rest)
      → IsLost old (frame_after f first) (all_areas_after old f.stack first f.locals areas) rest
  lost_behind f areas [] rest finds lost = lost
  lost_behind f areas (t ∷ first) rest finds lost =
      lost_behind (frame_after f (t ∷ [])) (areas_after old f.stack f.locals t areas) first rest finds.1
      (behind_one f areas t finds.0 (first ++ rest) lost.before lost.todo lost.behind lost.is lost.misses)

  nothing_to_lose : (before behind : List Todo) (todo : Todo) → [] ≡ before ++ todo ∷ behind → ⊥
  nothing_to_lose [] behind todo is = cc
  nothing_to_lose (t ∷ before) behind todo is = cc

  -- nothing is, where all find what they need
  pub none_lost : (f : Frame) (areas : Areas) (todos : List Todo) → FindsAll old f.stack todos f.locals areas → IsLost old f areas todos → ⊥
  none_lost f areas todos finds lost =
      let last = lost_behind f areas todos [] finds (subst (IsLost old f areas) (sym (append-nil todos)) lost) in
      nothing_to_lose last.before last.behind last.todo last.is

  -- ---- limits

  freed_by_limits : (store : Store) (cell : ℕ) → KeepsLimits store (freed_by store cell)
  freed_by_limits store cell = by_object (object_at store cell) where
    by_fixed : (object : Object) (b : Bool) → KeepsLimits store (cond b store (without_object store cell object))
    by_fixed object true = limits_same store
    by_fixed object false = record { limit = refl; budget = refl }

    by_object : (found : Option Object)
        → KeepsLimits store (on_object found (λ (object : Object). cond object.fixed store (without_object store cell object)) store)
    by_object None = limits_same store
    by_object (Some object) = by_fixed object object.fixed

  freed_keeps : (x : Areas) (cell : ℕ) → KeepsLimits x.store (freed x cell).store
  freed_keeps x cell = by_object (object_at x.store cell) where
    by_fixed : (object : Object) (b : Bool)
        → KeepsLimits x.store (cond b x (record x { store = freed_by x.store cell; frees = x.frees + 1; freed_words = x.freed_words + object_words object })).store
    by_fixed object true = limits_same x.store
    by_fixed object false = freed_by_limits x.store cell

    by_object : (found : Option Object) → KeepsLimits x.store (freed_object x cell found).store
    by_object None = limits_same x.store
    by_object (Some object) = by_fixed object object.fixed

  from_keeps : (x : Areas) (cell : ℕ) → KeepsLimits x.store (freed_from x cell).store
  from_keeps x zero = limits_same x.store
  from_keeps x (suc cell) = freed_keeps x (suc cell)

  all_keep : (cells : List ℕ) (x : Areas) → KeepsLimits x.store (all_freed x cells).store
  all_keep [] x = limits_same x.store
  all_keep (cell ∷ cells) x =
      limits_then x.store (freed x cell).store (all_freed (freed x cell) cells).store (freed_keeps x cell) (all_keep cells (freed x cell))

  along_keeps : (x : Areas) (cells : Option (List ℕ)) → KeepsLimits x.store (freed_along x cells).store
  along_keeps x None = limits_same x.store
  along_keeps x (Some cells) = all_keep cells x

  joined_keeps : (joins : Bool) (x : Areas) (cell to : ℕ) → KeepsLimits x.store (joined_to joins x cell to).store
  joined_keeps false x cell to = limits_same x.store
  joined_keeps true x cell to = by_object (object_at x.store cell) where
    by_object : (found : Option Object)
        → KeepsLimits x.store (on_object found (λ (object : Object). with_object x.store cell (with_chain object to)) x.store)
    by_object None = limits_same x.store
    by_object (Some object) = record { limit = refl; budget = refl }

  one_keeps : (stack locals : List Value) (t : Todo) (x : Areas) → KeepsLimits x.store (areas_after old stack locals t x).store
  one_keeps stack locals (ToStart h) x = limits_same x.store
  one_keeps stack locals (ToKeep h) x = limits_same x.store
  one_keeps stack locals (ToLink h joins) x = joined_keeps joins x (cell_of (word_at stack 0)) (cell_of (word_at locals (local_of old h)))
  one_keeps stack locals (ToFree h) x = from_keeps x (cell_of (word_at locals (local_of old h)))
  one_keeps stack locals (ToFreeAll h) x = along_keeps x (chain_from x.store (cell_of (word_at locals (local_of old h))))

  -- whatever is done
  pub todos_keep_limits : (stack : List Value) (todos : List Todo) (locals : List Value) (x : Areas)
      → KeepsLimits x.store (all_areas_after old stack todos locals x).store
  todos_keep_limits stack [] locals x = limits_same x.store
  todos_keep_limits stack (t ∷ todos) locals x =
      let y : Areas = areas_after old stack locals t x in
      limits_then x.store y.store (all_areas_after old stack (t ∷ todos) locals x).store (one_keeps stack locals t x)
      (todos_keep_limits stack todos (locals_after old stack t locals) y)
