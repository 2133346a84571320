-- What inserted items do to a state: they change holders, link what holders of chains get, and free what holders kept, and nothing else.
use Rattle.std.specs.Prelude.{◌≡◌, ℕ, zero, suc, ◌+◌, ◌<◌, Bool, true, false, not, Option, List, [], ◌∷◌, ◌++◌, length, drop, Some, None, slice_set}
use Rattle.fm_code.specs.declared.code_array.Code.{Code}
use Rattle.fm_cells.specs.Objects.{Object}
use Rattle.fm_cells.specs.Stores.{object_at, Store}
use Rattle.fm_frames.specs.Acts.{all_freed, cell_of, chain_from, chained, Choose, freed}
use Rattle.fm_frames.specs.States.{Areas, Frame, null, State, word_at}
use Rattle.fm_frames.specs.Steps.{step}
use Rattle.fm_frames.specs.declared.ends.Ended.TheVariants as end
use Rattle.fm_frames.specs.declared.values.Value.{Value}
use Rattle.fm_law_chained.specs.Called.{with_frame}
use Rattle.fm_place.specs.Insertions.{Insertions}
use Rattle.fm_place.specs.Woven.{local_of}
use Rattle.fm_world.specs.Programs.{Program}
use Rattle.fm_law_same_runs.specs.Beside.{IsAtInserted, Marks}
use Rattle.fm_law_sound.specs.Sound.{IsReference}
use Rattle.fm_law_unwoven.specs.Laid.{all_insns_to, LieInserted, Todo, ToFree, ToFreeAll, ToKeep, ToLink, ToStart}
use Rattle.fm_law_unwoven.specs.WovenFrom.{HasInserted, own_marks}

-- ---- inserted steps

-- from one state this many steps lead to another; each begins at an inserted item, prints nothing, and leaves the frames below the topmost one as they are
abbrev pub IsPassed : Program → Marks → Choose → ℕ → State → State → Type 0
IsPassed q marks choose zero y z = y ≡ z
IsPassed q marks choose (suc n) y z =
    IsAtInserted marks y × ((step q choose y).printed ≡ []) × (drop 1 (step q choose y).state.frames ≡ drop 1 y.frames)
    × IsPassed q marks choose n (step q choose y).state z

-- ---- what is done

-- what a holder of a chain has: what joined it, or what it had
abbrev pub left_in : (joins : Bool) → (top held : Value) → Value
left_in true top held = top
left_in false top held = held

-- the locals after it: the holder has the word on top of the stack, or null; one of a chain may have what it had
abbrev pub locals_after : Code → List Value → Todo → List Value → List Value
locals_after old stack (ToStart h) locals = slice_set locals (local_of old h) null
locals_after old stack (ToKeep h) locals = slice_set locals (local_of old h) (word_at stack 0)
locals_after old stack (ToLink h joins) locals = slice_set locals (local_of old h) (left_in joins (word_at stack 0) (word_at locals (local_of old h)))
locals_after old stack (ToFree h) locals = slice_set locals (local_of old h) null
locals_after old stack (ToFreeAll h) locals = slice_set locals (local_of old h) null

-- what is in a cell is freed, unless it lives for ever; null is passed over
abbrev pub freed_from : Areas → ℕ → Areas
freed_from x zero = x
freed_from x (suc cell) = freed x (suc cell)

-- what is in the cells that a walk finds is freed
abbrev pub freed_along : Areas → Option (List ℕ) → Areas
freed_along x None = x
freed_along x (Some cells) = all_freed x cells

-- an object is put before a chain, if it joins that
abbrev pub joined_to : (joins : Bool) → Areas → (cell chain : ℕ) → Areas
joined_to true x cell chain = chained x cell chain
joined_to false x cell chain = x

-- the areas after it: what a holder keeps is freed, or all of its chain; or what is on top is put before its chain
abbrev pub areas_after : Code → List Value → List Value → Todo → Areas → Areas
areas_after old stack locals (ToStart h) areas = areas
areas_after old stack locals (ToKeep h) areas = areas
areas_after old stack locals (ToLink h joins) areas = joined_to joins areas (cell_of (word_at stack 0)) (cell_of (word_at locals (local_of old h)))
areas_after old stack locals (ToFree h) areas = freed_from areas (cell_of (word_at locals (local_of old h)))
areas_after old stack locals (ToFreeAll h) areas = freed_along areas (chain_from areas.store (cell_of (word_at locals (local_of old h))))

-- all of it, one after the other
abbrev pub all_locals_after : Code → List Value → List Todo → List Value → List Value
all_locals_after old stack [] locals = locals
all_locals_after old stack (t ∷ todos) locals = all_locals_after old stack todos (locals_after old stack t locals)

-- all of it, one after the other
abbrev pub all_areas_after : Code → List Value → List Todo → List Value → Areas → Areas
all_areas_after old stack [] locals areas = areas
all_areas_after old stack (t ∷ todos) locals areas =
    all_areas_after old stack todos (locals_after old stack t locals) (areas_after old stack locals t areas)

-- how many steps it takes
abbrev pub steps_to : Todo → ℕ
steps_to (ToStart h) = 2
steps_to (ToKeep h) = 2
steps_to (ToLink h joins) = 4
steps_to (ToFree h) = 4
steps_to (ToFreeAll h) = 4

-- all of it
abbrev pub all_steps_to : List Todo → ℕ
all_steps_to [] = 0
all_steps_to (t ∷ todos) = steps_to t + all_steps_to todos

-- ---- what is required

-- an object joins a chain unless it lives for ever; null and a cell that isn't held don't
abbrev pub may_join : Option Object → Bool
may_join None = false
may_join (Some object) = not object.fixed

-- the same of what is in a cell
abbrev pub joins_in : Store → ℕ → Bool
joins_in store zero = false
joins_in store (suc cell) = may_join (object_at store (suc cell))

-- what is on top is a reference, and joins a chain or not as the store has it
pub record MayLink (old : Code) (store : Store) (stack locals : List Value) (holder : ℕ) (joins : Bool) : Type 0 where
  pub some : 0 < length stack
  pub top : IsReference (word_at stack 0)
  pub held : IsReference (word_at locals (local_of old holder))
  pub local : local_of old holder < length locals
  pub joins_is : joins ≡ joins_in store (cell_of (word_at stack 0))

-- there is a word to keep, what is freed is a reference, and the holder's local is there
abbrev pub MayDo : Code → Areas → List Value → List Value → Todo → Type 0
MayDo old areas stack locals (ToStart h) = local_of old h < length locals
MayDo old areas stack locals (ToKeep h) = (0 < length stack) × (local_of old h < length locals)
MayDo old areas stack locals (ToLink h joins) = MayLink old areas.store stack locals h joins
MayDo old areas stack locals (ToFree h) = IsReference (word_at locals (local_of old h)) × (local_of old h < length locals)
MayDo old areas stack locals (ToFreeAll h) = IsReference (word_at locals (local_of old h)) × (local_of old h < length locals)

-- all of it, each after what comes before
abbrev pub MayDoAll : Code → Areas → List Value → List Value → List Todo → Type 0
MayDoAll old areas stack locals [] = Unit {0}
MayDoAll old areas stack locals (t ∷ todos) =
    MayDo old areas stack locals t × MayDoAll old (areas_after old stack locals t areas) stack (locals_after old stack t locals) todos

-- ---- what comes of it

-- the state after it, where the next item is this one
abbrev pub state_after : Code → State → Frame → List Frame → List Todo → ℕ → State
state_after old y f callers todos next = record y {
  frames = record f { item = next; locals = all_locals_after old f.stack todos f.locals } ∷ callers;
  areas = all_areas_after old f.stack todos f.locals y.areas;
  steps = y.steps + all_steps_to todos;
  ended = None;
}

-- a cell that isn't held
abbrev pub IsNotHeld : Store → ℕ → Type 0
IsNotHeld store cell = (below : ℕ) × (cell ≡ suc below) × (object_at store (suc below) ≡ None)

-- what is to be freed or put before a chain isn't held, or a walk along a chain finds none
abbrev pub Misses : Code → Areas → List Value → List Value → Todo → Type 0
Misses old areas stack locals (ToStart h) = ⊥
Misses old areas stack locals (ToKeep h) = ⊥
Misses old areas stack locals (ToLink h joins) = IsNotHeld areas.store (cell_of (word_at stack 0))
Misses old areas stack locals (ToFree h) = IsNotHeld areas.store (cell_of (word_at locals (local_of old h)))
Misses old areas stack locals (ToFreeAll h) = chain_from areas.store (cell_of (word_at locals (local_of old h))) ≡ None

-- so it is of one of the things, after those before it are done
pub record IsLost (old : Code) (f : Frame) (areas : Areas) (todos : List Todo) : Type 0 where
  pub before : List Todo
  pub todo : Todo
  pub behind : List Todo
  pub is : todos ≡ before ++ todo ∷ behind
  pub misses : Misses old (all_areas_after old f.stack before f.locals areas) f.stack (all_locals_after old f.stack before f.locals) todo

-- All is done, or the run ends in a fault, where what is to be freed or put before a chain isn't held, or a walk along a chain that is to be freed finds
-- none.
pub data IsDone (q : Program) (marks : Marks) (choose : Choose) (old : Code) (y : State) (f : Frame) (callers : List Frame) (todos : List Todo) (next : ℕ) : Type 0 where
  AllDone : IsPassed q marks choose (all_steps_to todos) (with_frame y f callers) (state_after old y f callers todos next)
      → IsDone q marks choose old y f callers todos next
  OneLost : (count method offset cell : ℕ) (z : State) → IsLost old f y.areas todos → count < all_steps_to todos
      → IsPassed q marks choose count (with_frame y f callers) z → IsAtInserted marks z
      → (step q choose z).state.ended ≡ Some (end.Fault (record { 0 = method }) offset cell) → (step q choose z).printed ≡ []
      → IsDone q marks choose old y f callers todos next

-- what is inserted into a method is done, from where it is inserted on
abbrev pub TodosAreDone : Type 0
TodosAreDone =
    (q : Program) (marks : Marks) (choose : Choose) (f : Frame) (old : Code) (plan : Insertions) (w : HasInserted q marks f.method old plan)
    → (todos : List Todo) (next : ℕ) → LieInserted w.new (own_marks marks f.method) f.item (all_insns_to w.calls old todos) next
    → (y : State) (callers : List Frame) → MayDoAll old y.areas f.stack f.locals todos
    → IsDone q marks choose old y f callers todos next
