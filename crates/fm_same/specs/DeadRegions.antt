-- The law of dead regions: once a captured class of an activation isn't busy, or the activation is gone, nothing leads any longer to what the class led
-- to, and no step changes it.
use Rattle.std.specs.Prelude.{◌≡◌, ℕ, suc, ◌+◌, ◌<◌, ◌≤◌, ◌⊎◌, false, true, List, [], ◌∷◌, length, Option, Some, slice_get}
use Rattle.std.specs.List.{slice_index_or}
use Rattle.fm_base.specs.declared.kinds.Kind.TheVariants as kind
use Rattle.fm_base.specs.declared.kinds.TypeRef.{TypeRef}
use Rattle.fm_base.specs.declared.limits.TheConstants.{MAX_LIVE_WORDS}
use Rattle.fm_cells.specs.Objects.{Object}
use Rattle.fm_cells.specs.Stores.{object_at, opened, Store}
use Rattle.fm_code.specs.declared.code_array.Code.{Code}
use Rattle.fm_conn.specs.Facts.{Facts}
use Rattle.fm_conn.specs.Links.{typed_method}
use Rattle.fm_conn.specs.Nodes.{Local}
use Rattle.fm_world.specs.Programs.{code_at, Outline, Program}
use Rattle.fm_frames.specs.Acts.{cell_of, Choose}
use Rattle.fm_frames.specs.Runs.{after, Job, opening}
use Rattle.fm_frames.specs.States.{Frame, State}
use Rattle.fm_cells.specs.Choices.{lawful}
use Rattle.fm_frames.specs.Steps.{step}
use Rattle.fm_frames.specs.declared.values.Value.{Value}
use Rattle.fm_place.specs.Places.{is_busy}
use Rattle.fm_place.specs.Sites.{is_captured}
use Rattle.fm_same.specs.Colours.{node_of_word}
use Rattle.fm_law_sound.specs.Making.{ArgumentsFit}
use Rattle.fm_law_sound.specs.Placing.{kind_in}
use Rattle.fm_law_sound.specs.Sound.{IsSoundBy}
use Rattle.fm_same.specs.Standing.{method_of}

-- ---- what leads where

-- an element of the object leads to the next cell
pub record IsStep (o : Outline) (store : Store) (cell next : ℕ) : Type 0 where
  pub object : Object
  pub held : object_at store cell ≡ Some object
  pub place : ℕ
  pub type : TypeRef
  pub reference : kind_in o object place ≡ Some (kind.Ref type)
  pub leads : slice_index_or object.elements place 0 ≡ next

-- cells lead from one to the last, each by an element
abbrev pub IsTrail : Outline → Store → ℕ → List ℕ → ℕ → Type 0
IsTrail o store cell [] last = cell ≡ last
IsTrail o store cell (next ∷ rest) last = IsStep o store cell next × IsTrail o store next rest last

-- the value leads to the object of that birth, which doesn't live for ever
pub record LeadsTo (o : Outline) (store : Store) (v : Value) (birth : ℕ) : Type 0 where
  pub trail : List ℕ
  pub last : ℕ
  pub follows : IsTrail o store (cell_of v) trail last
  pub object : Object
  pub held : object_at store last ≡ Some object
  pub not_fixed : object.fixed ≡ false
  pub is : object.birth ≡ birth

-- ---- what frames hold

-- a live local, or a word of the stack
pub data IsHeldBy (facts : Facts) (f : Frame) (v : Value) : Type 0 where
  InLocal : (k : ℕ) → slice_get f.locals k ≡ Some v → facts.live f.method k f.item ≡ true → IsHeldBy facts f v
  InWord : (n : ℕ) → slice_get f.stack n ≡ Some v → IsHeldBy facts f v

-- of any of the frames
abbrev pub IsRoot : Facts → List Frame → Value → Type 0
IsRoot facts [] v = ⊥
IsRoot facts (f ∷ callers) v = IsHeldBy facts f v ⊎ IsRoot facts callers v

-- one whose node is in the class
pub data IsHeldIn (facts : Facts) (class : ℕ) (f : Frame) (v : Value) : Type 0 where
  InLocalOf : (k : ℕ) → slice_get f.locals k ≡ Some v → facts.live f.method k f.item ≡ true → facts.class f.method (Local k) ≡ class
      → IsHeldIn facts class f v
  InWordOf : (n : ℕ) → slice_get f.stack n ≡ Some v → facts.class f.method (node_of_word f n) ≡ class → IsHeldIn facts class f v

-- of the frame that has `depth` others below it
abbrev pub IsHeldAt : Facts → (depth class : ℕ) → List Frame → Value → Type 0
IsHeldAt facts depth class [] v = ⊥
IsHeldAt facts depth class (f ∷ callers) v = ((length callers ≡ depth) × IsHeldIn facts class f v) ⊎ IsHeldAt facts depth class callers v

-- ---- activations

-- the frame that has `depth` others below it is one of the method
abbrev pub IsMethodAt : (method depth : ℕ) → List Frame → Type 0
IsMethodAt method depth [] = ⊥
IsMethodAt method depth (f ∷ callers) = ((length callers ≡ depth) × (f.method ≡ method)) ⊎ IsMethodAt method depth callers

-- the class isn't busy at the frame's item: neither a word of the stack nor a live local is in it
abbrev pub IsQuiet : Program → Facts → (class : ℕ) → Frame → Type 0
IsQuiet p facts class f = (code : Code) → code_at p f.method ≡ Some code → is_busy facts (method_of p facts f code) class f.item ≡ false

-- the frame is gone, or is the topmost one and the class isn't busy
abbrev pub IsOver : Program → Facts → (method depth class : ℕ) → List Frame → Type 0
IsOver p facts method depth class [] = Unit {0}
IsOver p facts method depth class (f ∷ callers) =
    (length callers < depth) ⊎ ((length callers ≡ depth) × (f.method ≡ method) × IsQuiet p facts class f)

-- ---- dead

-- nothing leads to the object of that birth, and the next state has it as it is
pub record IsDead (p : Program) (facts : Facts) (birth : ℕ) (x next : State) : Type 0 where
  pub no_root : (v : Value) → IsRoot facts x.frames v → ¬ LeadsTo p.outline x.areas.store v birth
  pub no_static : (slot : ℕ) (v : Value) → slice_get x.areas.statics slot ≡ Some v → ¬ LeadsTo p.outline x.areas.store v birth
  pub still : (cell : ℕ) (object : Object) → object_at x.areas.store cell ≡ Some object → object.fixed ≡ false → object.birth ≡ birth
      → object_at next.areas.store cell ≡ Some object

-- An activation of the method lasts from one state to another; meanwhile a holder in a captured
-- class leads to an object; and then the activation is gone, or the class isn't busy.
pub record IsRetired (p : Program) (facts : Facts) (xs : ℕ → State) (method depth class birth first count : ℕ) : Type 0 where
  pub code : Code
  pub code_is : code_at p method ≡ Some code
  pub captured : is_captured facts (typed_method p facts.typing method code) class ≡ true
  pub stands : (k : ℕ) → k ≤ count → IsMethodAt method depth (xs (first + k)).frames
  pub from : Value
  pub held : IsHeldAt facts depth class (xs first).frames from
  pub leads : LeadsTo p.outline (xs first).areas.store from birth
  pub over : IsOver p facts method depth class (xs (first + suc count)).frames

-- ---- runs

-- each state is sound by the states of items that the facts have
abbrev pub AreSound : Program → Facts → (ℕ → State) → Type 0
AreSound p facts xs = (k : ℕ) → IsSoundBy p facts.typing (xs k)

-- each state is the step of the one before
abbrev pub AreSteps : Program → Choose → (ℕ → State) → Type 0
AreSteps p choose xs = (k : ℕ) → xs (suc k) ≡ (step p choose (xs k)).state

-- the states of a run from its opening on, over memory that reuses cells in any way
abbrev pub states_of : Program → Choose → Job → Store → ℕ → State
states_of p choose job store k = (after p (lawful choose) k (opening p (lawful choose) job store)).state

-- this holds of the states of each run within the limits of a run
abbrev pub InEachRun : Program → ((ℕ → State) → Type 0) → Type 0
InEachRun p IsSo =
    (choose : Choose) (job : Job) → ArgumentsFit job.arguments → (budget : ℕ) (limit : Option ℕ) (free : List (List ℕ)) → budget ≤ MAX_LIVE_WORDS → IsSo (states_of p choose job (opened budget limit free))

-- in these states what a captured class led to is dead from the one on in which the class isn't busy, or the activation is gone
abbrev pub RegionsDieIn : Program → Facts → (ℕ → State) → Type 0
RegionsDieIn p facts xs =
    (method depth class birth first count : ℕ) → IsRetired p facts xs method depth class birth first count
    → (later : ℕ) → first + suc count ≤ later → IsDead p facts birth (xs later) (xs (suc later))
