-- What the calls of a machine do, stated by effects.
use Rattle.std.specs.Prelude.{◌≡◌, ℕ, ◌+◌, ◌^◌, ◌-◌, ◌<◌, ◌≤◌, ℤ, Bool, true, false, List, [], ◌∷◌, length, max, slice_get, Option, Some, None}
use Rattle.fm_world.specs.Members.{methods_of}
use Rattle.fm_world.specs.Programs.{Program}
use Rattle.fm_cells.specs.Changes.{Take, RefuseStore, made_by}
use Rattle.fm_cells.specs.Objects.{Request, request_words}
use Rattle.fm_cells.specs.Sizes.{cell_words}
use Rattle.fm_cells.specs.Stores.{object_at}
use Rattle.fm_cells.specs.declared.answers.Cell.{Cell}
use Rattle.fm_frames.specs.Acts.{Choose, Did, performed, Sources, with_content}
use Rattle.fm_frames.specs.Effects.{Action, Effect}
use Rattle.fm_frames.specs.Runnable.{IsRunnable}
use Rattle.fm_frames.specs.Sights.{Sight, sights}
use Rattle.fm_frames.specs.States.{Frame, Moved, silent, State}
use Rattle.fm_frames.specs.Steps.{attempted, done_by, locals_of, objects_made, stack_of, stopped}
use Rattle.fm_frames.specs.declared.ends.Ended.TheVariants as end
use Rattle.fm_frames.specs.declared.values.Value.{Value}
use Rattle.fm_frames.specs.declared.values.Value.TheVariants as value

-- ---- before a step

-- the topmost frame has a next item, and one more step can be counted
abbrev pub NextFits : List Frame → Type 0
NextFits [] = ⊥
NextFits (f ∷ callers) = f.item + 1 < 2 ^ 64

-- the state of which one more step can be done in code: its counts fit their words
pub record IsReady (x : State) : Type 0 where
  pub next_fits : NextFits x.frames
  pub step_fits : x.steps + 1 < 2 ^ 64

-- each frame is of a method of the program
abbrev pub AreFramesIn : Program → List Frame → Type 0
AreFramesIn p frames = (k : ℕ) (f : Frame) → slice_get frames k ≡ Some f → f.method < length (methods_of p.outline.classes)

-- what a step requires of the program and of the state, so that numbers fit
pub record CanStep (p : Program) (x : State) : Type 0 where
  pub runnable : IsRunnable p
  pub ready : IsReady x
  pub frames : AreFramesIn p x.frames
  pub items_fit : (k : ℕ) (f : Frame) → slice_get x.frames k ≡ Some f → f.item + 1 < 2 ^ 64
  pub within : length x.frames ≤ x.depth
  pub birth_fits : x.areas.store.births < 2 ^ 32 - 1
  -- the greatest word budget
  pub budget_fits : x.areas.store.budget ≤ 2 ^ 27

-- where the values of an effect come from that makes nothing
abbrev pub before : State → Sources
before x = record { locals = locals_of x; stack = stack_of x; areas = x.areas; made = [] }

-- the int that a value is
abbrev pub int_in : Option Value → Option ℤ
int_in None = None
int_in (Some value.Top) = None
int_in (Some (value.Int n)) = Some n
int_in (Some (value.Long n)) = None
int_in (Some (value.Ref cell)) = None

-- the long that a value is
abbrev pub long_in : Option Value → Option ℤ
long_in None = None
long_in (Some value.Top) = None
long_in (Some (value.Int n)) = None
long_in (Some (value.Long n)) = Some n
long_in (Some (value.Ref cell)) = None

-- what is seen of the words of the topmost frame's stack
abbrev pub seen : Program → State → List Sight
seen p x = sights p.outline x.areas.store (stack_of x)

-- ---- after it

-- the effect leads from the one state to the other, whatever the program and the memory
abbrev pub Does : State → State → Effect → Type 0
Does x y e = (p : Program) (choose : Choose) → silent y ≡ attempted p choose x e

-- in this program, with the choices of this memory
abbrev pub DoesIn : Program → Choose → State → State → Effect → Type 0
DoesIn p choose x y e = silent y ≡ attempted p choose x e

-- the same, where bytes are printed on the way
abbrev pub DoesPrinting : Program → Choose → State → State → Effect → List ℕ → Type 0
DoesPrinting p choose x y e bytes = ◌≡◌ {A = Moved} (record { state = y; printed = bytes }) (attempted p choose x e)

-- ---- in the midst of it

-- where an effect makes one object: with the object made only the areas are others, and the effect has still to be finished; or the run has ended
abbrev pub MakesOne : Program → Choose → State → State → Effect → Option Cell → Type 0
MakesOne p choose x y e None = DoesIn p choose x y e
MakesOne p choose x y e (Some cell) =
    (attempted p choose x e ≡ done_by p 1 e x (Did y.areas (cell.0 ∷ []))) × (y ≡ record x { areas = y.areas })

-- the actions so far led to these areas and made these cells, and those actions are left
pub record Underway (p : Program) (choose : Choose) (x y : State) (e : Effect) (made : List ℕ) (left : List Action) : Type 0 where
  pub so_far : attempted p choose x e
      ≡ done_by p (max 1 (objects_made e.actions)) e x (performed p.outline choose (locals_of x) (stack_of x) left y.areas made)
  pub same : y ≡ record x { areas = y.areas }

-- the words that an effect needs are there, and all its actions are left; or the run has ended
abbrev pub IsReserved : Program → Choose → State → State → Effect → Bool → Type 0
IsReserved p choose x y e true = Underway p choose x y e [] e.actions
IsReserved p choose x y e false = DoesIn p choose x y e

-- what the memory's choice makes of a state where an object is asked for that holds this content; with no content its elements are 0
abbrev pub Makes : Choose → State → State → Request → (content : List ℕ) → Option Cell → Type 0
Makes choose x y r content None =
    (choose x.areas.store r ≡ RefuseStore)
    × (y ≡ stopped x (end.StoreFull x.areas.store.made_words (cell_words (request_words r))))
Makes choose x y r content (Some cell) =
    (grows : Bool)
    × (choose x.areas.store r ≡ Take cell.0 grows)
    × (object_at x.areas.store cell.0 ≡ None)
    × (y ≡ record x { areas = record x.areas { store = with_content (made_by x.areas.store r (Take cell.0 grows)) cell.0 content } })

-- all actions are done, and the effect has still to be finished; or the run has ended
abbrev pub IsKept : Program → Choose → State → State → Effect → Bool → Type 0
IsKept p choose x y e true = (text : ℕ) × Underway p choose x y e (text ∷ []) []
IsKept p choose x y e false = DoesIn p choose x y e
