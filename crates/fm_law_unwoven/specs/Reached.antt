-- What is inserted where a frame goes on is done: so the frame reaches the kept item of the frame that it holds.
use Rattle.std.specs.Prelude.{◌≡◌, ℕ, ◌+◌, ◌<◌, ◌≤◌, List, [], ◌++◌, length, Some}
use Rattle.fm_base.specs.declared.limits.TheConstants.{MAX_LIVE_WORDS}
use Rattle.fm_cells.specs.Choices.{lawful}
use Rattle.fm_cells.specs.Stores.{Store}
use Rattle.fm_code.specs.declared.code_array.Code.{Code}
use Rattle.fm_conn.specs.Facts.{Facts}
use Rattle.fm_frames.specs.Acts.{cell_of, Choose}
use Rattle.fm_frames.specs.States.{Frame, State, word_at}
use Rattle.fm_frames.specs.Steps.{step}
use Rattle.fm_frames.specs.declared.ends.Ended.{Ended}
use Rattle.fm_law_chained.specs.Called.{with_frame}
use Rattle.fm_law_same_runs.specs.Beside.{IsAtInserted, kept_item, Marks, most_inserted_steps}
use Rattle.fm_law_sound.specs.Resolved.{StepsAreResolved}
use Rattle.fm_law_sound.specs.Sound.{IsSoundBy}
use Rattle.fm_law_unwoven.specs.Doing.{all_steps_to, IsLost, IsPassed, joins_in, MayDoAll, state_after}
use Rattle.fm_law_unwoven.specs.Kept.{Begins, FrameGoes, FramesGo, GoesBefore, GoesBehind, GoesByJump, InMethod, IsAtKept, Resumes}
use Rattle.fm_law_unwoven.specs.Laid.{frees_at, keeps_at, starts_of, Todo}
use Rattle.fm_law_unwoven.specs.WovenFrom.{inserted_by, IsWovenFrom}
use Rattle.fm_place.specs.Rewriting.{Plans}
use Rattle.fm_world.specs.Programs.{code_at, Program}

-- ---- what lies ahead

-- what is to be done until the next kept item: behind an item its holders keep what it gave, a method that begins starts them all, and before an item some are
-- freed; whether what an item gave joins a chain is seen in the store
abbrev pub todos_ahead : (p q : Program) (facts : Facts) (plans : Plans) (marks : Marks) (before : State) (store : Store) (f g : Frame) (below : List Frame)
    → FrameGoes p q facts plans marks before f g below → List Todo
todos_ahead p q facts plans marks before store f g below (InMethod j old code_is w was (GoesBehind past item next) edge stand) =
    keeps_at (inserted_by (plans g.method)) (joins_in store (cell_of (word_at g.stack 0))) j ++ frees_at (inserted_by (plans g.method)) f.item
todos_ahead p q facts plans marks before store f g below (InMethod j old code_is w was (GoesBefore next) edge stand) = frees_at (inserted_by (plans g.method)) f.item
todos_ahead p q facts plans marks before store f g below (InMethod j old code_is w was (GoesByJump jump mark) edge stand) =
    frees_at (inserted_by (plans g.method)) f.item
todos_ahead p q facts plans marks before store f g below (Begins old_first first empty width on) =
    starts_of (inserted_by (plans g.method)) ++ frees_at (inserted_by (plans g.method)) f.item
todos_ahead p q facts plans marks before store f g below (Resumes stands is above frames_are) = []

-- how many steps go before: that of a goto_w
abbrev pub jumps_ahead : (p q : Program) (facts : Facts) (plans : Plans) (marks : Marks) (before : State) (f g : Frame) (below : List Frame)
    → FrameGoes p q facts plans marks before f g below → ℕ
jumps_ahead p q facts plans marks before f g below (InMethod j old code_is w was (GoesBehind past item next) edge stand) = 0
jumps_ahead p q facts plans marks before f g below (InMethod j old code_is w was (GoesBefore next) edge stand) = 0
jumps_ahead p q facts plans marks before f g below (InMethod j old code_is w was (GoesByJump jump mark) edge stand) = 1
jumps_ahead p q facts plans marks before f g below (Begins old_first first empty width on) = 0
jumps_ahead p q facts plans marks before f g below (Resumes stands is above frames_are) = 0

-- ---- when it is done

-- the state after these jumps and all that is to be done, at this item
abbrev pub state_reached : Code → State → Frame → List Frame → List Todo → (jumps number : ℕ) → State
state_reached code z g below todos jumps number = state_after code (record z { steps = z.steps + jumps }) g below todos number

-- All of it is done, which leads to a kept item; or one of the cells that are to be freed isn't held, and the run ends there.
pub data IsReached (p q : Program) (facts : Facts) (plans : Plans) (marks : Marks) (choose : Choose) (code : Code) (z : State) (g : Frame) (below : List Frame) (todos : List Todo) (jumps number : ℕ) : Type 0 where
  AllReached : IsPassed q marks choose (jumps + all_steps_to todos) (with_frame z g below) (state_reached code z g below todos jumps number)
      → IsAtKept p q facts plans marks (state_reached code z g below todos jumps number) → IsReached p q facts plans marks choose code z g below todos jumps number
  OneMissed : IsLost code g z.areas todos → (count : ℕ) (last : State) (end : Ended) → count < jumps + all_steps_to todos
      → IsPassed q marks choose count (with_frame z g below) last → IsAtInserted marks last → (step q choose last).printed ≡ []
      → (step q choose last).state.ended ≡ Some end → IsReached p q facts plans marks choose code z g below todos jumps number

-- By few steps all of it leads to the kept item of the frame that is held, unless something is lost.
pub record Reached (p q : Program) (facts : Facts) (plans : Plans) (marks : Marks) (choose : Choose) (z : State) (f g : Frame) (below : List Frame) (todos : List Todo) (jumps : ℕ) : Type 0 where
  pub code : Code
  pub code_is : code_at p g.method ≡ Some code
  pub number : ℕ
  pub number_is : kept_item marks g.method number ≡ Some f.item
  pub width : length g.locals ≡ code.max_locals + length (inserted_by (plans g.method)).holders
  pub may : MayDoAll code z.areas g.stack g.locals todos
  pub few : jumps + all_steps_to todos ≤ most_inserted_steps p q
  pub done : IsReached p q facts plans marks choose code z g below todos jumps number

-- so it is wherever frames of the second program hold those of a sound state of the first one, as after a step at a kept item
abbrev pub FramesReachKept : Type 0
FramesReachKept =
    (p q : Program) (facts : Facts) (plans : Plans) (marks : Marks) → IsWovenFrom p q facts plans marks → StepsAreResolved p
    → (choose : Choose) (before z : State) (f g : Frame) (callers below : List Frame) (go : FramesGo p q facts plans marks before f g callers below)
    → IsSoundBy p facts.typing (with_frame z f callers) → z.areas.store.budget ≤ MAX_LIVE_WORDS
    → Reached p q facts plans marks (lawful choose) z f g below (todos_ahead p q facts plans marks before z.areas.store f g below go.top)
    (jumps_ahead p q facts plans marks before f g below go.top)
