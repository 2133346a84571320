-- Every run of the program with insertions: from kept item to kept item by few inserted steps, and with holders cleared.
use Rattle.std.specs.Prelude.{◌≡◌, ℕ, suc, ◌+◌, ◌<◌, ◌≤◌, false, List, [], drop, Some, None, slice_get}
use Rattle.std.specs.List.{AllByRecursion}
use Rattle.fm_base.specs.declared.limits.TheConstants.{MAX_LIVE_WORDS}
use Rattle.fm_cells.specs.Choices.{lawful}
use Rattle.fm_code.specs.declared.class_file.ClassDef.{ClassDef}
use Rattle.fm_code.specs.declared.code_array.Code.{Code}
use Rattle.fm_conn.specs.Facts.{Facts}
use Rattle.fm_conn.specs.Links.{typed_method}
use Rattle.fm_frames.specs.Acts.{Choose}
use Rattle.fm_frames.specs.Runs.{Job}
use Rattle.fm_frames.specs.States.{Frame, Moved, null, State, word_at}
use Rattle.fm_frames.specs.Steps.{step}
use Rattle.fm_frames.specs.declared.ends.Ended.{Ended}
use Rattle.fm_law_same_runs.specs.Beside.{FewAreInserted, InAllRuns, IsAtInserted, IsGiven, kept_item, Marks, most_inserted_steps, reuse_run}
use Rattle.fm_law_same_runs.specs.Programs.{AreTaken}
use Rattle.fm_law_sound.specs.Making.{ArgumentsFit, MakesAreResolved}
use Rattle.fm_law_sound.specs.Resolved.{MainIsReady, StepsAreResolved}
use Rattle.fm_law_sound.specs.Sound.{AreTyped}
use Rattle.fm_law_unwoven.specs.Doing.{IsPassed}
use Rattle.fm_law_unwoven.specs.Kept.{IsAtKept}
use Rattle.fm_law_unwoven.specs.WovenFrom.{inserted_by, IsWovenFrom}
use Rattle.fm_place.specs.Insertions.{Holder}
use Rattle.fm_place.specs.Places.{is_busy}
use Rattle.fm_place.specs.Rewriting.{Plans}
use Rattle.fm_place.specs.Safe.{IsProgramOf, SafeOf}
use Rattle.fm_place.specs.Woven.{local_of}
use Rattle.fm_world.specs.Programs.{code_at, Program, program_of}

-- ---- holders

-- the holders of a frame at a kept item are null where their classes aren't busy
abbrev pub IsCleared : Program → Facts → Plans → Marks → Frame → Type 0
IsCleared p facts plans marks g =
    (j : ℕ) (code : Code) (h : ℕ) (holder : Holder) → kept_item marks g.method g.item ≡ Some j → code_at p g.method ≡ Some code
    → slice_get (inserted_by (plans g.method)).holders h ≡ Some holder → is_busy facts (typed_method p facts.typing g.method code) holder.class j ≡ false
    → word_at g.locals (local_of code h) ≡ null

-- of all these frames
abbrev pub AreCleared : Program → Facts → Plans → Marks → List Frame → Type 0
AreCleared p facts plans marks frames = AllByRecursion (IsCleared p facts plans marks) frames

-- ---- from one kept item to the next

-- Few inserted steps lead to a state at a kept item, or to an inserted step that ends the run; or the run has ended.
pub data ComesToKept (p q : Program) (facts : Facts) (plans : Plans) (marks : Marks) (choose : Choose) (y : State) : Type 0 where
  Kept : (count : ℕ) (z : State) → count ≤ most_inserted_steps p q → IsPassed q marks choose count y z → z.ended ≡ None → IsAtKept p q facts plans marks z
      → ComesToKept p q facts plans marks choose y
  HasEnded : (end : Ended) → y.ended ≡ Some end → ComesToKept p q facts plans marks choose y
  Ends : (count : ℕ) (z : State) (end : Ended) → suc count ≤ most_inserted_steps p q → IsPassed q marks choose count y z → IsAtInserted marks z
      → (step q choose z).printed ≡ [] → (step q choose z).state.ended ≡ Some end → AreCleared p facts plans marks (drop 1 y.frames)
      → ComesToKept p q facts plans marks choose y

-- after a step at a kept item
abbrev pub KeptStatesGoOn : Type 0
KeptStatesGoOn =
    (p q : Program) (facts : Facts) (plans : Plans) (marks : Marks) → IsWovenFrom p q facts plans marks → StepsAreResolved p → MakesAreResolved p
    → (choose : Choose) (y : State) → IsAtKept p q facts plans marks y → y.ended ≡ None
    → ComesToKept p q facts plans marks (lawful choose) (step q (lawful choose) y).state

-- and after the opening of a run
abbrev pub OpeningsComeToKept : Type 0
OpeningsComeToKept =
    (p q : Program) (facts : Facts) (plans : Plans) (marks : Marks) → IsWovenFrom p q facts plans marks → AreTyped p facts.typing
    → StepsAreResolved p → MakesAreResolved p → MainIsReady p
    → (choose : Choose) (job : Job) → ArgumentsFit job.arguments → (words : ℕ) → words ≤ MAX_LIVE_WORDS → (free : List (List ℕ))
    → ComesToKept p q facts plans marks (lawful choose) (reuse_run q choose job words free 0).state

-- ---- all states of a run

-- of all frames of each state of a run that goes on, and few inserted steps follow one another
pub record RunsAreCleared (p q : Program) (facts : Facts) (plans : Plans) (marks : Marks) (ys : ℕ → Moved) : Type 0 where
  pub cleared : (l : ℕ) → (ys l).state.ended ≡ None → AreCleared p facts plans marks (ys l).state.frames
  pub few : (l count : ℕ) → ((k : ℕ) → k < count → IsAtInserted marks (ys (l + k)).state) → count ≤ most_inserted_steps p q

-- each run of the second program, whatever the memory chooses
abbrev pub AllRunsAreCleared : Type 0
AllRunsAreCleared =
    (p q : Program) (facts : Facts) (plans : Plans) (marks : Marks) → IsWovenFrom p q facts plans marks → AreTyped p facts.typing
    → StepsAreResolved p → MakesAreResolved p → MainIsReady p
    → (choose : Choose) (job : Job) → ArgumentsFit job.arguments → (words : ℕ) → words ≤ MAX_LIVE_WORDS → (free : List (List ℕ))
    → RunsAreCleared p q facts plans marks (reuse_run q choose job words free)

-- ---- classes with safe insertions, by the program of the classes given, narrowed or not

-- each run of the classes written is such a run
abbrev pub SafeRunsAreCleared : Type 0
SafeRunsAreCleared =
    (given : List ClassDef) (main : List ℕ) → AreTaken given main → (p : Program) → IsProgramOf given main p
    → (written : List ClassDef) (marks : Marks) (safe : SafeOf p given written marks)
    → (job : Job) → IsGiven job → (choose : Choose) (words : ℕ) → words ≤ MAX_LIVE_WORDS → (free : List (List ℕ))
    → RunsAreCleared p (program_of written main) safe.facts safe.plans marks (reuse_run (program_of written main) choose job words free)

-- so few inserted steps follow one another where it runs beside the classes that were given
abbrev pub FewAreInsertedInRuns : Type 0
FewAreInsertedInRuns =
    (given : List ClassDef) (main : List ℕ) → AreTaken given main → (p : Program) → IsProgramOf given main p
    → (written : List ClassDef) (marks : Marks) → SafeOf p given written marks → InAllRuns p (program_of written main) marks FewAreInserted
