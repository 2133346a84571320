-- The laws that the functions of `laws` prove.
use Rattle.std.specs.Prelude.{◌≡◌, ℕ, Bool, List, Option}
use Rattle.fm_cells.specs.Choices.{lawful}
use Rattle.fm_cells.specs.Stores.{opened, Store}
use Rattle.fm_conn.specs.Facts.{Facts}
use Rattle.fm_frames.specs.Acts.{Choose}
use Rattle.fm_frames.specs.Runs.{after, Job, opening}
use Rattle.fm_frames.specs.States.{State}
use Rattle.fm_frames.specs.Steps.{cost, step}
use Rattle.fm_law_reached.specs.Reached.{HasClosedSets, HoldsMade, IsInReach, IsReached}
use Rattle.fm_law_sound.specs.Laws.{MakesFewBefore}
use Rattle.fm_law_sound.specs.Making.{ArgumentsFit, MakesAreResolved}
use Rattle.fm_law_sound.specs.Resolved.{MainIsReady, StepsAreResolved}
use Rattle.fm_law_sound.specs.Sound.{AreTyped, IsSoundBy, Typings}
use Rattle.fm_place.specs.Safe.{narrowed_to}
use Rattle.fm_rapid.specs.Reach.{IsClosed, narrowed}
use Rattle.fm_same.specs.Resolved.{IsResolved}
use Rattle.fm_same.specs.Targets.{Covers}
use Rattle.fm_world.specs.Programs.{Program}

-- what linking makes sure of, as the laws here use it
pub record IsReady (p : Program) : Type 0 where
  pub steps : StepsAreResolved p
  pub makes : MakesAreResolved p
  pub resolved : IsResolved p

-- Where objects are only of classes that are made, the method that a call of a sound state leads to is among the targets of the narrowed program.
abbrev pub NarrowedTargetsCover : Type 0
NarrowedTargetsCover =
    (p : Program) → IsResolved p → (made : List Bool) (facts : Facts) (x : State) → IsSoundBy p facts.typing x → HoldsMade p.outline made x.areas.store
    → Covers (narrowed p made) facts x

-- A step of a sound state stays within closed sets, on each memory.
abbrev pub StepsStayInReach : Type 0
StepsStayInReach =
    (p : Program) (typings : Typings) → IsReady p → (methods made : List Bool) → IsClosed p methods made → (choose : Choose) (x : State)
    → IsSoundBy p typings x → IsInReach p.outline methods made x → IsInReach p.outline methods made (step p choose x).state

-- So each state of a run of a typed and linked program is within closed sets, from its opening on, whatever is read and freed, as long as no object has too
-- many words.
abbrev pub RunsStayInReach : Type 0
RunsStayInReach =
    (p : Program) (typings : Typings) → AreTyped p typings → IsReady p → MainIsReady p → (methods made : List Bool) → IsClosed p methods made
    → (choose : Choose) (job : Job) → ArgumentsFit job.arguments → (budget : ℕ) (limit : Option ℕ) (free : List (List ℕ)) (k : ℕ)
    → MakesFewBefore p (lawful choose) job (opened budget limit free) k
    → IsInReach p.outline methods made (after p (lawful choose) k (opening p (lawful choose) job (opened budget limit free))).state

-- ---- programs that may be narrowed

-- Where a sound state is within the sets to which the program is narrowed, if it is, the method that a call leads to is among the targets.
abbrev pub ReachedStatesCover : Type 0
ReachedStatesCover = (p : Program) → IsResolved p → (facts : Facts) (x : State) → IsSoundBy p facts.typing x → IsReached p x → Covers p facts x

-- A step of a sound state within these sets leads to one within them.
abbrev pub ReachedStatesStep : Type 0
ReachedStatesStep =
    (p : Program) (typings : Typings) → IsReady p → (choose : Choose) (x : State) → IsSoundBy p typings x → IsReached p x
    → IsReached p (step p choose x).state

-- The opening is within them, where there are closed sets.
abbrev pub OpeningsAreReached : Type 0
OpeningsAreReached =
    (p : Program) → IsReady p → HasClosedSets p → (choose : Choose) (job : Job) (budget : ℕ) (limit : Option ℕ) (free : List (List ℕ))
    → IsReached p (opening p choose job (opened budget limit free)).state

-- ---- narrowed programs

-- The machine doesn't look at which classes are made: a step of a narrowed program is that of the program.
abbrev pub NarrowedStepsAreSame : Type 0
NarrowedStepsAreSame = (p : Program) (made : Option (List Bool)) (choose : Choose) (x : State) → step (narrowed_to p made) choose x ≡ step p choose x

-- A step of a narrowed program costs what it costs in the program.
abbrev pub NarrowedCostsAreSame : Type 0
NarrowedCostsAreSame = (p : Program) (made : Option (List Bool)) (x : State) → cost (narrowed_to p made) x ≡ cost p x

-- The states of a run of a narrowed program are those of the program.
abbrev pub NarrowedRunsAreSame : Type 0
NarrowedRunsAreSame =
    (p : Program) (made : Option (List Bool)) (choose : Choose) (job : Job) (store : Store) (k : ℕ)
    → after (narrowed_to p made) choose k (opening (narrowed_to p made) choose job store) ≡ after p choose k (opening p choose job store)
