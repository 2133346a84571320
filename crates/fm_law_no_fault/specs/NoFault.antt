-- What is meant by never ending in a fault: of a typed program that calls no FreeMe, on memory that reuses cells in any way, whatever main is given.
use Rattle.std.specs.Prelude.{◌≡◌, ℕ, ◌≤◌, List, [], length, Option}
use Rattle.std.specs.List.{AllByRecursion}
use Rattle.fm_base.specs.declared.limits.TheConstants.{MAX_CLASS_FILES, MAX_LIVE_WORDS}
use Rattle.fm_cells.specs.Choices.{lawful}
use Rattle.fm_cells.specs.Stores.{opened}
use Rattle.fm_code.specs.Profile.{IsSupported}
use Rattle.fm_code.specs.Spells.{HasSpelling}
use Rattle.fm_code.specs.declared.class_file.ClassDef.{ClassDef}
use Rattle.fm_world.specs.Linking.{refusals}
use Rattle.fm_world.specs.Programs.{Program, program_of}
use Rattle.fm_frames.specs.Acts.{Choose}
use Rattle.fm_frames.specs.Runs.{after, Job, opening}
use Rattle.fm_frames.specs.States.{State}
use Rattle.fm_same.specs.Resolved.{CallsNoFreeMe}
use Rattle.fm_law_sound.specs.Laws.{MakesFewBefore}
use Rattle.fm_law_sound.specs.Making.{ArgumentsFit}
use Rattle.fm_law_sound.specs.Sound.{AreTyped, Typings}
use Rattle.fm_law_no_fault.specs.Whole.{HasNoFault, IsWholeBy}

-- a state of a run by its number, from the opening on
abbrev pub state_of : Program → Choose → Job → (budget : ℕ) (limit : Option ℕ) (free : List (List ℕ)) → ℕ → State
state_of p choose job budget limit free k = (after p (lawful choose) k (opening p (lawful choose) job (opened budget limit free))).state

-- where the program calls no FreeMe, each state of each of its runs is whole, and has not ended in a fault
abbrev pub NeverFaults : Program → Typings → Type 0
NeverFaults p typings =
    AreTyped p typings → CallsNoFreeMe p → (choose : Choose) (job : Job) → ArgumentsFit job.arguments
    → (budget : ℕ) (limit : Option ℕ) (free : List (List ℕ)) → budget ≤ MAX_LIVE_WORDS → (k : ℕ)
    → IsWholeBy p typings (state_of p choose job budget limit free k) × HasNoFault (state_of p choose job budget limit free k)

-- so it is of each state before which no step made an object of too many words, however many may live
abbrev pub NeverFaultsWhileFew : Program → Typings → Type 0
NeverFaultsWhileFew p typings =
    AreTyped p typings → CallsNoFreeMe p → (choose : Choose) (job : Job) → ArgumentsFit job.arguments
    → (budget : ℕ) (limit : Option ℕ) (free : List (List ℕ)) (k : ℕ) → MakesFewBefore p (lawful choose) job (opened budget limit free) k
    → IsWholeBy p typings (state_of p choose job budget limit free k) × HasNoFault (state_of p choose job budget limit free k)

-- the first holds for the program of accepted class files, as many as one call takes, against which
-- there is no cause
abbrev pub LinkedProgramsNeverFault : Type 0
LinkedProgramsNeverFault =
    (given : List ClassDef) (main : List ℕ) → AllByRecursion HasSpelling given → AllByRecursion IsSupported given → refusals given main ≡ []
    → length given ≤ MAX_CLASS_FILES → (typings : Typings) → NeverFaults (program_of given main) typings
