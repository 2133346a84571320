-- What the classes that are written do, as one record: with all held sites and all places, on memory that reuses cells in any way, they do
-- what the classes read do (JVMS 2.6, 2.10, 2.11).
use Rattle.std.specs.Prelude.{◌≡◌, ℕ, ◌≤◌, Bool, List, None, Option}
use Rattle.std.specs.List.{AllByRecursion}
use Rattle.fm_base.specs.declared.limits.TheConstants.{MAX_LIVE_WORDS}
use Rattle.fm_code.specs.Profile.{IsSupported}
use Rattle.fm_code.specs.Spells.{HasSpelling}
use Rattle.fm_code.specs.declared.class_file.ClassDef.{ClassDef}
use Rattle.fm_conn.specs.Facts.{Facts}
use Rattle.fm_world.specs.Programs.{Program, program_of}
use Rattle.fm_frames.specs.Acts.{Choose}
use Rattle.fm_frames.specs.Runs.{Job}
use Rattle.fm_place.specs.Safe.{Full, FullOf}
use Rattle.fm_law_cells_made.specs.MostHeld.{all_most_held, first_state, store_after}
use Rattle.fm_law_lockstep.specs.Reaching.{ReachedIsRenamed}
use Rattle.fm_law_same_runs.specs.Beside.{AreMatched, InAllRuns, IsGiven, IsWithoutFault, Marks, reuse_run, Same}
use Rattle.fm_law_same_runs.specs.Programs.{AreTaken, AreWholeRuns, IsAsFar, IsClear, WholeRuns, WordsAreBalanced}
use Rattle.fm_law_same_runs.specs.Renaming.{StatesAreRenamed}
use Rattle.fm_rapid.specs.Reach.{IsClosed, narrowed}

-- in each run of the second program, in all frames, each holder whose class isn't busy is null
abbrev pub HoldersStayClear : (one other : Program) → Facts → Marks → Type 0
HoldersStayClear one other facts marks =
    (job : Job) → IsGiven job → (choose : Choose) (words : ℕ) → words ≤ MAX_LIVE_WORDS → (free : List (List ℕ)) (l : ℕ)
    → (reuse_run other choose job words free l).state.ended ≡ None
    → AllByRecursion (IsClear one facts marks) (reuse_run other choose job words free l).state.frames

-- in each run on memory that takes the last freed cell, of each size class as many cells are made as were held at once
abbrev pub MakesAsHeld : Program → Type 0
MakesAsHeld p =
    (job : Job) (budget : ℕ) (limit : Option ℕ) (count : ℕ)
    → (store_after p (first_state p job budget limit) count).made ≡ all_most_held p (first_state p job budget limit) count

-- whole runs of two programs end the same, or the second one lacks steps or words
abbrev pub EndTheSame : (one other : Program) → Type 0
EndTheSame one other = (r : WholeRuns) → r.one ≡ one → r.other ≡ other → AreWholeRuns r → IsAsFar r

-- matched states are at one item, and what the first run reaches is the same in the second one, under other cells
abbrev pub AreRenamedInRuns : (one other : Program) → Facts → Marks → Type 0
AreRenamedInRuns one other facts marks = InAllRuns one other marks (λ b. (k l : ℕ) → AreMatched b k l → ReachedIsRenamed facts b k l)

-- What the classes written do, beside those that were given. Where no cell is taken twice, and that is one of the ways in which memory may choose, each use
-- of a freed cell is a fault: so none is read, written or freed again on such memory. The sites are those of the program `p`, the given one or that one
-- narrowed, by its facts; the runs are those of the given one.
pub record DoesTheSame (p : Program) (given : List ClassDef) (main : List ℕ) (written : List ClassDef) (marks : Marks) (facts : Facts) : Type 0 where
  -- step for matched step they print and read the same, no more words live, few inserted steps follow one another, and they end alike
  pub same : Same (program_of given main) (program_of written main) marks
  -- no freed cell is read, written or freed again
  pub faultless : InAllRuns (program_of given main) (program_of written main) marks IsWithoutFault
  -- at matched states what isn't retired is the same under other cells
  pub renamed : InAllRuns (program_of given main) (program_of written main) marks
      (λ b. (k l : ℕ) → AreMatched b k l → StatesAreRenamed facts b k l)
  -- they are at one item, and live locals, stacks and static fields lead to the same, so nothing is read from a cell that has another object now
  pub reached : AreRenamedInRuns (program_of given main) (program_of written main) facts marks
  -- at matched states the words that live, with those that were freed, are the words that live in the first run
  pub balanced : InAllRuns (program_of given main) (program_of written main) marks (λ b. (k l : ℕ) → AreMatched b k l → WordsAreBalanced b k l)
  -- holders of what isn't busy are null
  pub cleared : HoldersStayClear p (program_of written main) facts marks
  -- freed cells serve again
  pub most_held : MakesAsHeld (program_of written main)
  -- in whole runs over cells that serve again in both programs
  pub ends : EndTheSame (program_of given main) (program_of written main)

-- so do classes with all held sites and all places, where they have spellings and are supported like those that were given
abbrev pub ClassesDoTheSame : Type 0
ClassesDoTheSame =
    (given : List ClassDef) (main : List ℕ) → AreTaken given main → (written : List ClassDef) (marks : Marks)
    → (full : Full given main written marks) → AllByRecursion HasSpelling written → AllByRecursion IsSupported written
    → DoesTheSame (program_of given main) given main written marks full.facts

-- So do they where the program is narrowed to the classes of closed sets: its sites are more, as its virtual calls lead to fewer methods.
abbrev pub NarrowedClassesDoTheSame : Type 0
NarrowedClassesDoTheSame =
    (given : List ClassDef) (main : List ℕ) → AreTaken given main → (methods made : List Bool) → IsClosed (program_of given main) methods made
    → (written : List ClassDef) (marks : Marks) → (full : FullOf (narrowed (program_of given main) made) given written marks)
    → AllByRecursion HasSpelling written → AllByRecursion IsSupported written
    → DoesTheSame (narrowed (program_of given main) made) given main written marks full.facts
