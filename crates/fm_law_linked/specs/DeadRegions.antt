-- The law of dead regions, of linked programs.
use Rattle.std.specs.Prelude.{◌≡◌, ℕ, suc, ◌+◌, ◌≤◌, List, [], length, None}
use Rattle.std.specs.List.{AllByRecursion}
use Rattle.fm_base.specs.declared.limits.TheConstants.{MAX_CLASS_FILES, MAX_LIVE_WORDS}
use Rattle.fm_cells.specs.Stores.{opened}
use Rattle.fm_code.specs.Profile.{IsSupported}
use Rattle.fm_code.specs.Spells.{HasSpelling}
use Rattle.fm_code.specs.declared.class_file.ClassDef.{ClassDef}
use Rattle.fm_conn.specs.Facts.{AreFacts, Facts}
use Rattle.fm_frames.specs.Acts.{Choose}
use Rattle.fm_frames.specs.Runs.{Job}
use Rattle.fm_frames.specs.States.{State}
use Rattle.fm_law_sound.specs.Making.{ArgumentsFit}
use Rattle.fm_law_two_memories.specs.Unseen.{IsUnseen}
use Rattle.fm_same.specs.DeadRegions.{InEachRun, IsRetired, RegionsDieIn, states_of}
use Rattle.fm_same.specs.Resolved.{CallsNoFreeMe}
use Rattle.fm_world.specs.Linking.{refusals}
use Rattle.fm_world.specs.Programs.{Program, program_of}

-- In each run of the program of accepted class files, as many as one call takes, against which
-- there is no cause, where methods are typed and none calls FreeMe.
abbrev pub LinkedRegionsDie : Type 0
LinkedRegionsDie =
    (given : List ClassDef) (main : List ℕ) → AllByRecursion HasSpelling given → AllByRecursion IsSupported given → refusals given main ≡ []
    → length given ≤ MAX_CLASS_FILES → (facts : Facts) → AreFacts (program_of given main) facts → CallsNoFreeMe (program_of given main)
    → InEachRun (program_of given main) (RegionsDieIn (program_of given main) facts)

-- in these states what a captured class led to is unseen from each one on in which it is dead, and which hasn't ended
abbrev pub RegionsAreUnseenIn : Program → Facts → Choose → (ℕ → State) → Type 0
RegionsAreUnseenIn p facts choose xs =
    (method depth class birth first count : ℕ) → IsRetired p facts xs method depth class birth first count
    → (later : ℕ) → first + suc count ≤ later → (xs later).ended ≡ None → IsUnseen p choose birth (xs later)

-- So it is in each such run, on memory without a limit on its store.
abbrev pub LinkedRegionsAreUnseen : Type 0
LinkedRegionsAreUnseen =
    (given : List ClassDef) (main : List ℕ) → AllByRecursion HasSpelling given → AllByRecursion IsSupported given → refusals given main ≡ []
    → length given ≤ MAX_CLASS_FILES → (facts : Facts) → AreFacts (program_of given main) facts
    → CallsNoFreeMe (program_of given main) → (choose : Choose) (job : Job) → ArgumentsFit job.arguments → (budget : ℕ) (free : List (List ℕ)) → budget ≤ MAX_LIVE_WORDS
    → RegionsAreUnseenIn (program_of given main) facts choose (states_of (program_of given main) choose job (opened budget None free))
