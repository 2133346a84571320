-- The law of one program on two memories, of linked programs.
use Rattle.std.specs.Prelude.{◌≡◌, ℕ, ◌≤◌, List, [], length, Option}
use Rattle.std.specs.List.{AllByRecursion}
use Rattle.fm_base.specs.declared.limits.TheConstants.{MAX_CLASS_FILES, MAX_LIVE_WORDS}
use Rattle.fm_cells.specs.Choices.{lawful}
use Rattle.fm_cells.specs.Stores.{opened}
use Rattle.fm_code.specs.Profile.{IsSupported}
use Rattle.fm_code.specs.Spells.{HasSpelling}
use Rattle.fm_code.specs.declared.class_file.ClassDef.{ClassDef}
use Rattle.fm_frames.specs.Acts.{Choose}
use Rattle.fm_frames.specs.Runs.{IsRun, Job, opening}
use Rattle.fm_frames.specs.States.{Moved}
use Rattle.fm_law_two_memories.specs.Reuses.{DoesTheSameOnMemories, RunsTheSameOnMemories}
use Rattle.fm_law_two_memories.specs.Runs.{EndsAlikeOnMemories, GoesAlikeOnMemories, IsRoomy, IsTheSameOnMemories, IsWithoutFrees}
use Rattle.fm_same.specs.Resolved.{CallsNoFreeMe}
use Rattle.fm_law_sound.specs.Making.{ArgumentsFit}
use Rattle.fm_law_sound.specs.Sound.{AreTyped, Typings}
use Rattle.fm_world.specs.Linking.{refusals}
use Rattle.fm_world.specs.Programs.{Program, program_of}

-- The program of accepted class files, as many as one call takes, against which there is no cause,
-- where methods are typed and none calls FreeMe, is linked as the law requires.
abbrev pub LinkedIsWithoutFrees : Type 0
LinkedIsWithoutFrees =
    (given : List ClassDef) (main : List ℕ) → AllByRecursion HasSpelling given → AllByRecursion IsSupported given → refusals given main ≡ []
    → length given ≤ MAX_CLASS_FILES → (typings : Typings) → AreTyped (program_of given main) typings → CallsNoFreeMe (program_of given main)
    → IsWithoutFrees (program_of given main) typings

-- So it goes alike on two memories, and with the same budget of words and room for twice as many it prints the same and ends alike, step for step and in
-- whole runs.
abbrev pub LinkedGoesAlike : Type 0
LinkedGoesAlike =
    (given : List ClassDef) (main : List ℕ) → AllByRecursion HasSpelling given → AllByRecursion IsSupported given → refusals given main ≡ []
    → length given ≤ MAX_CLASS_FILES → (typings : Typings) → AreTyped (program_of given main) typings → CallsNoFreeMe (program_of given main)
    → GoesAlikeOnMemories (program_of given main) × IsTheSameOnMemories (program_of given main) × EndsAlikeOnMemories (program_of given main)

-- And on two memories that both have limits on their stores, with the same budget of words and room for twice as many, it prints the same and ends alike.
abbrev pub LinkedDoesTheSame : Type 0
LinkedDoesTheSame =
    (given : List ClassDef) (main : List ℕ) → AllByRecursion HasSpelling given → AllByRecursion IsSupported given → refusals given main ≡ []
    → length given ≤ MAX_CLASS_FILES → (typings : Typings) → AreTyped (program_of given main) typings → CallsNoFreeMe (program_of given main)
    → DoesTheSameOnMemories (program_of given main) × RunsTheSameOnMemories (program_of given main)

-- the same was printed, and both ended in the same way, if they did
abbrev pub PrintAndEndTheSame : Moved → Moved → Type 0
PrintAndEndTheSame x y = (y.printed ≡ x.printed) × (y.state.ended ≡ x.state.ended)

-- On two memories with one budget of words, each with room for twice as many, two whole runs that one budget of steps allows print and end the same.
abbrev pub EndsTheSameOnMemories : Program → Type 0
EndsTheSameOnMemories p =
    (first second : Choose) (job : Job) → ArgumentsFit job.arguments → (budget : ℕ) (limit other : Option ℕ)
    (free freed : List (List ℕ)) → budget ≤ MAX_LIVE_WORDS → IsRoomy limit budget → IsRoomy other budget → (steps : ℕ) (x y : Moved)
    → IsRun p (lawful first) steps (opening p (lawful first) job (opened budget limit free)) x
    → IsRun p (lawful second) steps (opening p (lawful second) job (opened budget other freed)) y → PrintAndEndTheSame x y

-- So it is of such a program, as it never ends in a fault.
abbrev pub LinkedEndsTheSame : Type 0
LinkedEndsTheSame =
    (given : List ClassDef) (main : List ℕ) → AllByRecursion HasSpelling given → AllByRecursion IsSupported given → refusals given main ≡ []
    → length given ≤ MAX_CLASS_FILES → (typings : Typings) → AreTyped (program_of given main) typings → CallsNoFreeMe (program_of given main)
    → EndsTheSameOnMemories (program_of given main)
