-- One program on two memories that may both have limits on their stores.
use Rattle.std.specs.Prelude.{◌≡◌, ℕ, ◌≤◌, List, None, Option, Some}
use Rattle.fm_base.specs.declared.limits.TheConstants.{MAX_LIVE_WORDS}
use Rattle.fm_cells.specs.Choices.{lawful}
use Rattle.fm_cells.specs.Stores.{opened}
use Rattle.fm_world.specs.Programs.{Program}
use Rattle.fm_frames.specs.Acts.{Choose}
use Rattle.fm_frames.specs.Runs.{IsRun, Job, opening}
use Rattle.fm_frames.specs.States.{Moved}
use Rattle.fm_frames.specs.declared.ends.Ended.{Ended}
use Rattle.fm_frames.specs.declared.ends.Ended.TheVariants as end
use Rattle.fm_law_sound.specs.Making.{ArgumentsFit}
use Rattle.fm_law_sound.specs.Sound.{Typings}
use Rattle.fm_law_two_memories.specs.Runs.{IsRoomy, IsWithoutFrees, run_after}

-- the ends are equal, but for the cell of a fault
abbrev pub EndsLike : Option Ended → Option Ended → Type 0
EndsLike None ended = ended ≡ None
EndsLike (Some (end.Fault method offset cell)) ended = (other : ℕ) × (ended ≡ Some (end.Fault method offset other))
EndsLike (Some e) ended = ended ≡ Some e

-- the same was printed and read in as many steps, as many objects were made, and both ended alike, if they did
pub record HaveDoneTheSame (x y : Moved) : Type 0 where
  pub printed : y.printed ≡ x.printed
  pub input : y.state.input ≡ x.state.input
  pub steps : y.state.steps ≡ x.state.steps
  pub births : y.state.areas.store.births ≡ x.state.areas.store.births
  pub ended : EndsLike x.state.ended y.state.ended

-- On two memories with one budget of words, each with room for twice as many, the program does the same after as many steps.
abbrev pub DoesTheSameOnMemories : Program → Type 0
DoesTheSameOnMemories p =
    (first second : Choose) (job : Job) → ArgumentsFit job.arguments → (budget : ℕ) (limit other : Option ℕ)
    (free freed : List (List ℕ)) → budget ≤ MAX_LIVE_WORDS → IsRoomy limit budget → IsRoomy other budget → (k : ℕ)
    → HaveDoneTheSame (run_after p first job (opened budget limit free) k) (run_after p second job (opened budget other freed) k)

-- And so it does in whole runs that one budget of steps allows.
abbrev pub RunsTheSameOnMemories : Program → Type 0
RunsTheSameOnMemories p =
    (first second : Choose) (job : Job) → ArgumentsFit job.arguments → (budget : ℕ) (limit other : Option ℕ)
    (free freed : List (List ℕ)) → budget ≤ MAX_LIVE_WORDS → IsRoomy limit budget → IsRoomy other budget → (steps : ℕ) (x y : Moved)
    → IsRun p (lawful first) steps (opening p (lawful first) job (opened budget limit free)) x
    → IsRun p (lawful second) steps (opening p (lawful second) job (opened budget other freed)) y → HaveDoneTheSame x y

-- So it is of each program that is typed and linked, and calls no FreeMe.
abbrev pub MemoriesServeAlike : Type 0
MemoriesServeAlike = (p : Program) (typings : Typings) → IsWithoutFrees p typings → DoesTheSameOnMemories p

-- in whole runs too
abbrev pub WholeRunsServeAlike : Type 0
WholeRunsServeAlike = (p : Program) (typings : Typings) → IsWithoutFrees p typings → RunsTheSameOnMemories p
