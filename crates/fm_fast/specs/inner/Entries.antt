-- What it means that a method was entered over frames that are taken out of a machine.
use Rattle.std.specs.Prelude.{◌≡◌, ℕ, ◌+◌, List, None}
use Rattle.fm_fast.specs.Flows.{resumed}
use Rattle.fm_frames.specs.Acts.{Choose}
use Rattle.fm_frames.specs.Effects.{Calls, going}
use Rattle.fm_frames.specs.States.{Frame, State}
use Rattle.fm_frames.specs.inner.Doings.{DoesIn}
use Rattle.fm_world.specs.Members.{method_at}
use Rattle.fm_world.specs.Programs.{Program}

-- the method isn't built in, and whatever steps were done before, its call is a step from the one frames to the others
pub record Enters (p : Program) (choose : Choose) (x : State) (old new : List Frame) (words target : ℕ) : Type 0 where
  pub coded : (method_at p.outline.classes target).method.row ≡ None
  pub does : (steps : ℕ) → DoesIn p choose (resumed x old steps) (resumed x new (steps + 1)) (going words (Calls target))
