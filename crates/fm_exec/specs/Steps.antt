-- What a row of the code does, stated by its effect.
use Rattle.fm_world.specs.Programs.{Program}
use Rattle.fm_frames.specs.Acts.{Choose}
use Rattle.fm_frames.specs.Effects.{Effect}
use Rattle.fm_frames.specs.Starts.{with_start}
use Rattle.fm_frames.specs.States.{State}
use Rattle.fm_frames.specs.inner.Doings.{DoesIn}
pub use Rattle.fm_frames.specs.inner.Doings.{seen}

-- the effect of an instruction, with the start of its class, leads from one state to the other, and nothing is printed
abbrev pub Steps : Program → Choose → State → State → Effect → Type 0
Steps p choose x y e = DoesIn p choose x y (with_start p.outline x.areas.started e)
