-- What a row of cells makes of a machine and of the frames that are taken out of it: the step of the machine that has them.
use Rattle.std.specs.Prelude.{ℕ, ◌+◌, List}
use Rattle.fm_exec.specs.Steps.{Steps}
use Rattle.fm_fast.specs.Flows.{resumed}
use Rattle.fm_frames.specs.Acts.{Choose}
use Rattle.fm_frames.specs.Effects.{Effect}
use Rattle.fm_frames.specs.States.{Frame, State}
use Rattle.fm_world.specs.Programs.{Program}

-- whatever steps were done before, the effect is a step from the one state with the one frames to the other state with the others
abbrev pub FlowsOver : Program → Choose → State → List Frame → State → List Frame → (State → Effect) → Type 0
FlowsOver p choose old before new after effect =
    (steps : ℕ) → Steps p choose (resumed old before steps) (resumed new after (steps + 1)) (effect (resumed old before steps))
