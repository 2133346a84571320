-- The step of the lockstep, from what is shown of its parts.
use Rattle.std.specs.Prelude.{◌≡◌, List, None}
use Rattle.fm_cells.specs.Choices.{lawful}
use Rattle.fm_frames.specs.Acts.{Choose}
use Rattle.fm_frames.specs.States.{Frame, State}
use Rattle.fm_frames.specs.Steps.{step}
use Rattle.fm_law_lockstep.specs.Both.{Both}
use Rattle.fm_law_lockstep.specs.Known.{IsKnownOn, IsLinked}
use Rattle.fm_law_lockstep.specs.Stepping.{AreWithin}
use Rattle.fm_law_lockstep.specs.Together.{CatchesUpAt, GoTogetherAt, StepsGoTogether}
use Rattle.fm_law_sound.specs.Sound.{IsSoundBy}
use Rattle.fm_law_two_memories.specs.Pairing.{StatesPaired}
use Rattle.fm_law_unwoven.specs.Kept.{StatesGo}
use Rattle.fm_law_unwoven.specs.WovenFrom.{IsWovenFrom}

-- where both go on, the second run catches up
abbrev pub BothCatchUp : Both → Type 0
BothCatchUp b =
    (first second : Choose) (x y : State) (t : GoTogetherAt b x y) → IsKnownOn b.one b.facts x (step b.one (lawful first) x).state t.colour t.made
    → (frames : List Frame) → (step b.one (lawful first) x).state.ended ≡ None → (step b.other (lawful second) y).state.ended ≡ None
    → AreWithin b.one x y (step b.one (lawful first) x).state (step b.other (lawful second) y).state
    → StatesPaired t.gone b.one.outline (step b.one (lawful first) x).state
    (record (step b.other (lawful second) y).state { frames = frames; steps = (step b.one (lawful first) x).state.steps })
    → IsSoundBy b.one b.facts.typing (record (step b.other (lawful second) y).state { frames = frames; steps = (step b.one (lawful first) x).state.steps })
    → StatesGo b.one b.other b.facts b.plans b.marks y frames (step b.other (lawful second) y).state.frames
    → CatchesUpAt b second (step b.one (lawful first) x).state (step b.other (lawful second) y).state

-- so it is, where the second program is the first one with insertions
abbrev pub ProgramsCatchUp : Type 0
ProgramsCatchUp =
    (b : Both) → IsWovenFrom b.one b.other b.facts b.plans b.marks → IsLinked b.one b.facts → BothCatchUp b

-- and then each step of both goes on together
abbrev pub LockstepsStep : Type 0
LockstepsStep =
    (b : Both) → IsWovenFrom b.one b.other b.facts b.plans b.marks → IsLinked b.one b.facts → StepsGoTogether b
