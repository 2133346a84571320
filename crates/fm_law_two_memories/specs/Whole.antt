-- What holds of whole steps on two memories.
use Rattle.std.specs.Prelude.{◌≡◌, ◌≤◌, List, ◌∷◌, None}
use Rattle.fm_base.specs.declared.limits.TheConstants.{MAX_LIVE_WORDS}
use Rattle.fm_cells.specs.Choices.{lawful}
use Rattle.fm_world.specs.Programs.{Program}
use Rattle.fm_frames.specs.Acts.{Choose}
use Rattle.fm_frames.specs.States.{Frame, State}
use Rattle.fm_frames.specs.Steps.{next_effect, step}
use Rattle.fm_law_sound.specs.Sound.{IsSoundBy, StandsWithout, Typings}
use Rattle.fm_law_two_memories.specs.Pairing.{Gone, StatesPaired}
use Rattle.fm_law_two_memories.specs.Reading.{EffectAlike}
use Rattle.fm_law_two_memories.specs.Results.{IsFewGone}
use Rattle.fm_law_two_memories.specs.Runs.{GoAlike, IsWithoutFrees}
use Rattle.fm_law_two_memories.specs.Seeing.{SeesNothingGone}

-- The next effect of a frame does the same on both memories.
abbrev pub NextEffectsAreAlike : Type 0
NextEffectsAreAlike =
    (p : Program) (typings : Typings) → IsWithoutFrees p typings → (z : State) (f : Frame) (callers : List Frame) → StandsWithout p typings 0 f
    → EffectAlike p.outline z.areas.store f (next_effect p (record z { frames = f ∷ callers }))

-- A step of paired states that haven't ended, which sees nothing that is gone, leads to paired ones, or one of the memories lacks words.
abbrev pub StepsKeepAlike : Type 0
StepsKeepAlike =
    (gone : Gone) → IsFewGone gone → (p : Program) (typings : Typings) → IsWithoutFrees p typings → (first second : Choose) (x y : State) → IsSoundBy p typings x
    → StatesPaired gone p.outline x y → SeesNothingGone gone p.outline x → x.areas.store.limit ≡ None → y.areas.store.budget ≤ MAX_LIVE_WORDS → x.ended ≡ None
    → GoAlike gone p.outline x.areas.store.budget y.areas.store.budget y.areas.store.limit (step p (lawful first) x) (step p (lawful second) y)
