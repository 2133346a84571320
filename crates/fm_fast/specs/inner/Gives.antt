-- The frames after a value of a kind is put in place of words.
use Rattle.std.specs.Prelude.{◌≡◌, ℕ, List}
use Rattle.fm_base.specs.declared.kinds.Kind.{Kind}
use Rattle.fm_fast.specs.Flows.{on, stepped_on}
use Rattle.fm_frames.specs.Acts.{Choose, value_of}
use Rattle.fm_frames.specs.Effects.{loaded, Source, words}
use Rattle.fm_frames.specs.States.{Frame, State}
use Rattle.fm_frames.specs.declared.values.Value.{Value}
use Rattle.fm_frames.specs.inner.Doings.{before, DoesIn}
use Rattle.fm_world.specs.Programs.{Program}

-- a value of the kind, wherever an effect says that it comes from, was put in place of `takes`
-- words
abbrev pub Gives : (old new : List Frame) → (takes : ℕ) → Kind → Value → Type 0
Gives old new takes kind v =
    (p : Program) (choose : Choose) (x : State) (source : Source) → value_of (before (on x old)) source ≡ v
    → DoesIn p choose (on x old) (stepped_on x new) (words takes (loaded kind source))
