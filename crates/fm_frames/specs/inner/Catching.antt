-- Where an exception goes, as the code computes it.
use Rattle.std.specs.Prelude.{◌≡◌, ℕ, ◌+◌, List, [], ◌∷◌, drop, Option, Some, None}
use Rattle.fm_base.specs.declared.kinds.TypeRef.{TypeRef}
use Rattle.fm_world.specs.Programs.{Program}
use Rattle.fm_frames.specs.States.{Frame}
use Rattle.fm_frames.specs.Steps.{caught, Caught, InFrames, Leaves}
use Rattle.fm_frames.specs.declared.throws.Catch.{Catch}
use Rattle.fm_frames.specs.declared.throws.Catch.TheVariants as catch
use Rattle.fm_frames.specs.declared.values.Value.{Value}
use Rattle.fm_frames.specs.inner.Frames.{on_top}

-- a frame at an item of a method, of which nothing else is asked
abbrev pub placed : ℕ → ℕ → Frame
placed method item = record { method = method; item = item; locals = []; stack = [] }

-- the frames or the end that a search for a handler leads to
abbrev pub caught_as : Value → List Frame → Catch → Caught
caught_as v frames (catch.InFrame above handler) = InFrames (on_top (λ f. record f { item = handler; stack = v ∷ [] }) (drop above frames))
caught_as v frames (catch.Leaves e) = Leaves e

-- what the frame above which this many lie does, and all below it; none where it has no part in it
abbrev pub IsCaughtAt : Program → TypeRef → Value → List Frame → ℕ → Option Catch → Type 0
IsCaughtAt p t v frames above None = caught p t v (drop above frames) ≡ caught p t v (drop (above + 1) frames)
IsCaughtAt p t v frames above (Some catch) = caught p t v (drop above frames) ≡ caught_as v frames catch
