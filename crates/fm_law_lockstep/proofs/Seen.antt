-- What is retired isn't seen.
use Rattle.std.proofs.Common.{refl, inl}
use Rattle.std.proofs.Math.Nat.{le_refl}
use Rattle.fm_conn.specs.Facts.{Facts}
use Rattle.fm_frames.specs.States.{State}
use Rattle.fm_law_lockstep.specs.Known.{RetiredIsUnseen}
use Rattle.fm_law_two_memories.proofs.DeadUnseen.{nothing_seen}
use Rattle.fm_same.proofs.Retiring.{dead_if_retired}
use Rattle.fm_same.specs.Advances.{GoesOver}
use Rattle.fm_same.specs.Colours.{Colour, Coloured}
use Rattle.fm_world.specs.Programs.{Program}

-- a state goes on from itself
pub itself : (p : Program) (facts : Facts) (x : State) (colour : Colour) → Coloured p facts x colour → GoesOver p facts x x colour
itself p facts x colour coloured = record {
  other = colour;
  coloured = coloured;
  advances = λ birth born. inl refl;
  lowers = λ birth born. inl refl;
  still = λ cell object held loose retired. held;
  births = le_refl x.areas.store.births;
}

pub retired_is_unseen : RetiredIsUnseen
retired_is_unseen p facts without x colour gone coloured retired loose =
    nothing_seen gone p.outline without.hidden x.areas.store loose facts x x.frames
    (λ v root birth lost. (dead_if_retired p facts x x colour birth coloured (retired birth lost) (itself p facts x colour coloured)).no_root v root) refl
