use Rattle.fm_law_sound.proofs.CallsStand.{called_stand, started_stand}
use Rattle.fm_law_sound.proofs.FramesStand.{caught_stand, going_stand}
use Rattle.fm_law_sound.proofs.ReturnsStand.{returned_stand}
use Rattle.fm_law_sound.proofs.laws.law_frames.Goals as goal

pub returns : goal.returns
returns c = record { going_on = going_stand; catching = caught_stand; returning = returned_stand; calling = called_stand; starting = started_stand }
