use Rattle.fm_frames.proofs.Example.{sum_effects_are}
use Rattle.fm_frames.proofs.laws.law_sum_example.Goals as goal

pub returns : goal.returns
returns c = sum_effects_are
