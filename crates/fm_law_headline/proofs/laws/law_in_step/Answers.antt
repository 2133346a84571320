use Rattle.fm_law_headline.proofs.InStep.{in_step}
use Rattle.fm_law_headline.proofs.laws.law_in_step.Goals as goal

pub returns : goal.returns
returns c = in_step
