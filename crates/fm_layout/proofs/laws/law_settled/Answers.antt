use Rattle.fm_layout.proofs.WideningLemmas.{widened_settled}
use Rattle.fm_layout.proofs.laws.law_settled.Goals as goal

pub returns : goal.returns
returns c = widened_settled
