use Rattle.fm_summ_shapes.proofs.AcceptedLemmas.{accepted_are}
use Rattle.fm_summ_shapes.proofs.laws.law_accepted.Goals as goal

pub returns : goal.returns
returns c = accepted_are
