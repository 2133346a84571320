use Rattle.fm_same.proofs.FullTargets.{covers_fully}
use Rattle.fm_same.proofs.laws.law_targets.Goals as goal

pub returns : goal.returns
returns c = covers_fully
