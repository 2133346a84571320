use Rattle.fm_law_lockstep.proofs.Unlimited.{unlimited_is_never_full}
use Rattle.fm_law_lockstep.proofs.laws.law_unlimited.Goals as goal

pub returns : goal.returns
returns c = unlimited_is_never_full
