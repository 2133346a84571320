use Rattle.fm_rewrite.proofs.FullPlanLemmas.{full_may_be_woven}
use Rattle.fm_rewrite.proofs.laws.law_full_plans.Goals as goal

pub returns : goal.returns
returns c = full_may_be_woven
