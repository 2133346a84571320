use Rattle.fm_place_weave.proofs.PlanLemmas.{may-be-woven, woven-alike}
use Rattle.fm_place_weave.proofs.laws.law_plans.Goals as goal

pub returns-clause-alike : goal.returns-clause-alike
returns-clause-alike c = woven-alike

pub returns-clause-may : goal.returns-clause-may
returns-clause-may c = may-be-woven
