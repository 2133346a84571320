use Rattle.fm_chain.proofs.PlanLaws.{chain_plans_are_looped, plans_have_the_chains}
use Rattle.fm_chain.proofs.laws.law_plans.Goals as goal

pub returns-clause-looped : goal.returns-clause-looped
returns-clause-looped c = chain_plans_are_looped

pub returns-clause-chains : goal.returns-clause-chains
returns-clause-chains c = plans_have_the_chains
