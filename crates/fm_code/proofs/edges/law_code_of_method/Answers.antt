use Rattle.fm_code.proofs.EdgesLemmas.{MeetsCodeRules-method}
use Rattle.fm_code.proofs.edges.law_code_of_method.Goals as goal

pub returns : goal.returns
returns c = MeetsCodeRules-method
