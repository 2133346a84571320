use Rattle.fm_code.proofs.CodeItems.{one_code}
use Rattle.fm_code.proofs.laws.law_one_code.Goals as goal

pub returns : goal.returns
returns c = one_code
