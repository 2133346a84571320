use Rattle.fm_code.proofs.ClassLaw.{one_record}
use Rattle.fm_code.proofs.laws.law_one_record.Goals as goal

pub returns : goal.returns
returns c = one_record
