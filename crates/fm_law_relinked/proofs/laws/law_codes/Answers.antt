use Rattle.fm_law_relinked.proofs.Codes.{codes_chained}
use Rattle.fm_law_relinked.proofs.laws.law_codes.Goals as goal

pub returns : goal.returns
returns c = codes_chained
