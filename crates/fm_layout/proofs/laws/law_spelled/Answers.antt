use Rattle.fm_layout.proofs.LawLemmas.{laid_is_code}
use Rattle.fm_layout.proofs.laws.law_spelled.Goals as goal

pub returns : goal.returns
returns c = laid_is_code
