use Rattle.fm_law_relinked.proofs.Outlines.{outline_same}
use Rattle.fm_law_relinked.proofs.laws.law_outline.Goals as goal

pub returns : goal.returns
returns c given main plans spelled = outline_same plans given main spelled
