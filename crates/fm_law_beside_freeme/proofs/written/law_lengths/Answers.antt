use Rattle.fm_law_beside_freeme.proofs.LengthsAlone.{lengths_alone}
use Rattle.fm_law_beside_freeme.proofs.written.law_lengths.Goals as goal

pub returns : goal.returns
returns c = lengths_alone
