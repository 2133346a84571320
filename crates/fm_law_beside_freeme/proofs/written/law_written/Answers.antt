use Rattle.fm_law_beside_freeme.proofs.WrittenAgain.{written_lengths_alone}
use Rattle.fm_law_beside_freeme.proofs.written.law_written.Goals as goal

pub returns : goal.returns
returns c = written_lengths_alone c.law_typed.ensures
