use Rattle.fm_law_linked.proofs.MainMethod.{main_ready}
use Rattle.fm_law_linked.proofs.law_main.Goals as goal

pub returns : goal.returns
returns c = main_ready
