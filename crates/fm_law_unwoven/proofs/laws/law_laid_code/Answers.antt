use Rattle.fm_law_unwoven.proofs.LaidTodos.{codes_laid}
use Rattle.fm_law_unwoven.proofs.laws.law_laid_code.Goals as goal

pub returns : goal.returns
returns c = codes_laid
