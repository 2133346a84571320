use Rattle.fm_law_sound.proofs.FewWords.{few_within}
use Rattle.fm_law_sound.proofs.laws.law_few_words.Goals as goal

pub returns : goal.returns
returns c = λ o x actions budget not_over. few_within o x actions budget not_over
