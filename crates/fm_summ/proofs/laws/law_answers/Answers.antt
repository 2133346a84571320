use Rattle.fm_summ.proofs.FactLemmas.{answers_are_facts}
use Rattle.fm_summ.proofs.laws.law_answers.Goals as goal

pub returns : goal.returns
returns c = answers_are_facts
