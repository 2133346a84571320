use Rattle.fm_gen.proofs.SpelledLemmas.{made_accepted, made_short, made_spelled}
use Rattle.fm_gen.proofs.laws.law_made.Goals as goal

pub returns-clause-spelled : goal.returns-clause-spelled
returns-clause-spelled c = made_spelled

pub returns-clause-accepted : goal.returns-clause-accepted
returns-clause-accepted c = made_accepted

pub returns-clause-short : goal.returns-clause-short
returns-clause-short c = made_short
