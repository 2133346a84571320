use Rattle.fm_law_spelled.proofs.ClassSpelled.{changed_spelled}
use Rattle.fm_law_spelled.proofs.SupportedLemmas.{changed_accepted}
use Rattle.fm_law_spelled.proofs.laws.law_changed.Goals as goal

pub returns-clause-spelled : goal.returns-clause-spelled
returns-clause-spelled c = changed_spelled

pub returns-clause-accepted : goal.returns-clause-accepted
returns-clause-accepted c = changed_accepted
