use Rattle.fm_law_unwoven.proofs.UnseenLocals.{locals_unseen, only_named}
use Rattle.fm_law_unwoven.proofs.UnseenTargets.{opposites_exchange, targets_unseen}
use Rattle.fm_law_unwoven.proofs.laws.law_unseen_code.Goals as goal

pub returns-clause-targets : goal.returns-clause-targets
returns-clause-targets c = targets_unseen

pub returns-clause-opposites : goal.returns-clause-opposites
returns-clause-opposites c = opposites_exchange

pub returns-clause-named : goal.returns-clause-named
returns-clause-named c = only_named

pub returns-clause-locals : goal.returns-clause-locals
returns-clause-locals c = locals_unseen
