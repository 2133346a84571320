use Rattle.fm_law_relinked.proofs.FreeUse.{calls_stand}
use Rattle.fm_law_relinked.proofs.Uses.{uses_same}
use Rattle.fm_law_relinked.proofs.laws.law_uses.Goals as goal

pub returns-clause-stay : goal.returns-clause-stay
returns-clause-stay c = uses_same

pub returns-clause-calls : goal.returns-clause-calls
returns-clause-calls c = calls_stand c.law_class_types.ensures
