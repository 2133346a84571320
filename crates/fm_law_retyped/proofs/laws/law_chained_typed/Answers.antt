use Rattle.fm_law_retyped.proofs.SafeMethods.{chained_typed}
use Rattle.fm_law_retyped.proofs.laws.law_chained_typed.Goals as goal

pub returns : goal.returns
returns c = chained_typed c.law_class_types.ensures c.law_stands.ensures c.law_linking.ensures c.law_steps.ensures
