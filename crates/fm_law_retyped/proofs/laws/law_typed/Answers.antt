use Rattle.fm_law_retyped.proofs.SafeMethods.{safe_typed}
use Rattle.fm_law_retyped.proofs.laws.law_typed.Goals as goal

pub returns : goal.returns
returns c = safe_typed c.law_class_types.ensures c.law_stands.ensures c.law_linking.ensures c.law_steps.ensures
