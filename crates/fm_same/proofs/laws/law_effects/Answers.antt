use Rattle.fm_same.proofs.Starting.{state_owes}
use Rattle.fm_same.proofs.laws.law_effects.Goals as goal

pub returns : goal.returns
returns c = state_owes
