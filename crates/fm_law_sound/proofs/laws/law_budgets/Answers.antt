use Rattle.fm_law_sound.proofs.Budgets.{step_budget}
use Rattle.fm_law_sound.proofs.laws.law_budgets.Goals as goal

pub returns : goal.returns
returns c = step_budget
