use Rattle.std.proofs.Common.{ap, ◌∙◌}
use Rattle.fm_cells.proofs.Choices.{lawful_choice-may}
use Rattle.fm_same.specs.Regions.{Retired}
use Rattle.fm_cells.specs.Choices.{lawful}
use Rattle.fm_same.proofs.Opening.{opened_colour, opening_coloured}
use Rattle.fm_same.proofs.Retiring.{retire}
use Rattle.fm_same.proofs.ReturnsKeep.{mapped, moved, moved_own}
use Rattle.fm_same.proofs.StepKeeps.{step_over}
use Rattle.fm_same.proofs.laws.law_colours.Goals as goal

pub returns-clause-steps : goal.returns-clause-steps
returns-clause-steps c =
    λ p facts exact numbers choose x colour coloured stand owes after.
    step_over p facts exact _ (λ s request. lawful_choice-may s request (choose s request)) numbers x colour coloured stand owes after

pub returns-clause-retire : goal.returns-clause-retire
returns-clause-retire c =
    λ p facts x colour method depth class coloured stand over. (
      mapped (moved depth class Retired) colour,
      retire p facts x colour method depth class coloured stand over,
      λ birth own. ap (moved depth class Retired) own ∙ moved_own depth class Retired,
    )

pub returns-clause-opening : goal.returns-clause-opening
returns-clause-opening c =
    λ p facts numbers choose job budget limit free. (
      opened_colour p facts (lawful choose) (λ s request. lawful_choice-may s request (choose s request)) numbers,
      opening_coloured p facts (lawful choose) (λ s request. lawful_choice-may s request (choose s request)) numbers job budget limit free,
    )
