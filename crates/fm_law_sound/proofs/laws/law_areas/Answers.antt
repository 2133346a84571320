use Rattle.fm_cells.proofs.Choices.{lawful_choice-may}
use Rattle.fm_cells.specs.Choices.{lawful}
use Rattle.fm_law_sound.proofs.ActsKeep.{actions_keep}
use Rattle.fm_law_sound.proofs.laws.law_areas.Goals as goal

pub returns : goal.returns
returns c =
    λ o sizes choose f x actions sound fit.
    actions_keep o sizes (lawful choose) (λ s request. lawful_choice-may s request (choose s request)) f x actions sound fit
