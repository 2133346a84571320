use Rattle.fm_law_reached.proofs.Narrowed.{costs_same, runs_same, steps_same}
use Rattle.fm_law_reached.proofs.laws.law_narrowed.Goals as goal

pub returns : goal.returns
returns c = record { steps = steps_same; costs = costs_same; runs = runs_same }
