use Rattle.fm_law_can_step.proofs.Named.{dimensions_within, literal_inside, use_inside, wanted}
use Rattle.fm_law_can_step.proofs.laws.law_names.Goals as goal

pub returns : goal.returns
returns c = record { there = use_inside; wanted = wanted; literals = literal_inside; dimensions = dimensions_within }
