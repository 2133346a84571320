use Rattle.fm_law_held_objects.proofs.Cleaned.{colours_are_cleaned}
use Rattle.fm_law_held_objects.proofs.laws.law_clean.Goals as goal

pub returns : goal.returns
returns c = colours_are_cleaned
