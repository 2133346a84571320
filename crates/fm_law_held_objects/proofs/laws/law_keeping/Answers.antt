use Rattle.fm_law_held_objects.proofs.Keeping.{keeping_keeps_held}
use Rattle.fm_law_held_objects.proofs.laws.law_keeping.Goals as goal

pub returns : goal.returns
returns c = keeping_keeps_held c.law_new_results.ensures.unheld
