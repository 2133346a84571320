use Rattle.fm_law_unwoven.proofs.KeptOpenings.{openings_come}
use Rattle.fm_law_unwoven.proofs.laws.law_openings.Goals as goal

pub returns : goal.returns
returns c = openings_come c.law_opened.ensures c.law_sound.ensures.runs c.law_reached.ensures
