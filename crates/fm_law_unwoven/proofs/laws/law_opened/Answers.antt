use Rattle.fm_law_unwoven.proofs.KeptOpenings.{openings_alike}
use Rattle.fm_law_unwoven.proofs.laws.law_opened.Goals as goal

pub returns : goal.returns
returns c = openings_alike c.law_sound.ensures.runs
