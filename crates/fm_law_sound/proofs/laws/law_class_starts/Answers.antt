use Rattle.fm_law_sound.proofs.ClassStarts.{starts_are_methods}
use Rattle.fm_law_sound.proofs.laws.law_class_starts.Goals as goal

pub returns : goal.returns
returns c = starts_are_methods
