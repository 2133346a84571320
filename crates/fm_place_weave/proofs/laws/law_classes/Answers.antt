use Rattle.fm_place_weave.proofs.ClassLawLemmas.{classes_are_chained}
use Rattle.fm_place_weave.proofs.laws.law_classes.Goals as goal

pub returns : goal.returns
returns c = classes_are_chained
