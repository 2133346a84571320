use Rattle.fm_world.proofs.ClassTypes.{type_number-class}
use Rattle.fm_world.proofs.laws.law_class_types.Goals as goal

pub returns : goal.returns
returns c classes given class within = type_number-class classes given class within
