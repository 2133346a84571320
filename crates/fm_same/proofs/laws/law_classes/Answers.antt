use Rattle.fm_same.proofs.LinkedClasses.{linked_if_same_class, same_class_if_paired}
use Rattle.fm_same.proofs.laws.law_classes.Goals as goal

pub returns : goal.returns
returns c = record { linked = linked_if_same_class; paired = same_class_if_paired }
