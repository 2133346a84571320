use Rattle.fm_link_names.proofs.TypeSteps.{IsPassed}
use Rattle.fm_link_names.proofs.first_types.split_class.Given as goal

abbrev pub invariant-loop-place : goal.invariant-loop-place
invariant-loop-place l = IsPassed l.bytes l.place
