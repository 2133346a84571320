use Rattle.std.proofs.Common.{◌≡◌}
use Rattle.fm_check_walk.proofs.MergingLemmas.{joined_to}
use Rattle.fm_check_walk.proofs.merging.join_all.Given as goal

abbrev pub invariant-loop-number : goal.invariant-loop-number
invariant-loop-number l = l.slots ≡ joined_to l.program.outline l.number l.initial.slots l.others
