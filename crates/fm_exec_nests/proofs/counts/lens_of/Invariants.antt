use Rattle.fm_exec_nests.proofs.CountSteps.{LensSoFar}
use Rattle.fm_exec_nests.proofs.counts.lens_of.Given as goal

abbrev pub invariant-loop-count : goal.invariant-loop-count
invariant-loop-count l = LensSoFar l.counts l.count-index l.lens.items
