use Rattle.std.proofs.Common.{◌≡◌, ◌+◌, drop}
use Rattle.fm_rewrite.specs.inner.ByPlans.{frees_by}
use Rattle.fm_rewrite.proofs.counts.frees_of.Given as goal

abbrev pub invariant-loop-method : goal.invariant-loop-method
invariant-loop-method l = l.count + frees_by (drop l.method-index l.planned) ≡ frees_by l.planned
