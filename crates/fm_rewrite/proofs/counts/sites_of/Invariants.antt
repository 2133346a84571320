use Rattle.std.proofs.Common.{◌≡◌, ◌+◌, drop}
use Rattle.fm_rewrite.specs.inner.ByPlans.{sites_by}
use Rattle.fm_rewrite.proofs.counts.sites_of.Given as goal

abbrev pub invariant-loop-method : goal.invariant-loop-method
invariant-loop-method l = l.count + sites_by (drop l.method-index l.planned) ≡ sites_by l.planned
