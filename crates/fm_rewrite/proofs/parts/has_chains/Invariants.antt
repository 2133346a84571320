use Rattle.std.proofs.Common.{◌≡◌, drop}
use Rattle.std.specs.List.{AllByRecursion, list_any}
use Rattle.fm_place_weave.specs.ClassByPlan.{chains_in}
use Rattle.fm_rewrite.specs.inner.ByPlans.{HasFlags}
use Rattle.fm_rewrite.proofs.parts.has_chains.Given as goal

abbrev pub invariant-loop-method : goal.invariant-loop-method
invariant-loop-method l = record {
  flags : AllByRecursion HasFlags (drop l.method-index l.planned);
  so_far : list_any chains_in (drop l.method-index l.planned) ≡ list_any chains_in l.planned;
}
