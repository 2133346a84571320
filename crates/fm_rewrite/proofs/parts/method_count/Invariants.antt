use Rattle.std.proofs.Common.{◌≡◌, ◌+◌, drop}
use Rattle.fm_rewrite.specs.inner.ByPlans.{method_count}
use Rattle.fm_rewrite.proofs.parts.method_count.Given as goal

abbrev pub invariant-loop-class : goal.invariant-loop-class
invariant-loop-class l = l.count + method_count (drop l.class-index l.classes) ≡ method_count l.classes
