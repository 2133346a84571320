use Rattle.std.proofs.Common.{◌≡◌}
use Rattle.fm_place_weave.specs.ByPlan.{nulls_by}
use Rattle.fm_place_weave.proofs.weaving.nulls.Given as goal

abbrev pub invariant-loop-holder : goal.invariant-loop-holder
invariant-loop-holder l = l.items.items ≡ nulls_by l.first l.holder
