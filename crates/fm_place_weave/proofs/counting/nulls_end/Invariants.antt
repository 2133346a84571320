use Rattle.std.proofs.Common.{◌≡◌}
use Rattle.fm_place_weave.specs.ByPlan.{inserted_end, nulls_by}
use Rattle.fm_place_weave.proofs.CountingLemmas.{nulls_from}
use Rattle.fm_place_weave.proofs.counting.nulls_end.Given as goal

abbrev pub invariant-loop-holder : goal.invariant-loop-holder
invariant-loop-holder l = inserted_end l.end (nulls_from l.first l.holder l.holders) ≡ inserted_end 0 (nulls_by l.first l.holders)
