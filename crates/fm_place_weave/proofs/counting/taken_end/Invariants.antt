use Rattle.std.proofs.Common.{◌≡◌, drop}
use Rattle.fm_place_weave.specs.ByPlan.{inserted_end, no_calls, taken_by}
use Rattle.fm_place_weave.proofs.counting.taken_end.Given as goal

abbrev pub invariant-loop-pair : goal.invariant-loop-pair
invariant-loop-pair l =
    inserted_end l.end (taken_by no_calls l.holders.looped.now l.holders.first (drop l.pair-index l.pairs)) ≡ inserted_end l.start (taken_by no_calls l.holders.looped.now l.holders.first l.pairs)
