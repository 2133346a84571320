use Rattle.std.proofs.Common.{◌≡◌, drop}
use Rattle.fm_place_weave.specs.ByPlan.{inserted_end, no_calls, released_by}
use Rattle.fm_place_weave.proofs.counting.released_end.Given as goal

abbrev pub invariant-loop-pair : goal.invariant-loop-pair
invariant-loop-pair l =
    inserted_end l.end (released_by no_calls l.holders.looped.now l.holders.first (drop l.pair-index l.pairs)) ≡ inserted_end l.start (released_by no_calls l.holders.looped.now l.holders.first l.pairs)
