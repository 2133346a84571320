use Rattle.std.proofs.Common.{◌≡◌, ◌+◌, drop}
use Rattle.fm_place_weave.specs.ByPlan.{taken_count}
use Rattle.fm_place_weave.proofs.anchors.taken_count.Given as goal

abbrev pub invariant-loop-pair : goal.invariant-loop-pair
invariant-loop-pair l = l.count + taken_count l.looped (drop l.pair-index l.pairs) ≡ taken_count l.looped l.pairs
