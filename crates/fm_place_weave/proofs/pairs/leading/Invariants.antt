use Rattle.std.proofs.Common.{◌≡◌, ◌+◌, drop}
use Rattle.fm_place_weave.specs.ByPlan.{leading}
use Rattle.fm_place_weave.proofs.pairs.leading.Given as goal

abbrev pub invariant-loop-pair : goal.invariant-loop-pair
invariant-loop-pair l = record {
  all : l.count ≡ l.pair-index;
  counted : l.count + leading l.item (drop l.pair-index l.pairs) ≡ leading l.item l.pairs;
}
