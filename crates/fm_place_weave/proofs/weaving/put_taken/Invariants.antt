use Rattle.std.proofs.Common.{◌≡◌, ◌++◌, drop}
use Rattle.fm_place_weave.specs.ByPlan.{taken_by}
use Rattle.fm_place_weave.proofs.weaving.put_taken.Given as goal

abbrev pub invariant-loop-pair : goal.invariant-loop-pair
invariant-loop-pair l = l.out.items ++ taken_by l.holders.calls l.holders.looped.now l.holders.first (drop l.pair-index l.pairs) ≡ l.fn.out.items ++ taken_by l.holders.calls l.holders.looped.now l.holders.first l.pairs
