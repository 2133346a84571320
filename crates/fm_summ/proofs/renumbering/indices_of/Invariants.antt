use Rattle.std.proofs.Common.{◌≡◌, take, map, length}
use Rattle.fm_base.specs.Graph.{AreNodes}
use Rattle.fm_summ.specs.inner.Numbers.{named}
use Rattle.fm_summ.proofs.renumbering.indices_of.Given as goal

abbrev pub invariant-loop-pair : goal.invariant-loop-pair
invariant-loop-pair l =
    (map (named l.names) l.indexed.items ≡ take l.pair-index l.pairs) × AreNodes (length l.names) l.indexed.items
