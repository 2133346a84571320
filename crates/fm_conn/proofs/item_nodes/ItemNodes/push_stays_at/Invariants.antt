use Rattle.std.proofs.Common.{◌≡◌, ◌++◌, take}
use Rattle.std.specs.List.{flat_map}
use Rattle.fm_conn.specs.inner.PairLists.{place_of, stay_pairs}
use Rattle.fm_conn.proofs.item_nodes.ItemNodes.push_stays_at.Given as goal

abbrev pub invariant-loop-target : goal.invariant-loop-target
invariant-loop-target l =
    l.pairs.items ≡ l.initial.pairs.items ++ flat_map (stay_pairs l.self.nodes.now (place_of l.self)) (take l.target-index l.targets)
