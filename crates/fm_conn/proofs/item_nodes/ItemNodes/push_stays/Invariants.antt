use Rattle.std.proofs.Common.{◌≡◌, ◌++◌}
use Rattle.std.specs.List.{flat_map, range_with_len}
use Rattle.fm_conn.specs.inner.NodeTables.{slot_number}
use Rattle.fm_conn.specs.inner.PairLists.{number_pair}
use Rattle.fm_conn.proofs.item_nodes.ItemNodes.push_stays.Given as goal

abbrev pub invariant-loop-depth : goal.invariant-loop-depth
invariant-loop-depth l =
    l.pairs.items ≡ l.initial.pairs.items
    ++ flat_map (λ depth. number_pair (slot_number l.self.nodes.now l.self.item depth) (slot_number l.self.nodes.now l.next depth)) (range_with_len 0 l.depth)
