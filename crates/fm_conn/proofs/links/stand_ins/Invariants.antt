use Rattle.std.proofs.Common.{◌≡◌, ◌+◌}
use Rattle.std.specs.List.{flat_map, range_with_len}
use Rattle.fm_conn.specs.declared.ends.End2.TheVariants as end
use Rattle.fm_conn.specs.inner.NodeTables.{slot_number}
use Rattle.fm_conn.specs.inner.PairLists.{end_entry}
use Rattle.fm_conn.proofs.links.stand_ins.Given as goal

abbrev pub invariant-loop-k : goal.invariant-loop-k
invariant-loop-k l =
    l.ends.items ≡ flat_map (λ k. end_entry (end.Parameter k) (slot_number l.at.nodes.now l.at.item (l.at.below + k))) (range_with_len 0 l.k)
