use Rattle.std.proofs.Common.{◌≡◌, ◌++◌}
use Rattle.std.specs.List.{flat_map, range_with_len}
use Rattle.fm_conn.specs.inner.PairLists.{call_pairs_at, method_in}
use Rattle.fm_conn.proofs.links.push_calls.Given as goal

abbrev pub invariant-loop-item : goal.invariant-loop-item
invariant-loop-item l =
    l.pairs.items ≡ l.initial.pairs.items ++ flat_map (call_pairs_at (method_in l.method) l.summaries) (range_with_len 0 l.item)
