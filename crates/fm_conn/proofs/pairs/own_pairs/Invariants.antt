use Rattle.std.proofs.Common.{◌≡◌, ◌++◌}
use Rattle.std.specs.List.{flat_map, range_with_len}
use Rattle.std.specs.Slice.Iter.{iter_rest}
use Rattle.fm_conn.specs.inner.PairLists.{caught_pairs, item_pairs_at, method_in}
use Rattle.fm_conn.proofs.pairs.own_pairs.Given as goal

abbrev pub invariant-loop-item : goal.invariant-loop-item
invariant-loop-item l = l.pairs.items ≡ flat_map (item_pairs_at (method_in l.method)) (range_with_len 0 l.item)

abbrev pub invariant-loop-handler : goal.invariant-loop-handler
invariant-loop-handler l =
    l.pairs.items ++ flat_map (caught_pairs l.nodes l.flow.reached) (iter_rest l.handler-iterator)
    ≡ l.initial.pairs.items ++ flat_map (caught_pairs l.nodes l.flow.reached) l.method.code.now.handlers
