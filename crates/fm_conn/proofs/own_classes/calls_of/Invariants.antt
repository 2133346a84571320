use Rattle.std.proofs.Common.{◌≡◌}
use Rattle.std.specs.List.{flat_map, range_with_len}
use Rattle.fm_conn.specs.inner.PairLists.{call_shape_at, method_in}
use Rattle.fm_conn.proofs.own_classes.calls_of.Given as goal

abbrev pub invariant-loop-item : goal.invariant-loop-item
invariant-loop-item l = l.calls.items ≡ flat_map (call_shape_at (method_in l.method) l.least) (range_with_len 0 l.item)
