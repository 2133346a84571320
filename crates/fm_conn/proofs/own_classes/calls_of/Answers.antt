use Rattle.fm_conn.proofs.ListLemmas.{flat_range_next}
use Rattle.fm_conn.specs.inner.PairLists.{call_shape_at, method_in}
use Rattle.fm_conn.proofs.own_classes.calls_of.Goals as goal

pub loop-item-preserved : goal.loop-item-preserved
loop-item-preserved c =
    flat_range_next (call_shape_at (method_in c.args.method.now) c.args.least.now) c.loop-item.item c.loop-item.calls.items c.push_item.new.calls.items
    c.loop-item.invariant c.in_ok-push_item.ensures
