use Rattle.fm_conn.proofs.ListLemmas.{flat_range_more}
use Rattle.fm_conn.specs.inner.PairLists.{call_pairs_at, method_in}
use Rattle.fm_conn.proofs.links.push_calls.Goals as goal

pub loop-item-preserved : goal.loop-item-preserved
loop-item-preserved c =
    flat_range_more (call_pairs_at (method_in c.args.method.now) c.args.summaries.now) c.loop-item.item _ c.loop-item.pairs.items c.push_item.new.pairs.items
    c.loop-item.invariant c.in_ok-push_item.ensures
