use Rattle.std.proofs.Common.{◌∙◌, ◌++◌}
use Rattle.fm_conn.proofs.ListLemmas.{flat_range_more}
use Rattle.fm_conn.specs.inner.NodeTables.{slot_number}
use Rattle.fm_conn.specs.inner.PairLists.{number_pair}
use Rattle.fm_conn.proofs.item_nodes.ItemNodes.push_stays.Goals as goal

pub loop-depth-preserved : goal.loop-depth-preserved
loop-depth-preserved c =
    let t = c.args.self.now.nodes.now in
    flat_range_more
    (λ depth. number_pair (slot_number t c.args.self.now.item depth) (slot_number t c.args.next depth))
    c.loop-depth.depth _ c.loop-depth.pairs.items c.push_pair.new.pairs.items c.loop-depth.invariant
    (c.in_ok-push_pair.ensures ∙ (λ k. c.loop-depth.pairs.items ++ number_pair (c.slot-here.ensures k) (c.slot.ensures k)))
