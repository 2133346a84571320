use Rattle.fm_flow.proofs.RisingLemmas.{IsRisingListOf-sorted}
use Rattle.fm_flow.proofs.item_edges.sort_once.Goals as goal

pub returns : goal.returns
returns c = IsRisingListOf-sorted c.args.list.now.items c.sort_unstable.new.self.items c.dedup.new.self.items
    c.sort_unstable.ensures.permutation c.sort_unstable.ensures.sorted c.dedup.ensures.filtered
