use Rattle.fm_flow.proofs.EdgeListsLemmas.{lists_of-none, AreStarts-none}
use Rattle.fm_flow.proofs.edge_lists.EdgeLists.new.Goals as goal

pub invariant_of-result : goal.invariant_of-result
invariant_of-result c = rw (c.new.ensures.items, c.in_ok-push.ensures.items, c.new-starts.ensures.items) AreStarts-none

pub returns : goal.returns
returns c = rw (c.new.ensures.items, c.in_ok-push.ensures.items, c.new-starts.ensures.items) lists_of-none
