use Rattle.std.proofs.Common.{take}
use Rattle.fm_flow.proofs.HandlerLemmas.{AreCaught}
use Rattle.fm_flow.proofs.item_edges.handlers_at.Given as goal

abbrev pub invariant-loop-handler : goal.invariant-loop-handler
invariant-loop-handler l = AreCaught l.j (take l.handler-index l.handlers) l.list.items
