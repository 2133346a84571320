use Rattle.std.proofs.Common.{ap, length, arith}
use Rattle.fm_flow.proofs.EdgeListsLemmas.{length-lists_of}
use Rattle.fm_flow.proofs.edge_lists.EdgeLists.len.Goals as goal

pub returns : goal.returns
returns c = omega (arith, length-lists_of c.self.inside.items.items c.self.inside.starts.items, ap length c.self.view_is, c.len.ensures)
