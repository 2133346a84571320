use Rattle.std.proofs.Common.{arith}
use Rattle.fm_flow.proofs.CodeFacts.{items_counted}
use Rattle.fm_flow.proofs.item_edges.item_count.Goals as goal

pub overflow_cast-result : goal.overflow_cast-result
overflow_cast-result c = let counted = items_counted c.args.code.now c.requires in omega (arith, counted.1, c.len.ensures)

pub returns-clause-some : goal.returns-clause-some
returns-clause-some c = let counted = items_counted c.args.code.now c.requires in omega (arith, counted.0, c.len.ensures)

pub returns-clause-few : goal.returns-clause-few
returns-clause-few c = let counted = items_counted c.args.code.now c.requires in omega (arith, counted.1, c.len.ensures)
