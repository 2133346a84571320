use Rattle.std.proofs.Common.{arith}
use Rattle.fm_summ.proofs.CodeLemmas.{shapes_more}
use Rattle.fm_summ.proofs.linked.first_shapes.Goals as goal

pub overflow_cast-index : goal.overflow_cast-index
overflow_cast-index c = omega (arith, c.loop-index-test.true, c.requires.few, c.requires.one_each)

pub loop-index-preserved : goal.loop-index-preserved
loop-index-preserved c =
    shapes_more c.args.program.now c.args.shapes.now c.loop-index.index c.index-shapes-index.result c.loop-index.first.items c.push.new.self.items c.in_ok-made.made
    c.loop-index-test.true c.index-shapes-index.is c.loop-index.invariant c.in_ok-made.ensures c.in_ok-push.ensures.items
