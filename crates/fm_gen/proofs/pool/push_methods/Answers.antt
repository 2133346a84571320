use Rattle.std.proofs.Common.{arith}
use Rattle.fm_gen.specs.Made.{method_entries}
use Rattle.fm_gen.proofs.LoopLemmas.{pushed_more}
use Rattle.fm_gen.proofs.pool.push_methods.Goals as goal

pub loop-number-preserved : goal.loop-number-preserved
loop-number-preserved c =
    pushed_more (method_entries c.args.letter.now c.args.descriptor c.args.first) 0 c.loop-number.number c.loop-number.number c.args.entries.now.items
    c.loop-number.entries.items c.push_method.new.entries.items (omega arith) c.loop-number.invariant c.in_ok-push_method.ensures
