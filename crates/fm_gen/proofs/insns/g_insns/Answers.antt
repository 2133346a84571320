use Rattle.std.proofs.Common.{[], ◌+◌, ◌*◌, arith}
use Rattle.fm_gen.specs.Made.{tried}
use Rattle.fm_gen.proofs.LoopLemmas.{pushed_more}
use Rattle.fm_gen.proofs.insns.g_insns.Goals as goal

pub loop-k-preserved : goal.loop-k-preserved
loop-k-preserved c =
    pushed_more (λ k. tried (100 * c.args.j + k)) 0 c.loop-k.k c.loop-k.k [] c.loop-k.insns.items c.push_tried.new.insns.items (omega arith) c.loop-k.invariant c.in_ok-push_tried.ensures
