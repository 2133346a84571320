use Rattle.std.proofs.Common.{[], ◌+◌, ◌*◌}
use Rattle.fm_gen.specs.Made.{call}
use Rattle.fm_gen.proofs.LoopLemmas.{mapped_more}
use Rattle.fm_gen.proofs.insns.main_insns.Goals as goal

pub loop-j-preserved : goal.loop-j-preserved
loop-j-preserved c =
    mapped_more (λ j. call (100 * c.args.n + j)) c.loop-j.j c.call.result [] c.loop-j.insns.items c.push.new.self.items c.call.ensures c.loop-j.invariant
    c.in_ok-push.ensures.items
