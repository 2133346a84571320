use Rattle.fm_gen.specs.Made.{g_method}
use Rattle.fm_gen.proofs.LoopLemmas.{mapped_more}
use Rattle.fm_gen.proofs.class.push_g_methods.Goals as goal

pub loop-j-preserved : goal.loop-j-preserved
loop-j-preserved c =
    mapped_more (g_method c.args.n) c.loop-j.j c.in_ok-method.method c.args.methods.now.items c.loop-j.methods.items c.push.new.self.items c.in_ok-method.ensures
    c.loop-j.invariant c.in_ok-push.ensures.items
