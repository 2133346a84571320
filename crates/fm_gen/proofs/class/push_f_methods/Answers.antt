use Rattle.fm_gen.specs.Made.{f_method}
use Rattle.fm_gen.proofs.LoopLemmas.{mapped_more}
use Rattle.fm_gen.proofs.class.push_f_methods.Goals as goal

pub loop-i-preserved : goal.loop-i-preserved
loop-i-preserved c =
    mapped_more f_method c.loop-i.i c.in_ok-method.method c.args.methods.now.items c.loop-i.methods.items c.push.new.self.items c.in_ok-method.ensures c.loop-i.invariant
    c.in_ok-push.ensures.items
