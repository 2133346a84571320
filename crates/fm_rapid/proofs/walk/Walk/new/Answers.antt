use Rattle.fm_rapid.proofs.Opening.{is_new}
use Rattle.fm_rapid.proofs.walk.Walk.new.Goals as goal

pub returns : goal.returns
returns c =
    is_new c.args.program.now c.methods.result c.classes-classes.result _ _ _ _ _ _ c.methods.ensures c.classes-classes.ensures c.in_ok-methods.ensures
    c.in_ok-made.ensures c.in_ok-started.ensures c.new-4.ensures.items c.in_ok-called.ensures c.in_ok-below.ensures
