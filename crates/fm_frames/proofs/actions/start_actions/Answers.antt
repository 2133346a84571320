use Rattle.std.proofs.Common.{map}
use Rattle.std.proofs.lemmas.List.{get_or_default}
use Rattle.fm_frames.proofs.StartActions.{classes_more}
use Rattle.fm_frames.proofs.actions.start_actions.Goals as goal
use Rattle.fm_frames.specs.inner.StartActions.{action_of}

pub loop-class-preserved : goal.loop-class-preserved
loop-class-preserved c =
    classes_more c.args.program.now.outline c.args.classes.now c.loop-class.class-index _ (map action_of c.loop-class.actions.items)
    (map action_of c.add_class.new.actions.items) c.loop-class-test.true
    (get_or_default c.args.classes.now c.loop-class.class-index _ _ c.loop-class-test.true) c.loop-class.invariant c.in_ok-add_class.ensures
