use Rattle.std.proofs.Common.{map}
use Rattle.std.proofs.lemmas.List.{get_or_default}
use Rattle.fm_base.specs.declared.ids.ClassId.{ClassId}
use Rattle.fm_frames.proofs.ClassStarts.{unstarted-more}
use Rattle.fm_frames.proofs.starts.not_started.Goals as goal

pub loop-class-preserved : goal.loop-class-preserved
loop-class-preserved g c =
    unstarted-more c.args.program.now.outline c.args.machine.now.areas.started c.args.classes.now c.loop-class.class-index _ c.is_started-started.result
    (map (λ (d : ClassId). d.0) c.loop-class.found.items) (map (λ (d : ClassId). d.0) c.push_unless.new.classes.items) c.loop-class-test.true
    (get_or_default c.args.classes.now c.loop-class.class-index _ _ c.loop-class-test.true) c.is_started-started.ensures c.loop-class.invariant
    c.in_ok-push_unless.ensures
