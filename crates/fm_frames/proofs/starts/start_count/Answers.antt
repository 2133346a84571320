use Rattle.std.proofs.lemmas.List.{get_or_default}
use Rattle.fm_frames.proofs.ClassStarts.{count-more}
use Rattle.fm_frames.proofs.starts.start_count.Goals as goal

pub loop-class-preserved : goal.loop-class-preserved
loop-class-preserved c =
    count-more c.args.program.now.outline c.args.classes.now c.loop-class.class-index _ c.loop-class.count c.start_count_of-count.result
    c.loop-class-test.true (get_or_default c.args.classes.now c.loop-class.class-index _ _ c.loop-class-test.true) c.loop-class.invariant
    c.start_count_of-count.ensures.value c.start_count_of-count.ensures.few
