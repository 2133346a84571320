use Rattle.std.proofs.Common.{map}
use Rattle.fm_frames.proofs.StartActions.{fields_more}
use Rattle.fm_frames.proofs.actions.add_fields.Goals as goal
use Rattle.fm_frames.specs.inner.StartActions.{action_of}

pub loop-place-preserved : goal.loop-place-preserved
loop-place-preserved c =
    fields_more c.args.program.now.outline c.args.first c.loop-place.place c.field.result.now (map action_of c.args.actions.now.items)
    (map action_of c.loop-place.actions.items) (map action_of c.add_constant.new.actions.items) c.field.ensures c.loop-place.invariant
    c.in_ok-add_constant.ensures
