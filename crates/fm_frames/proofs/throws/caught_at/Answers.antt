use Rattle.std.proofs.Common.{ap, ◌∙◌}
use Rattle.fm_frames.proofs.Catches.{caught-here, goes-on-below, leaves-here, none-there}
use Rattle.fm_frames.proofs.Programs.{method-class}
use Rattle.fm_frames.proofs.throws.caught_at.Goals as goal
use Rattle.fm_world.specs.declared.records.MethodInfo.{MethodInfo}

pub returns-in_default : goal.returns-in_default
returns-in_default c v = none-there c.args.program.now c.args.t v c.args.frames.now c.args.above c.in_default.ensures

pub returns-in-Some-handler_of : goal.returns-in-Some-handler_of
returns-in-Some-handler_of c v =
    caught-here c.args.program.now c.args.t v c.args.frames.now c.args.above c.in-Some.cursor.method.0 c.in-Some.cursor.item
    c.in-Some-handler_of.handler c.in-Some.ensures c.in-Some-handler_of.ensures

pub returns-then-is_start : goal.returns-then-is_start
returns-then-is_start c v =
    leaves-here c.args.program.now c.args.t v c.args.frames.now c.args.above c.in-Some.cursor.method.0 c.in-Some.cursor.item
    c.method.result.now.class.0 c.in-Some.ensures c.in_default-handler_of.ensures c.if-is_start.ensures
    (ap (λ (m : MethodInfo). m.class.0) c.method.ensures ∙ method-class c.args.program.now c.in-Some.cursor.method.0)

pub returns : goal.returns
returns c v =
    goes-on-below c.args.program.now c.args.t v c.args.frames.now c.args.above c.in-Some.cursor.method.0 c.in-Some.cursor.item c.in-Some.ensures
    c.in_default-handler_of.ensures c.if-is_start.ensures
