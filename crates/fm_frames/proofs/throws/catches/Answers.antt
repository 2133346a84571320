use Rattle.std.proofs.Common.{ap, ◌∙◌}
use Rattle.fm_frames.proofs.Catches.{catches-is}
use Rattle.fm_frames.proofs.Programs.{method-class}
use Rattle.fm_frames.proofs.throws.catches.Goals as goal
use Rattle.fm_world.specs.declared.records.MethodInfo.{MethodInfo}

pub returns : goal.returns
returns c =
    catches-is c.args.program.now c.args.method.0 c.args.item c.args.t c.args.h.now c.method.result.now.class.0 c.use_of.result c.is_below.result
    c.if-h-item.false c.if-item-h.false c.if-h-eq0.false
    (ap (λ (m : MethodInfo). m.class.0) c.method.ensures ∙ method-class c.args.program.now c.args.method.0) c.use_of.ensures c.is_below.ensures
