use Rattle.std.proofs.Common.{refl, arith}
use Rattle.fm_frames.proofs.ClassStarts.{first_above, first_within}
use Rattle.fm_frames.proofs.starts.half_with_first.Goals as goal

pub returns-then-owner-class-clause-low : goal.returns-then-owner-class-clause-low
returns-then-owner-class-clause-low c from =
    first_above c.args.program.now.outline c.args.class c.middle_of-middle.result c.field.result.now.class.0 c.field.result.now
    (omega (arith, c.middle_of-middle.ensures.below, c.requires.inside)) c.field.ensures refl c.if-owner-class.true

pub returns-else-owner-class-clause-high : goal.returns-else-owner-class-clause-high
returns-else-owner-class-clause-high c from =
    first_within c.args.program.now.outline c.args.class c.middle_of-middle.result c.field.result.now.class.0 c.field.result.now
    (omega (arith, c.middle_of-middle.ensures.below, c.requires.inside)) c.field.ensures refl (omega (arith, c.if-owner-class.false))
