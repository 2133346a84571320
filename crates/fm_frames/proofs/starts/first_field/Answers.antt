use Rattle.std.proofs.Common.{arith}
use Rattle.fm_frames.proofs.ClassStarts.{first_inside}
use Rattle.fm_frames.proofs.starts.first_field.Goals as goal

pub loop-low-init : goal.loop-low-init
loop-low-init c =
    let few = first_inside c.args.program.now.outline.classes c.args.class in
    (omega arith, omega (arith, few, c.fields-high.ensures), omega (arith, c.fields-high.ensures))

pub loop-low-preserved : goal.loop-low-preserved
loop-low-preserved c =
    let (from, below, inside) = c.loop-low.invariant in (
      c.half_with_first-half.ensures.low from,
      c.half_with_first-half.ensures.high below,
      omega (arith, c.half_with_first-half.ensures.inside, inside),
    )

pub returns : goal.returns
returns c =
    let (from, below, inside) = c.loop-low.invariant in
    omega (arith, from, below, c.loop-low-test.false)
