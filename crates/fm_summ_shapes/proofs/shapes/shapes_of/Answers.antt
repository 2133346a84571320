use Rattle.std.proofs.Common.{◌≡◌, length, arith}
use Rattle.fm_world.specs.Members.{methods_of}
use Rattle.fm_summ_shapes.proofs.ShapesLemmas.{all_shapes, shapes_more}
use Rattle.fm_summ_shapes.proofs.shapes.shapes_of.Goals as goal

pub loop-number-preserved : goal.loop-number-preserved
loop-number-preserved c =
    shapes_more c.args.program.now c.loop-number.number c.loop-number.shapes.items c.push.new.self.items c.in_ok-made.made
    c.loop-number.invariant.0 c.in_ok-push.ensures.items c.loop-number.invariant.1 c.in_ok-made.ensures

pub returns : goal.returns
returns c =
    let count : length c.loop-number.shapes.items ≡ length (methods_of c.args.program.now.outline.classes) =
    omega (arith, c.loop-number-test.false, c.loop-number.auto.number-end, c.loop-number.invariant.0, c.methods-number-end.ensures) in
    all_shapes c.args.program.now c.loop-number.shapes.items c.requires count
    (λ k inside. c.loop-number.invariant.1 k (omega (arith, inside, c.loop-number.invariant.0)))
