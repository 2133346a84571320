use Rattle.std.proofs.Common.{◌≡◌, length, arith}
use Rattle.fm_rewrite.proofs.MethodsLemmas.{planned_more}
use Rattle.fm_world.specs.Members.{methods_of}
use Rattle.fm_rewrite.proofs.plans.planned_by.Goals as goal

pub loop-number-preserved : goal.loop-number-preserved
loop-number-preserved c =
    planned_more c.args.program.now c.args.summaries.now c.args.chains c.loop-number.number c.loop-number.planned.items c.push.new.self.items c.in_ok-made.made
    c.loop-number.invariant.0 c.in_ok-push.ensures.items c.loop-number.invariant.1 c.in_ok-made.ensures

pub returns : goal.returns
returns c =
    let count : length c.loop-number.planned.items ≡ length (methods_of c.args.program.now.outline.classes) =
    omega (arith, c.loop-number-test.false, c.loop-number.auto.number-end, c.loop-number.invariant.0, c.methods-number-end.ensures) in
    record { one_each = count; each = λ k inside. c.loop-number.invariant.1 k (omega (arith, inside, c.loop-number.invariant.0)) }
