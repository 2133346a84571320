use Rattle.std.proofs.Common.{◌≡◌, Some, rules}
use Rattle.fm_alu.specs.Operations.{result_of_op}
use Rattle.fm_exec.proofs.NumberSteps.{int_op-both, int_op_result}
use Rattle.fm_exec.proofs.Seen.{carried}
use Rattle.fm_exec.specs.Steps.{seen}
use Rattle.fm_fast.proofs.FlowSteps.{gave, seen-on}
use Rattle.fm_fast.proofs.numbers.int_op.Goals as goal
use Rattle.fm_fast.specs.Flows.{on, stepped_on}
use Rattle.fm_frames.specs.Effects.{Plain}
use Rattle.fm_frames.specs.NumberRows.{int_op_effect}
use Rattle.fm_frames.specs.Steps.{stack_of}
use Rattle.fm_frames.specs.declared.values.Value.TheVariants as value
use Rattle.fm_frames.specs.inner.Doings.{int_in}

pub returns-in-Some-clause-did : goal.returns-in-Some-clause-did
returns-in-Some-clause-did c told p choose x =
    let o = p.outline in
    let old = c.args.frames.now in
    let a = c.int_there-a.result in
    let b = c.int_there-b.result in
    let result : result_of_op c.args.op 32 a b ≡ Some c.in-Some.n = search rules in
    carried p choose (on x old) (stepped_on x c.give.new.frames) (int_op_effect o c.args.op (seen p (on x old))) (int_op_result o (Some c.in-Some.n))
    (int_op-both o c.args.op x.areas.store (stack_of (on x old)) b a (Some c.in-Some.n)
    (seen-on x old 0 int_in _ c.int_there-b.ensures) (seen-on x old 1 int_in _ c.int_there-a.ensures) result)
    (gave p choose x old c.give.new.frames 2 _ (Plain (value.Int c.in-Some.n)) c.requires.fits (c.give.ensures.did told) (search rules))
