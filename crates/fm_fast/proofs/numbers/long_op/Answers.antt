use Rattle.std.proofs.Common.{◌≡◌, Some, refl, ap, rules}
use Rattle.fm_alu.specs.Operations.{result_of_op}
use Rattle.fm_exec.proofs.PlainSteps.{with-long}
use Rattle.fm_fast.proofs.FlowSteps.{gave-wide, seen-on}
use Rattle.fm_fast.proofs.numbers.long_op.Goals as goal
use Rattle.fm_fast.specs.Flows.{on, stepped_on}
use Rattle.fm_frames.specs.Effects.{Plain, long_words, words}
use Rattle.fm_frames.specs.NumberRows.{long_op_effect}
use Rattle.fm_frames.specs.Operands.{or_thrown}
use Rattle.fm_frames.specs.declared.values.Value.TheVariants as value
use Rattle.fm_frames.specs.inner.Doings.{long_in}

pub returns-in-Some-clause-did : goal.returns-in-Some-clause-did
unfolding long_op_effect
returns-in-Some-clause-did c told p choose x =
    let old = c.args.frames.now in
    let new = stepped_on x c.give_wide.new.frames in
    let a = c.long_there-a.result in
    let b = c.long_there-b.result in
    let result : result_of_op c.args.op 64 a b ≡ Some c.in-Some.n = search rules in
    with-long p choose (on x old) new 1 b _ _ (seen-on x old 1 long_in _ c.long_there-b.ensures) refl
    (with-long p choose (on x old) new 3 a _ _ (seen-on x old 3 long_in _ c.long_there-a.ensures)
    (ap (λ r. or_thrown p.outline r (λ n. words 4 (long_words n))) result)
    (gave-wide p choose x old c.give_wide.new.frames 4 _ (Plain (value.Long c.in-Some.n)) c.requires.fits (c.give_wide.ensures.did told) (search rules)))
