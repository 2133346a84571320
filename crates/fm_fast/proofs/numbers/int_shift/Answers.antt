use Rattle.std.proofs.Common.{◌≡◌, refl, ap, rules}
use Rattle.fm_alu.specs.Shifts.{result_of_shift}
use Rattle.fm_alu.specs.TwosComplement.{low_bits}
use Rattle.fm_exec.proofs.PlainSteps.{with-int}
use Rattle.fm_fast.proofs.FlowSteps.{gave, seen-on}
use Rattle.fm_fast.proofs.numbers.int_shift.Goals as goal
use Rattle.fm_fast.specs.Flows.{on, stepped_on}
use Rattle.fm_frames.specs.Effects.{Plain, int_word, words}
use Rattle.fm_frames.specs.NumberRows.{int_shift_effect}
use Rattle.fm_frames.specs.declared.values.Value.TheVariants as value
use Rattle.fm_frames.specs.inner.Doings.{int_in}

pub returns-clause-did : goal.returns-clause-did
unfolding int_shift_effect
returns-clause-did c told p choose x =
    let old = c.args.frames.now in
    let new = stepped_on x c.give.new.frames in
    let result : result_of_shift c.args.shift 32 c.int_there-a.result (low_bits 5 c.int_there-n.result) ≡ c.int_shift.result = search rules in
    with-int p choose (on x old) new 0 c.int_there-n.result _ _ (seen-on x old 0 int_in _ c.int_there-n.ensures) refl
    (with-int p choose (on x old) new 1 c.int_there-a.result _ _ (seen-on x old 1 int_in _ c.int_there-a.ensures)
    (ap (λ n. words 2 (int_word n)) result)
    (gave p choose x old c.give.new.frames 2 _ (Plain (value.Int c.int_shift.result)) c.requires.fits (c.give.ensures.did told) (search rules)))
