use Rattle.std.proofs.Common.{◌≡◌, refl, ap, rules}
use Rattle.fm_alu.specs.Shifts.{result_of_shift}
use Rattle.fm_alu.specs.TwosComplement.{low_bits}
use Rattle.fm_exec.proofs.PlainSteps.{with-int, with-long}
use Rattle.fm_fast.proofs.FlowSteps.{gave-wide, seen-on}
use Rattle.fm_fast.proofs.numbers.long_shift.Goals as goal
use Rattle.fm_fast.specs.Flows.{on, stepped_on}
use Rattle.fm_frames.specs.Effects.{Plain, long_words, words}
use Rattle.fm_frames.specs.NumberRows.{long_shift_effect}
use Rattle.fm_frames.specs.declared.values.Value.TheVariants as value
use Rattle.fm_frames.specs.inner.Doings.{int_in, long_in}

pub returns-clause-did : goal.returns-clause-did
unfolding long_shift_effect
returns-clause-did c told p choose x =
    let old = c.args.frames.now in
    let new = stepped_on x c.give_wide.new.frames in
    let a = c.long_there-a.result in
    let n = c.int_there-n.result in
    let result : result_of_shift c.args.shift 64 a (low_bits 6 n) ≡ c.long_shift.result = search rules in
    with-int p choose (on x old) new 0 n _ _ (seen-on x old 0 int_in _ c.int_there-n.ensures) refl
    (with-long p choose (on x old) new 2 a _ _ (seen-on x old 2 long_in _ c.long_there-a.ensures)
    (ap (λ n. words 3 (long_words n)) result)
    (gave-wide p choose x old c.give_wide.new.frames 3 _ (Plain (value.Long c.long_shift.result)) c.requires.fits (c.give_wide.ensures.did told) (search rules)))
