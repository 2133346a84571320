use Rattle.std.proofs.Common.{◌≡◌, pos, ◌-ℤ◌, ap, sym, rules}
use Rattle.std.specs.Int.{int_wrapping_sub, w64}
use Rattle.std.proofs.lemmas.Int.{fits_signed_from_abs}
use Rattle.fm_alu.proofs.OperationsLemmas.{difference-is}
use Rattle.fm_alu.specs.TwosComplement.{signed}
use Rattle.fm_exec.proofs.PlainSteps.{with-long}
use Rattle.fm_fast.proofs.FlowSteps.{gave-wide, seen-on}
use Rattle.fm_fast.proofs.numbers.long_negate.Goals as goal
use Rattle.fm_fast.specs.Flows.{on, stepped_on}
use Rattle.fm_frames.specs.Effects.{Plain, long_words, words}
use Rattle.fm_frames.specs.NumberRows.{long_negate_effect}
use Rattle.fm_frames.specs.declared.values.Value.TheVariants as value
use Rattle.fm_frames.specs.inner.Doings.{long_in}

pub returns-clause-did : goal.returns-clause-did
unfolding long_negate_effect
returns-clause-did c told p choose x =
    let old = c.args.frames.now in
    let a = c.long_there-a.result in
    let negated = int_wrapping_sub w64 (pos 0) a in
    let result : signed 64 (pos 0 -ℤ a) ≡ negated = sym (difference-is w64 (pos 0) a (fits_signed_from_abs w64 (pos 0) (search rules)) (search rules)) in
    with-long p choose (on x old) (stepped_on x c.give_wide.new.frames) 1 a _ _ (seen-on x old 1 long_in _ c.long_there-a.ensures)
    (ap (λ n. words 2 (long_words n)) result)
    (gave-wide p choose x old c.give_wide.new.frames 2 _ (Plain (value.Long negated)) c.requires.fits (c.give_wide.ensures.did told) (search rules))
