use Rattle.std.proofs.Common.{◌≡◌, pos, ◌-ℤ◌, ap, sym, rules}
use Rattle.std.specs.Int.{int_wrapping_sub, w32}
use Rattle.std.proofs.lemmas.Int.{fits_signed_from_abs}
use Rattle.fm_alu.proofs.OperationsLemmas.{difference-is}
use Rattle.fm_alu.specs.TwosComplement.{signed}
use Rattle.fm_exec.proofs.PlainSteps.{with-int}
use Rattle.fm_fast.proofs.FlowSteps.{gave, seen-on}
use Rattle.fm_fast.proofs.numbers.int_negate.Goals as goal
use Rattle.fm_fast.specs.Flows.{on, stepped_on}
use Rattle.fm_frames.specs.Effects.{Plain, int_word, words}
use Rattle.fm_frames.specs.NumberRows.{int_negate_effect}
use Rattle.fm_frames.specs.declared.values.Value.TheVariants as value
use Rattle.fm_frames.specs.inner.Doings.{int_in}

pub returns-clause-did : goal.returns-clause-did
unfolding int_negate_effect
returns-clause-did c told p choose x =
    let old = c.args.frames.now in
    let a = c.int_there-a.result in
    let negated = int_wrapping_sub w32 (pos 0) a in
    let result : signed 32 (pos 0 -ℤ a) ≡ negated = sym (difference-is w32 (pos 0) a (fits_signed_from_abs w32 (pos 0) (search rules)) (search rules)) in
    with-int p choose (on x old) (stepped_on x c.give.new.frames) 0 a _ _ (seen-on x old 0 int_in _ c.int_there-a.ensures)
    (ap (λ n. words 1 (int_word n)) result)
    (gave p choose x old c.give.new.frames 1 _ (Plain (value.Int negated)) c.requires.fits (c.give.ensures.did told) (search rules))
