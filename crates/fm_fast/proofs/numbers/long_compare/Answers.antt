use Rattle.std.proofs.Common.{◌≡◌, refl, ap, rules}
use Rattle.fm_alu.specs.Conversions.{result_of_comparison}
use Rattle.fm_exec.proofs.PlainSteps.{with-long}
use Rattle.fm_fast.proofs.FlowSteps.{gave, seen-on}
use Rattle.fm_fast.proofs.numbers.long_compare.Goals as goal
use Rattle.fm_fast.specs.Flows.{on, stepped_on}
use Rattle.fm_frames.specs.Effects.{Plain, int_word, words}
use Rattle.fm_frames.specs.NumberRows.{compare_effect}
use Rattle.fm_frames.specs.declared.values.Value.TheVariants as value
use Rattle.fm_frames.specs.inner.Doings.{long_in}

pub returns-clause-did : goal.returns-clause-did
unfolding compare_effect
returns-clause-did c told p choose x =
    let old = c.args.frames.now in
    let new = stepped_on x c.give.new.frames in
    let a = c.long_there-a.result in
    let b = c.long_there-b.result in
    let result : result_of_comparison a b ≡ c.compare.result = search rules in
    with-long p choose (on x old) new 1 b _ _ (seen-on x old 1 long_in _ c.long_there-b.ensures) refl
    (with-long p choose (on x old) new 3 a _ _ (seen-on x old 3 long_in _ c.long_there-a.ensures)
    (ap (λ n. words 4 (int_word n)) result)
    (gave p choose x old c.give.new.frames 4 _ (Plain (value.Int c.compare.result)) c.requires.fits (c.give.ensures.did told) (search rules)))
