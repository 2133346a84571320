use Rattle.std.proofs.Common.{refl, rules}
use Rattle.fm_exec.proofs.PlainSteps.{with-int}
use Rattle.fm_fast.proofs.FlowSteps.{gave-wide, seen-on}
use Rattle.fm_fast.proofs.numbers.widen.Goals as goal
use Rattle.fm_fast.specs.Flows.{on, stepped_on}
use Rattle.fm_frames.specs.Effects.{Plain}
use Rattle.fm_frames.specs.NumberRows.{convert_effect}
use Rattle.fm_frames.specs.declared.values.Value.TheVariants as value
use Rattle.fm_frames.specs.inner.Doings.{int_in}

pub returns-clause-did : goal.returns-clause-did
unfolding convert_effect
returns-clause-did c told p choose x =
    let old = c.args.frames.now in
    with-int p choose (on x old) (stepped_on x c.give_wide.new.frames) 0 c.int_there-a.result _ _ (seen-on x old 0 int_in _ c.int_there-a.ensures) refl
    (gave-wide p choose x old c.give_wide.new.frames 1 _ (Plain (value.Long c.int_there-a.result)) c.requires.fits (c.give_wide.ensures.did told) (search rules))
