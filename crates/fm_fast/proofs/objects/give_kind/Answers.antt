use Rattle.std.proofs.Common.{sym, subst}
use Rattle.fm_exec.proofs.FieldSteps.{loaded-long, loaded-one}
use Rattle.fm_fast.proofs.FlowSteps.{gave, gave-wide}
use Rattle.fm_fast.specs.Flows.{on, stepped_on}
use Rattle.fm_fast.proofs.objects.give_kind.Goals as goal
use Rattle.fm_frames.specs.Effects.{words}
use Rattle.fm_frames.specs.inner.Doings.{DoesIn}

pub returns-in-Long-clause-did : goal.returns-in-Long-clause-did
returns-in-Long-clause-did c told p choose x source from =
    let old = c.args.frames.now in
    let new = c.give_wide.new.frames in
    subst (λ gives. DoesIn p choose (on x old) (stepped_on x new) (words c.args.takes gives)) (sym (loaded-long c.args.kind source c.in-Long.is))
    (gave-wide p choose x old new c.args.takes c.args.value source c.requires.fits (c.give_wide.ensures.did told) from)

pub returns-in_default : goal.returns-in_default
returns-in_default c = record {
  did = λ told p choose x source from.
      subst (λ gives. DoesIn p choose (on x c.args.frames.now) (stepped_on x c.give.new.frames) (words c.args.takes gives))
      (sym (loaded-one c.args.kind source c.in_default.not-Long))
      (gave p choose x c.args.frames.now c.give.new.frames c.args.takes c.args.value source c.requires.fits (c.give.ensures.did told) from);
  same = c.give.ensures.same;
}
