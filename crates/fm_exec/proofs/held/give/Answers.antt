use Rattle.std.proofs.Common.{sym, subst}
use Rattle.fm_exec.proofs.FieldSteps.{loaded-long, loaded-one}
use Rattle.fm_exec.proofs.held.give.Goals as goal
use Rattle.fm_frames.proofs.Throwing.{told-ok}
use Rattle.fm_frames.specs.Effects.{words}
use Rattle.fm_frames.specs.inner.Doings.{Does}

pub returns-in-Long : goal.returns-in-Long
returns-in-Long g c =
    told-ok c.give_wide.result _ _
    (λ given source told.
    subst (λ gives. Does c.args.machine.now c.give_wide.new.self (words c.args.takes gives)) (sym (loaded-long c.args.kind source c.in-Long.is))
    (given source told))
    c.give_wide.ensures

pub returns-in_default : goal.returns-in_default
returns-in_default g c =
    told-ok c.give.result _ _
    (λ given source told.
    subst (λ gives. Does c.args.machine.now c.give.new.self (words c.args.takes gives)) (sym (loaded-one c.args.kind source c.in_default.not-Long))
    (given source told))
    c.give.ensures
