use Rattle.std.proofs.Common.{refl, arith}
use Rattle.fm_frames.proofs.OpeningStarts.{action-at, starts-begin}
use Rattle.fm_frames.proofs.opens.open_starts.Goals as goal
use Rattle.fm_frames.specs.inner.Opening.{StartFits}

pub loop-action-init : goal.loop-action-init
loop-action-init g c = starts-begin c.args.program.now g.M.Memory.choose c.args.actions.now c.args.machine.now

pub open_action-requires-clause-fits : goal.open_action-requires-clause-fits
open_action-requires-clause-fits g c =
    action-at (StartFits c.args.program.now.outline) c.args.actions.now c.loop-action.action-index _ _ c.requires.fits c.loop-action-test.true refl

pub open_action-requires-clause-birth_fits : goal.open_action-requires-clause-birth_fits
open_action-requires-clause-birth_fits g c = omega (arith, c.loop-action.invariant.births, c.requires.births_fit, c.loop-action-test.true)

pub open_action-requires-clause-budget_fits : goal.open_action-requires-clause-budget_fits
open_action-requires-clause-budget_fits g c = omega (arith, c.loop-action.invariant.budget, c.requires.budget_fits)
