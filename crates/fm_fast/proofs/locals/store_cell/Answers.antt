use Rattle.fm_fast.proofs.FlowSteps.{stored, word-on}
use Rattle.fm_fast.proofs.locals.store_cell.Goals as goal
use Rattle.fm_frames.specs.Effects.{OfOperand}
use Rattle.fm_frames.specs.NumberRows.{store_effect}

pub returns-clause-did : goal.returns-clause-did
unfolding store_effect
returns-clause-did c told p choose x =
    stored p choose x c.args.frames.now c.put_local.new.frames 1 c.args.place _ (OfOperand 0) c.requires.fits c.put_local.ensures
    (word-on x c.args.frames.now 0 _ c.cell_there-cell.ensures)
