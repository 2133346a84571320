use Rattle.std.proofs.Common.{refl}
use Rattle.fm_fast.proofs.FlowSteps.{gave}
use Rattle.fm_fast.proofs.constants.null.Goals as goal
use Rattle.fm_frames.specs.Effects.{Plain}
use Rattle.fm_frames.specs.States.{null}

pub returns-clause-did : goal.returns-clause-did
returns-clause-did c told p choose x =
    gave p choose x c.args.frames.now c.push.new.frames 0 _ (Plain null) c.requires.fits (c.push.ensures.did told) refl
