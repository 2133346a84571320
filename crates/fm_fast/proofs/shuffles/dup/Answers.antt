use Rattle.fm_fast.proofs.FlowSteps.{doubled}
use Rattle.fm_fast.proofs.shuffles.dup.Goals as goal
use Rattle.fm_frames.specs.NumberRows.{move_effect}

pub returns-clause-did : goal.returns-clause-did
unfolding move_effect
returns-clause-did c told p choose x =
    doubled p choose x c.args.frames.now c.push.new.frames c.word_there-value.result c.requires.fits (c.push.ensures.did told) c.word_there-value.ensures
