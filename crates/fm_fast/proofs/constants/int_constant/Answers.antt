use Rattle.std.proofs.Common.{rules}
use Rattle.fm_fast.proofs.FlowSteps.{gave}
use Rattle.fm_fast.proofs.constants.int_constant.Goals as goal
use Rattle.fm_frames.specs.Effects.{Plain}
use Rattle.fm_frames.specs.declared.values.Value.TheVariants as value

pub returns-clause-did : goal.returns-clause-did
returns-clause-did c told p choose x =
    gave p choose x c.args.frames.now c.push.new.frames 0 _ (Plain (value.Int c.args.n)) c.requires.fits (c.push.ensures.did told) (search rules)
