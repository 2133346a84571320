use Rattle.std.proofs.Common.{rules}
use Rattle.fm_fast.proofs.FlowSteps.{gave-wide}
use Rattle.fm_fast.proofs.constants.long_constant.Goals as goal
use Rattle.fm_frames.specs.Effects.{Plain}
use Rattle.fm_frames.specs.declared.values.Value.TheVariants as value

pub returns-clause-did : goal.returns-clause-did
returns-clause-did c told p choose x =
    gave-wide p choose x c.args.frames.now c.give_wide.new.frames 0 _ (Plain (value.Long c.args.n)) c.requires.fits (c.give_wide.ensures.did told) (search rules)
