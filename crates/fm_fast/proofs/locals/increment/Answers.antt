use Rattle.std.proofs.Common.{◌≡◌, ap, ◌∙◌, rules}
use Rattle.fm_fast.proofs.FlowSteps.{local-on, stored}
use Rattle.fm_fast.proofs.locals.increment.Goals as goal
use Rattle.fm_frames.specs.Acts.{sum_of}
use Rattle.fm_frames.specs.Effects.{LocalPlus}
use Rattle.fm_frames.specs.declared.values.Value.TheVariants as value

pub returns-clause-did : goal.returns-clause-did
returns-clause-did c told p choose x =
    let n = c.local_int-n.result in
    let sum : sum_of (value.Int n) c.args.by ≡ value.Int c.int_sum.result = search rules in
    stored p choose x c.args.frames.now c.put_local.new.frames 0 c.args.place _ (LocalPlus c.args.place c.args.by) c.requires.fits c.put_local.ensures
    (ap (λ v. sum_of v c.args.by) (local-on x c.args.frames.now c.args.place _ c.local_int-n.ensures) ∙ sum ∙ search rules)
