use Rattle.std.proofs.Common.{◌∙◌, ap, sym}
use Rattle.fm_base.specs.Rows.{has}
use Rattle.fm_conn.proofs.StepLemmas.{any_step}
use Rattle.fm_chain.proofs.plans.ChainPlan.has_chain.Goals as goal

pub loop-holder-preserved : goal.loop-holder-preserved
loop-holder-preserved c =
    any_step (λ j. has c.args.self.now.looped j) c.loop-holder.holder c.args.self.now.plan.holders c.loop-holder-test.true (sym (ap (λ k. has c.args.self.now.looped k) c.from.ensures) ∙ sym c.if-get.ensures)
    ∙ c.loop-holder.invariant
