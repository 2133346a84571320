use Rattle.std.proofs.Common.{◌≡◌, Bool, false, IfOk, replicate, sym, subst, if◌then◌else◌}
use Rattle.fm_chain.specs.Planned.{chain_flags}
use Rattle.fm_chain.specs.declared.plans.ChainPlan.{ChainPlan}
use Rattle.fm_rewrite.proofs.PlannedLemmas.{plan_made}
use Rattle.fm_rewrite.proofs.plans.chain_plan.Goals as goal

pub returns-then-chains : goal.returns-then-chains
returns-then-chains c =
    let code = c.args.code.now in
    let plan = c.args.plan in
    let made = c.with_chains.result in
    plan_made code c.args.chains plan made c.with_chains.ensures.plan
    (subst (λ (b : Bool). IfOk made (λ (held : ChainPlan). held.looped ≡ (if b then chain_flags code plan else replicate plan.holders false)))
    (sym c.if-chains.true) c.with_chains.ensures.flags)

pub returns-else-chains : goal.returns-else-chains
returns-else-chains c =
    let code = c.args.code.now in
    let plan = c.args.plan in
    let made = c.plain.result in
    plan_made code c.args.chains plan made c.plain.ensures.plan
    (subst (λ (b : Bool). IfOk made (λ (held : ChainPlan). held.looped ≡ (if b then chain_flags code plan else replicate plan.holders false)))
    (sym c.if-chains.false) c.plain.ensures.flags)
