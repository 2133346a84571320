use Rattle.std.proofs.Common.{arith}
use Rattle.fm_summ_shapes.proofs.ShapesLemmas.{code_facts}
use Rattle.fm_flow.proofs.CodeFacts.{items_counted}
use Rattle.fm_layout.proofs.BoundsLemmas.{old_short}
use Rattle.fm_rewrite.proofs.PlannedLemmas.{full_fits, full_room, full_sites}
use Rattle.fm_rewrite.proofs.plans.planned_code.Goals as goal

pub of-requires-2-clause-room : goal.of-requires-2-clause-room
of-requires-2-clause-room c =
    full_room c.args.program.now c.args.summaries.now c.args.method.0 c.args.code.now c.in_ok-plan.plan c.requires.analysable c.requires.old
    c.requires.code c.in_ok-plan.ensures c.args.chains c.in_ok-held.held c.in_ok-held.ensures

pub of-requires-2-clause-short : goal.of-requires-2-clause-short
of-requires-2-clause-short c = old_short c.args.code.now.items (c.requires.old c.args.method.0 c.args.code.now c.requires.code)

pub of-requires-2-clause-few : goal.of-requires-2-clause-few
of-requires-2-clause-few c =
    let own = code_facts c.args.program.now c.args.method.0 c.args.code.now c.requires.analysable c.requires.code in
    let few = (items_counted c.args.code.now own.0.spelled).1 in
    omega (arith, few)

pub of-requires-2-clause-fits : goal.of-requires-2-clause-fits
of-requires-2-clause-fits c =
    full_fits c.args.program.now c.args.summaries.now c.args.method.0 c.args.code.now c.in_ok-plan.plan c.requires.analysable c.requires.old
    c.requires.code c.in_ok-plan.ensures c.args.chains c.in_ok-held.held c.in_ok-held.ensures

pub chain_plan-requires-clause-sites : goal.chain_plan-requires-clause-sites
chain_plan-requires-clause-sites c =
    full_sites c.args.program.now c.args.summaries.now c.args.method.0 c.args.code.now c.in_ok-plan.plan c.requires.analysable c.requires.old
    c.requires.code c.in_ok-plan.ensures
