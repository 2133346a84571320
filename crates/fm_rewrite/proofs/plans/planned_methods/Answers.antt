use Rattle.std.proofs.Common.{sym, subst}
use Rattle.std.proofs.lemmas.Result.{IfOk-weaker}
use Rattle.fm_rewrite.proofs.ProgramPlansLemmas.{are_planned}
use Rattle.fm_rewrite.specs.Plans.{ArePlanned, ArePlannedBy}
use Rattle.fm_summ.specs.Exact.{AreShapesOf}
use Rattle.fm_rewrite.proofs.plans.planned_methods.Goals as goal

pub planned_by-requires-clause-summaries : goal.planned_by-requires-clause-summaries
planned_by-requires-clause-summaries c =
    let shapes = c.in_ok-shapes.ensures in
    let exact = c.in_ok-summaries.ensures shapes.typings
    (subst (AreShapesOf c.args.program.now shapes.typings) (sym c.as_slice.ensures.value) shapes.are) in
    exact.summaries

pub returns : goal.returns
returns c =
    let shapes = c.in_ok-shapes.ensures in
    let exact = c.in_ok-summaries.ensures shapes.typings
    (subst (AreShapesOf c.args.program.now shapes.typings) (sym c.as_slice.ensures.value) shapes.are) in
    IfOk-weaker c.planned_by.result (λ planned. ArePlannedBy c.args.program.now c.in_ok-summaries.summaries c.args.chains planned.items)
    (λ planned. ArePlanned c.args.program.now c.args.chains planned.items)
    (λ planned by. are_planned c.args.program.now c.in_ok-summaries.summaries c.args.chains planned.items c.requires.analysable by shapes.typings shapes.least exact)
    c.planned_by.ensures
