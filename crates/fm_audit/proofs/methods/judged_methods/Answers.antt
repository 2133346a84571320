use Rattle.std.proofs.Common.{sym, subst}
use Rattle.fm_audit.proofs.MethodsLemmas.{inserted_answers}
use Rattle.fm_summ.specs.Exact.{AreShapesOf}
use Rattle.fm_audit.proofs.methods.judged_methods.Goals as goal

pub all_judged-requires-clause-summaries : goal.all_judged-requires-clause-summaries
all_judged-requires-clause-summaries c =
    let shapes = c.in_ok-shapes.ensures in
    let exact = c.in_ok-summaries.ensures shapes.typings
    (subst (AreShapesOf c.args.program.now shapes.typings) (sym c.as_slice.ensures.value) shapes.are) in
    exact.summaries

pub returns-clause-safe : goal.returns-clause-safe
returns-clause-safe c =
    let shapes = c.in_ok-shapes.ensures in
    let exact = c.in_ok-summaries.ensures shapes.typings
    (subst (AreShapesOf c.args.program.now shapes.typings) (sym c.as_slice.ensures.value) shapes.are) in
    inserted_answers c.args.program.now c.in_ok-summaries.summaries c.args.new.now c.requires shapes.typings shapes.least exact c.all_judged.result c.all_judged.ensures.safe
