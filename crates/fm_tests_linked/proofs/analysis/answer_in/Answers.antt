use Rattle.std.proofs.Common.{◌<◌, length, sym, subst, arith}
use Rattle.fm_summ.proofs.StartLemmas.{calls_in}
use Rattle.fm_summ.specs.Exact.{AreShapesOf}
use Rattle.fm_tests_linked.proofs.analysis.answer_in.Goals as goal

pub linked-requires : goal.linked-requires
linked-requires c =
    let shapes = c.in_ok-shapes.ensures in
    let exact = c.in_ok-summaries.ensures shapes.typings
    (subst (AreShapesOf c.args.program.now shapes.typings) (sym c.as_slice.ensures.value) shapes.are) in
    omega (arith, c.in-Some.ensures, exact.summaries.one_each)

pub are_one_class-requires-clause-summaries : goal.are_one_class-requires-clause-summaries
are_one_class-requires-clause-summaries c =
    let shapes = c.in_ok-shapes.ensures in
    let exact = c.in_ok-summaries.ensures shapes.typings
    (subst (AreShapesOf c.args.program.now shapes.typings) (sym c.as_slice.ensures.value) shapes.are) in
    exact.summaries

pub leads_to-requires : goal.leads_to-requires
leads_to-requires c = λ made found.
    let shapes = c.in_ok-shapes.ensures in
    let inside : c.in-Some.method.0 < length c.in_ok-shapes.shapes.items = omega (arith, c.in-Some.ensures, shapes.are.one_each) in
    calls_in c.args.program.now shapes.typings c.in_ok-shapes.shapes.items c.requires.uses shapes.are c.index.result.now made
    (c.in-Some.method.0, inside, sym c.index.ensures) found
