use Rattle.std.proofs.Common.{arith}
use Rattle.std.proofs.lemmas.Result.{err_from_is_err_and}
use Rattle.fm_link_names.specs.inner.Numbering.{texts_in}
use Rattle.fm_link_refusals.proofs.LeftOver.{number_end, number_first, number_none}
use Rattle.fm_link_refusals.proofs.Sections.{section_all, section_within}
use Rattle.fm_link_refusals.specs.Refused.{refusal_of}
use Rattle.fm_link_refusals.specs.inner.Abstracts.{left_over_at, left_over_by, left_over_of}
use Rattle.fm_link_refusals.specs.inner.GivenClasses.{class_in}
use Rattle.fm_link_refusals.proofs.not_implemented.refuse_left_over_of.Goals as goal

pub loop-method-init : goal.loop-method-init
loop-method-init c = λ classes linked within.
    section_all (texts_in c.args.linking.texts.now) classes c.args.linking.methods.now.members linked.methods.rows
    (left_over_by classes (class_in c.args.file.now) c.args.class) c.args.above c.of_class-start.result c.of_class-start.ensures

pub returns-in_err-refuse_left_over_at : goal.returns-in_err-refuse_left_over_at
returns-in_err-refuse_left_over_at c = λ classes linked within.
    let class = class_in c.args.file.now in
    let texts = texts_in c.args.linking.texts.now in
    let members = c.args.linking.methods.now.members in
    let all = left_over_of classes class c.args.class c.args.above in
    let each = left_over_at classes class c.args.class in
    let section = c.of_class-start.result in
    let bound = section_within texts classes members linked.methods.rows c.args.above section c.of_class-start.ensures in
    let p = err_from_is_err_and c.from_residual.result c.from_residual.ensures.1 in
    rw (p.1, p.2)
    (number_first each section.1 c.loop-method.method all (refusal_of c.in_err-refuse_left_over_at.field-0.0) (omega arith)
    (c.in_err-refuse_left_over_at.ensures classes linked within (omega (arith, bound))) (c.loop-method.invariant classes linked within))

pub loop-method-preserved : goal.loop-method-preserved
loop-method-preserved c = λ classes linked within.
    let class = class_in c.args.file.now in
    let texts = texts_in c.args.linking.texts.now in
    let members = c.args.linking.methods.now.members in
    let all = left_over_of classes class c.args.class c.args.above in
    let each = left_over_at classes class c.args.class in
    let section = c.of_class-start.result in
    let bound = section_within texts classes members linked.methods.rows c.args.above section c.of_class-start.ensures in
    number_none each section.1 c.loop-method.method all (omega arith)
    (c.in_ok-refuse_left_over_at.ensures classes linked within (omega (arith, bound)))
    (c.loop-method.invariant classes linked within)

pub returns : goal.returns
returns c = λ classes linked within.
    let class = class_in c.args.file.now in
    let texts = texts_in c.args.linking.texts.now in
    let members = c.args.linking.methods.now.members in
    let all = left_over_of classes class c.args.class c.args.above in
    let each = left_over_at classes class c.args.class in
    let section = c.of_class-start.result in
    let bound = section_within texts classes members linked.methods.rows c.args.above section c.of_class-start.ensures in
    number_end each section.1 c.loop-method.method all (omega arith) (c.loop-method.invariant classes linked within)
