use Rattle.std.proofs.Common.{◌≡◌, refl, sym, ◌∙◌, ap, true, false, get_or, Some, slice_get}
use Rattle.fm_link_names.specs.inner.Numbering.{texts_in}
use Rattle.fm_world.specs.Causes.{NotImplemented, method_text}
use Rattle.fm_link_refusals.proofs.CallsOfAbstracts.{marked_call, named_call, unmarked_call}
use Rattle.fm_link_refusals.proofs.MissingNames.{refusal_is}
use Rattle.fm_link_refusals.proofs.WantedMembers.{member_at_index}
use Rattle.fm_link_refusals.specs.inner.Abstracts.{calls_abstract_at}
use Rattle.fm_link_refusals.specs.inner.GivenClasses.{class_in}
use Rattle.fm_link_refusals.proofs.abstract_calls.refuse_special.Goals as goal

pub returns-then-not-is_marked : goal.returns-then-not-is_marked
returns-then-not-is_marked c = λ classes class linked are.
    let cls = class_in c.args.file.now in
    let marks = c.args.marks.now in
    unmarked_call classes cls class c.args.index
    (sym (marked_call classes cls class marks c.args.index are) ∙ ap (λ i. get_or marks i false) (sym c.from.ensures) ∙ sym c.is_marked.ensures
    ∙ c.if-not-is_marked.true)

pub returns : goal.returns
returns c = λ classes class linked are.
    let cls = class_in c.args.file.now in
    let marks = c.args.marks.now in
    let k = member_at_index (texts_in c.args.linking.texts.now) c.args.file.now c.requires c.args.index c.args.index c.in-Some.member c.member.result
    refl c.member.ensures c.in-Some.is in
    let marked : calls_abstract_at classes cls class c.args.index ≡ true =
    sym (marked_call classes cls class marks c.args.index are) ∙ ap (λ i. get_or marks i false) (sym c.from.ensures) ∙ sym c.is_marked.ensures
    ∙ c.if-not-is_marked.false in
    ap (λ xs. slice_get xs 0) (named_call classes cls class c.args.index k.0 k.1 marked)
    ∙ ap (λ r. Some r) (refusal_is NotImplemented cls (method_text k.0) c.in_ok-bad_method.field-0 (c.in_ok-bad_method.ensures k.0 k.2).0
    (c.in_ok-bad_method.ensures k.0 k.2).1)
