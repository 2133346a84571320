use Rattle.std.proofs.Common.{◌≡◌, ◌∙◌, sym, ap, subst, []}
use Rattle.std.specs.List.{flat_map}
use Rattle.std.proofs.lemmas.Result.{err_from_is_err_and}
use Rattle.fm_code.specs.declared.class_file.Member.{Member}
use Rattle.fm_world.specs.Causes.{abstract_call}
use Rattle.fm_world.specs.Uses.{class_items, items_of}
use Rattle.fm_link_refusals.proofs.FirstRefusals.{refuses_end, refuses_first, refuses_none}
use Rattle.fm_link_refusals.proofs.LeftOver.{flat_map-twice}
use Rattle.fm_link_refusals.specs.Refused.{refusal_of, IsFirst}
use Rattle.fm_link_refusals.specs.inner.GivenClasses.{class_in}
use Rattle.fm_link_refusals.proofs.abstract_calls.refuse_calls_in.Goals as goal

pub loop-method-init : goal.loop-method-init
loop-method-init c = λ classes class linked are.
    let each = (λ (m : Member). flat_map (abstract_call classes (class_in c.args.file.now) class) (items_of m)) in
    flat_map-twice (abstract_call classes (class_in c.args.file.now) class) items_of (class_in c.args.file.now).methods
    ∙ ap (flat_map each) (sym c.as_slice-methods.ensures)

pub returns-in_err-refuse_calls_of : goal.returns-in_err-refuse_calls_of
returns-in_err-refuse_calls_of c = λ classes class linked are.
    let each = (λ (m : Member). flat_map (abstract_call classes (class_in c.args.file.now) class) (items_of m)) in
    let p = err_from_is_err_and c.from_residual.result c.from_residual.ensures.1 in
    rw (p.1, p.2)
    (refuses_first each c.as_slice-methods.result.now c.loop-method.method-index c.method-item.result
    (flat_map (abstract_call classes (class_in c.args.file.now) class) (class_items (class_in c.args.file.now)))
    (refusal_of c.in_err-refuse_calls_of.field-0.0) c.loop-method-test.true c.method-item.is
    (subst (λ items. IsFirst (flat_map (abstract_call classes (class_in c.args.file.now) class) items)
    (refusal_of c.in_err-refuse_calls_of.field-0.0)) c.items_of.ensures
    (c.in_err-refuse_calls_of.ensures classes class linked are)) (c.loop-method.invariant classes class linked are))

pub loop-method-preserved : goal.loop-method-preserved
loop-method-preserved c = λ classes class linked are.
    let each = (λ (m : Member). flat_map (abstract_call classes (class_in c.args.file.now) class) (items_of m)) in
    refuses_none each c.as_slice-methods.result.now c.loop-method.method-index c.method-item.result
    (flat_map (abstract_call classes (class_in c.args.file.now) class) (class_items (class_in c.args.file.now))) c.loop-method-test.true
    c.method-item.is
    (subst (λ items. flat_map (abstract_call classes (class_in c.args.file.now) class) items ≡ []) c.items_of.ensures
    (c.in_ok-refuse_calls_of.ensures classes class linked are)) (c.loop-method.invariant classes class linked are)

pub returns : goal.returns
returns c = λ classes class linked are.
    let each = (λ (m : Member). flat_map (abstract_call classes (class_in c.args.file.now) class) (items_of m)) in
    refuses_end each c.as_slice-methods.result.now c.loop-method.method-index
    (flat_map (abstract_call classes (class_in c.args.file.now) class) (class_items (class_in c.args.file.now))) c.loop-method-test.false
    (c.loop-method.invariant classes class linked are)
