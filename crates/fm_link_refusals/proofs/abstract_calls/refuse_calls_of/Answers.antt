use Rattle.std.specs.List.{flat_map}
use Rattle.std.proofs.lemmas.Result.{err_from_is_err_and}
use Rattle.fm_world.specs.Causes.{abstract_call}
use Rattle.fm_link_refusals.proofs.FirstRefusals.{refuses_end, refuses_first, refuses_none}
use Rattle.fm_link_refusals.specs.Refused.{refusal_of}
use Rattle.fm_link_refusals.specs.inner.GivenClasses.{class_in}
use Rattle.fm_link_refusals.proofs.abstract_calls.refuse_calls_of.Goals as goal

pub returns-in_err-refuse_call : goal.returns-in_err-refuse_call
returns-in_err-refuse_call c = λ classes class linked are.
    let each = abstract_call classes (class_in c.args.file.now) class in
    let p = err_from_is_err_and c.from_residual.result c.from_residual.ensures.1 in
    rw (p.1, p.2)
    (refuses_first each c.args.items.now c.loop-item.item-index c.item-item.result (flat_map each c.args.items.now)
    (refusal_of c.in_err-refuse_call.field-0.0) c.loop-item-test.true c.item-item.is
    (c.in_err-refuse_call.ensures classes class linked are) (c.loop-item.invariant classes class linked are))

pub loop-item-preserved : goal.loop-item-preserved
loop-item-preserved c = λ classes class linked are.
    let each = abstract_call classes (class_in c.args.file.now) class in
    refuses_none each c.args.items.now c.loop-item.item-index c.item-item.result
    (flat_map each c.args.items.now) c.loop-item-test.true c.item-item.is (c.in_ok-refuse_call.ensures classes class linked are)
    (c.loop-item.invariant classes class linked are)

pub returns : goal.returns
returns c = λ classes class linked are.
    let each = abstract_call classes (class_in c.args.file.now) class in
    refuses_end each c.args.items.now c.loop-item.item-index (flat_map each c.args.items.now) c.loop-item-test.false
    (c.loop-item.invariant classes class linked are)
