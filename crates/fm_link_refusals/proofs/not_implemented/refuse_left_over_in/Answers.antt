use Rattle.std.specs.List.{flat_map}
use Rattle.std.proofs.lemmas.Result.{err_from_is_err_and}
use Rattle.fm_link_refusals.proofs.FirstRefusals.{refuses_end, refuses_first, refuses_none}
use Rattle.fm_link_refusals.proofs.LeftOver.{get_or_self}
use Rattle.fm_link_refusals.specs.Refused.{refusal_of}
use Rattle.fm_link_refusals.specs.inner.Abstracts.{left_over_of}
use Rattle.fm_link_refusals.specs.inner.GivenClasses.{class_in}
use Rattle.fm_link_refusals.proofs.not_implemented.refuse_left_over_in.Goals as goal

pub returns-in_err-refuse_left_over_of : goal.returns-in_err-refuse_left_over_of
returns-in_err-refuse_left_over_of c = λ classes linked within.
    let each = left_over_of classes (class_in c.args.file.now) c.args.class in
    let p = err_from_is_err_and c.from_residual.result c.from_residual.ensures.1 in
    rw (p.1, p.2)
    (refuses_first each c.args.declaring.now c.loop-above.above-index _ (flat_map each c.args.declaring.now)
    (refusal_of c.in_err-refuse_left_over_of.field-0.0)
    c.loop-above-test.true (get_or_self c.args.declaring.now c.loop-above.above-index 0 c.loop-above-test.true)
    (c.in_err-refuse_left_over_of.ensures classes linked within) (c.loop-above.invariant classes linked within))

pub loop-above-preserved : goal.loop-above-preserved
loop-above-preserved c = λ classes linked within.
    let each = left_over_of classes (class_in c.args.file.now) c.args.class in
    refuses_none each c.args.declaring.now c.loop-above.above-index _ (flat_map each c.args.declaring.now) c.loop-above-test.true
    (get_or_self c.args.declaring.now c.loop-above.above-index 0 c.loop-above-test.true) (c.in_ok-refuse_left_over_of.ensures classes linked within)
    (c.loop-above.invariant classes linked within)

pub returns : goal.returns
returns c = λ classes linked within.
    let each = left_over_of classes (class_in c.args.file.now) c.args.class in
    refuses_end each c.args.declaring.now c.loop-above.above-index (flat_map each c.args.declaring.now) c.loop-above-test.false
    (c.loop-above.invariant classes linked within)
