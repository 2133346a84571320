use Rattle.std.specs.List.{flat_map}
use Rattle.std.proofs.lemmas.Result.{err_from_is_err_and}
use Rattle.fm_world.specs.Causes.{missing_in}
use Rattle.fm_link_refusals.proofs.FirstRefusals.{refuses_end, refuses_first, refuses_none}
use Rattle.fm_link_refusals.specs.Refused.{refusal_of}
use Rattle.fm_link_refusals.specs.inner.GivenClasses.{class_in}
use Rattle.fm_link_refusals.proofs.missing.refuse_missing_members.Goals as goal

pub returns-in_err-refuse_missing_in : goal.returns-in_err-refuse_missing_in
returns-in_err-refuse_missing_in c = λ classes n.
    let class = class_in c.args.file.now in
    let p = err_from_is_err_and c.from_residual.result c.from_residual.ensures.1 in
    rw (p.1, p.2)
    (refuses_first (missing_in classes class) c.args.members.now c.loop-member.member-index c.member-item.result
    (flat_map (missing_in classes class) c.args.members.now)
    (refusal_of c.in_err-refuse_missing_in.field-0.0) c.loop-member-test.true c.member-item.is (c.in_err-refuse_missing_in.ensures classes n)
    (c.loop-member.invariant classes n))

pub loop-member-preserved : goal.loop-member-preserved
loop-member-preserved c = λ classes n.
    let class = class_in c.args.file.now in
    refuses_none (missing_in classes class) c.args.members.now c.loop-member.member-index c.member-item.result
    (flat_map (missing_in classes class) c.args.members.now)
    c.loop-member-test.true c.member-item.is (c.in_ok-refuse_missing_in.ensures classes n) (c.loop-member.invariant classes n)

pub returns : goal.returns
returns c = λ classes n.
    let class = class_in c.args.file.now in
    refuses_end (missing_in classes class) c.args.members.now c.loop-member.member-index
    (flat_map (missing_in classes class) c.args.members.now) c.loop-member-test.false
    (c.loop-member.invariant classes n)
