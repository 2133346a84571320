use Rattle.std.proofs.Common.{◌∙◌}
use Rattle.std.specs.List.{flat_map}
use Rattle.std.proofs.lemmas.Result.{err_from_is_err_and}
use Rattle.fm_world.specs.Causes.{missing_at}
use Rattle.fm_world.specs.Uses.{uses_in_order}
use Rattle.fm_link_refusals.proofs.UsedIndices.{used_all, used_end, used_first, used_none}
use Rattle.fm_link_refusals.specs.Refused.{refusal_of}
use Rattle.fm_link_refusals.specs.inner.GivenClasses.{class_in}
use Rattle.fm_link_refusals.proofs.missing.refuse_missing_uses.Goals as goal

pub loop-place-init : goal.loop-place-init
loop-place-init c = λ classes n. used_all (missing_at classes (class_in c.args.file.now)) (class_in c.args.file.now)

pub returns-in_err-refuse_missing_use : goal.returns-in_err-refuse_missing_use
returns-in_err-refuse_missing_use c = λ classes n.
    let class = class_in c.args.file.now in
    let p = err_from_is_err_and c.from_residual-in_err-refuse_missing_use.result c.from_residual-in_err-refuse_missing_use.ensures.1 in
    rw (p.1, p.2)
    (used_first (missing_at classes class) class c.as_slice-marks.result.now c.loop-place.place
    (flat_map (missing_at classes class) (uses_in_order class))
    (refusal_of c.in_err-refuse_missing_use.field-0.0) (c.as_slice-marks.ensures.value ∙ c.in_ok-used.ensures) c.loop-place-test.true
    (c.in_err-refuse_missing_use.ensures classes n) (c.loop-place.invariant classes n))

pub loop-place-preserved : goal.loop-place-preserved
loop-place-preserved c = λ classes n.
    let class = class_in c.args.file.now in
    used_none (missing_at classes class) class c.as_slice-marks.result.now c.loop-place.place
    (flat_map (missing_at classes class) (uses_in_order class))
    (c.as_slice-marks.ensures.value ∙ c.in_ok-used.ensures) c.loop-place-test.true (c.in_ok-refuse_missing_use.ensures classes n)
    (c.loop-place.invariant classes n)

pub returns : goal.returns
returns c = λ classes n.
    let class = class_in c.args.file.now in
    used_end (missing_at classes class) class c.as_slice-marks.result.now c.loop-place.place
    (flat_map (missing_at classes class) (uses_in_order class))
    (c.as_slice-marks.ensures.value ∙ c.in_ok-used.ensures) c.loop-place-test.false (c.loop-place.invariant classes n)
