use Rattle.std.proofs.Common.{refl, ◌∙◌, false}
use Rattle.std.proofs.lemmas.Result.{err_from_is_err_and}
use Rattle.fm_world.specs.Causes.{bad_parent_at, bad_parents}
use Rattle.fm_world.specs.Chains.{is_among}
use Rattle.fm_link_refusals.proofs.ParentNames.{parents_all}
use Rattle.fm_link_refusals.proofs.UsedIndices.{index_end, index_first, index_none, table_at, table_long}
use Rattle.fm_link_refusals.specs.Refused.{refusal_of}
use Rattle.fm_link_refusals.specs.inner.GivenClasses.{class_in}
use Rattle.std.proofs.Common.{arith, ℕ}
use Rattle.fm_link_refusals.proofs.parents.refuse_parents_of.Goals as goal

pub loop-place-init : goal.loop-place-init
loop-place-init c = λ classes texts judges numbered. parents_all classes (class_in c.args.file.now)

pub returns-in_err-refuse_parent_at : goal.returns-in_err-refuse_parent_at
returns-in_err-refuse_parent_at c = λ classes texts judges numbered.
    let class = class_in c.args.file.now in
    let marks = c.as_slice-marks.result.now in
    let test = λ (index : ℕ). is_among index class.interfaces in
    let are = c.as_slice-marks.ensures.value ∙ c.in_ok-listed.ensures in
    let long = table_long test class marks are in
    let p = err_from_is_err_and c.from_residual-in_err-refuse_parent_at.result c.from_residual-in_err-refuse_parent_at.ensures.1 in
    rw (p.1, p.2)
    (index_first (bad_parent_at classes class) class c.loop-place.place (bad_parents classes class) (refusal_of c.in_err-refuse_parent_at.field-0.0)
    (omega (arith, long))
    (c.in_err-refuse_parent_at.ensures classes texts judges numbered
    (table_at test class marks c.loop-place.place _ false are c.loop-place-test.true refl))
    (c.loop-place.invariant classes texts judges numbered))

pub loop-place-preserved : goal.loop-place-preserved
loop-place-preserved c = λ classes texts judges numbered.
    let class = class_in c.args.file.now in
    let marks = c.as_slice-marks.result.now in
    let test = λ (index : ℕ). is_among index class.interfaces in
    let are = c.as_slice-marks.ensures.value ∙ c.in_ok-listed.ensures in
    let long = table_long test class marks are in
    index_none (bad_parent_at classes class) class c.loop-place.place (bad_parents classes class) (omega (arith, long))
    (c.in_ok-refuse_parent_at.ensures classes texts judges numbered
    (table_at test class marks c.loop-place.place _ false are c.loop-place-test.true refl))
    (c.loop-place.invariant classes texts judges numbered)

pub returns : goal.returns
returns c = λ classes texts judges numbered.
    let class = class_in c.args.file.now in
    let marks = c.as_slice-marks.result.now in
    let test = λ (index : ℕ). is_among index class.interfaces in
    let are = c.as_slice-marks.ensures.value ∙ c.in_ok-listed.ensures in
    let long = table_long test class marks are in
    index_end (bad_parent_at classes class) class c.loop-place.place (bad_parents classes class) (omega (arith, long))
    (c.loop-place.invariant classes texts judges numbered)
