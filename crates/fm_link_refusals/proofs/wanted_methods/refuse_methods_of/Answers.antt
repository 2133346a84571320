use Rattle.std.proofs.Common.{refl, ◌∙◌, ℕ, false, arith}
use Rattle.std.proofs.lemmas.Result.{err_from_is_err_and}
use Rattle.fm_link_names.specs.declared.wanted.Wanted.{Wanted}
use Rattle.fm_link_names.specs.inner.Wanting.{wanted_of}
use Rattle.fm_world.specs.Causes.{missing_method_at, missing_methods, static_method_wanted, wanted_at}
use Rattle.fm_link_refusals.proofs.UsedIndices.{index_end, index_first, index_none, table_at, table_long}
use Rattle.fm_link_refusals.proofs.WantedMembers.{methods_all}
use Rattle.fm_link_refusals.specs.Refused.{refusal_of}
use Rattle.fm_link_refusals.specs.inner.GivenClasses.{class_in}
use Rattle.fm_link_refusals.proofs.wanted_methods.refuse_methods_of.Goals as goal

pub loop-place-init : goal.loop-place-init
loop-place-init c = λ classes linked. methods_all classes (class_in c.args.file.now)

pub returns-in_err-refuse_method_at : goal.returns-in_err-refuse_method_at
returns-in_err-refuse_method_at c = λ classes linked.
    let class = class_in c.args.file.now in
    let rows = c.as_slice-rows.result.now in
    let wants = λ (index : ℕ). wanted_of (wanted_at static_method_wanted class index) in
    let nothing : Wanted = record { in_class = false; in_object = false } in
    let are = c.as_slice-rows.ensures.value ∙ c.in_ok-wanted.ensures.methods in
    let long = table_long wants class rows are in
    let p = err_from_is_err_and c.from_residual-in_err-refuse_method_at.result c.from_residual-in_err-refuse_method_at.ensures.1 in
    rw (p.1, p.2)
    (index_first (missing_method_at classes class) class c.loop-place.place (missing_methods classes class)
    (refusal_of c.in_err-refuse_method_at.field-0.0) (omega (arith, long))
    (c.in_err-refuse_method_at.ensures classes linked (table_at wants class rows c.loop-place.place _ nothing are c.loop-place-test.true refl))
    (c.loop-place.invariant classes linked))

pub loop-place-preserved : goal.loop-place-preserved
loop-place-preserved c = λ classes linked.
    let class = class_in c.args.file.now in
    let rows = c.as_slice-rows.result.now in
    let wants = λ (index : ℕ). wanted_of (wanted_at static_method_wanted class index) in
    let nothing : Wanted = record { in_class = false; in_object = false } in
    let are = c.as_slice-rows.ensures.value ∙ c.in_ok-wanted.ensures.methods in
    let long = table_long wants class rows are in
    index_none (missing_method_at classes class) class c.loop-place.place (missing_methods classes class) (omega (arith, long))
    (c.in_ok-refuse_method_at.ensures classes linked (table_at wants class rows c.loop-place.place _ nothing are c.loop-place-test.true refl))
    (c.loop-place.invariant classes linked)

pub returns : goal.returns
returns c = λ classes linked.
    let class = class_in c.args.file.now in
    let rows = c.as_slice-rows.result.now in
    let wants = λ (index : ℕ). wanted_of (wanted_at static_method_wanted class index) in
    let nothing : Wanted = record { in_class = false; in_object = false } in
    let are = c.as_slice-rows.ensures.value ∙ c.in_ok-wanted.ensures.methods in
    let long = table_long wants class rows are in
    index_end (missing_method_at classes class) class c.loop-place.place (missing_methods classes class) (omega (arith, long))
    (c.loop-place.invariant classes linked)
