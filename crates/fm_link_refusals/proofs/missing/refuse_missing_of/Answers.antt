use Rattle.std.proofs.Common.{◌≡◌, subst, ◌++◌, []}
use Rattle.std.specs.List.{flat_map}
use Rattle.std.proofs.lemmas.Result.{err_from_is_err_and}
use Rattle.fm_world.specs.Causes.{missing_at, missing_in}
use Rattle.fm_world.specs.Uses.{uses_in_order}
use Rattle.fm_link_refusals.proofs.FirstRefusals.{first-append, first_after, refuses_after}
use Rattle.fm_link_refusals.specs.Refused.{refusal_of, IsFirst, Refuses}
use Rattle.fm_link_refusals.specs.inner.GivenClasses.{class_in}
use Rattle.fm_link_refusals.proofs.missing.refuse_missing_of.Goals as goal

pub returns-in_err-refuse_missing_uses : goal.returns-in_err-refuse_missing_uses
returns-in_err-refuse_missing_uses c = λ classes n.
    let class = class_in c.args.file.now in
    let p = err_from_is_err_and c.from_residual.result c.from_residual.ensures.1 in
    rw (p.1, p.2)
    (first-append (flat_map (missing_at classes class) (uses_in_order class))
    (flat_map (missing_in classes class) class.fields ++ flat_map (missing_in classes class) class.methods)
    (refusal_of c.in_err-refuse_missing_uses.field-0.0) (c.in_err-refuse_missing_uses.ensures classes n))

pub returns-in_err-refuse_missing_members : goal.returns-in_err-refuse_missing_members
returns-in_err-refuse_missing_members c = λ classes n.
    let class = class_in c.args.file.now in
    let p = err_from_is_err_and c.from_residual-in_err-refuse_missing_members.result c.from_residual-in_err-refuse_missing_members.ensures.1 in
    rw (p.1, p.2)
    (first_after (flat_map (missing_at classes class) (uses_in_order class))
    (flat_map (missing_in classes class) class.fields ++ flat_map (missing_in classes class) class.methods)
    (refusal_of c.in_err-refuse_missing_members.field-0.0) (c.in_ok-refuse_missing_uses.ensures classes n)
    (first-append (flat_map (missing_in classes class) class.fields) (flat_map (missing_in classes class) class.methods)
    (refusal_of c.in_err-refuse_missing_members.field-0.0)
    (subst (λ ms. IsFirst (flat_map (missing_in classes class) ms) (refusal_of c.in_err-refuse_missing_members.field-0.0)) c.as_slice.ensures
    (c.in_err-refuse_missing_members.ensures classes n))))

pub returns : goal.returns
returns c = λ classes n.
    let class = class_in c.args.file.now in
    let r = c.refuse_missing_members-2.result in
    let fields = flat_map (missing_in classes class) class.fields in
    let methods = flat_map (missing_in classes class) class.methods in
    refuses_after (flat_map (missing_at classes class) (uses_in_order class)) (fields ++ methods) r (c.in_ok-refuse_missing_uses.ensures classes n)
    (refuses_after fields methods r (subst (λ ms. flat_map (missing_in classes class) ms ≡ []) c.as_slice.ensures
    (c.in_ok-refuse_missing_members.ensures classes n))
    (subst (λ ms. Refuses (flat_map (missing_in classes class) ms) r) c.as_slice-2.ensures (c.refuse_missing_members-2.ensures classes n)))
