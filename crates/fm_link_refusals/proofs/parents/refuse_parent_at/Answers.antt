use Rattle.std.proofs.Common.{◌≡◌, subst, ◌==◌, cond, []}
use Rattle.std.proofs.lemmas.Result.{err_from_is_err_and}
use Rattle.fm_world.specs.Causes.{bad_interface, bad_superclass}
use Rattle.fm_world.specs.Chains.{is_among}
use Rattle.fm_link_refusals.proofs.FirstRefusals.{first-append, refuses_after}
use Rattle.fm_link_refusals.specs.Refused.{refusal_of, IsFirst, Refuses}
use Rattle.fm_link_refusals.specs.inner.GivenClasses.{class_in}
use Rattle.fm_link_refusals.proofs.parents.refuse_parent_at.Goals as goal

pub returns-in_err-refuse_superclass_at : goal.returns-in_err-refuse_superclass_at
returns-in_err-refuse_superclass_at c = λ classes texts judges numbered listed.
    let class = class_in c.args.file.now in
    let place = c.args.place in
    let first = refusal_of c.in_err-refuse_superclass_at.field-0.0 in
    let p = err_from_is_err_and c.from_residual-in_err-refuse_superclass_at.result c.from_residual-in_err-refuse_superclass_at.ensures.1 in
    rw (p.1, p.2)
    (first-append (cond (place == class.super_class) (bad_superclass classes class) [])
    (cond (is_among place class.interfaces) (bad_interface classes class place) []) first
    (subst (λ i. IsFirst (cond (i == class.super_class) (bad_superclass classes class) []) first) c.in_ok-index.ensures
    (c.in_err-refuse_superclass_at.ensures classes texts judges numbered)))

pub returns : goal.returns
returns c = λ classes texts judges numbered listed.
    let class = class_in c.args.file.now in
    let place = c.args.place in
    let r = c.refuse_interface_at.result in
    refuses_after (cond (place == class.super_class) (bad_superclass classes class) [])
    (cond (is_among place class.interfaces) (bad_interface classes class place) []) r
    (subst (λ i. cond (i == class.super_class) (bad_superclass classes class) [] ≡ []) c.in_ok-index.ensures
    (c.in_ok-refuse_superclass_at.ensures classes texts judges numbered))
    (subst (λ b. Refuses (cond b (bad_interface classes class place) []) r) listed
    (subst (λ i. Refuses (cond c.args.lists_it (bad_interface classes class i) []) r) c.in_ok-index.ensures
    (c.refuse_interface_at.ensures classes texts judges numbered)))
