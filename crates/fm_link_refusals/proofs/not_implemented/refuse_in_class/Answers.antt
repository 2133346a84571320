use Rattle.std.proofs.Common.{◌≡◌, sym, ◌∙◌, ap, subst, ◌<◌, [], length}
use Rattle.std.specs.List.{flat_map}
use Rattle.std.proofs.lemmas.Result.{err_from_is_err_and}
use Rattle.fm_world.specs.Causes.{abstract_call, left_over}
use Rattle.fm_world.specs.Chains.{self_of}
use Rattle.fm_world.specs.Uses.{class_items}
use Rattle.fm_link_refusals.proofs.FirstRefusals.{first-append, refuses_after}
use Rattle.fm_link_refusals.specs.Refused.{refusal_of, IsFirst}
use Rattle.fm_link_refusals.specs.inner.GivenClasses.{class_in}
use Rattle.fm_link_refusals.proofs.not_implemented.refuse_in_class.Goals as goal

pub returns-in_err-refuse_left_over : goal.returns-in_err-refuse_left_over
returns-in_err-refuse_left_over c = λ classes linked within there found.
    let class = class_in c.args.file.now in
    let own = c.self_of-own.ensures ∙ ap (λ cs. self_of cs c.args.class) linked.hierarchy.classes_are in
    let first = refusal_of c.in_err-refuse_left_over.field-0.0 in
    let p = err_from_is_err_and c.from_residual.result c.from_residual.ensures.1 in
    rw (p.1, p.2)
    (first-append (left_over classes class (self_of classes c.args.class)) (flat_map (abstract_call classes class c.args.class) (class_items class)) first
    (subst (λ n. IsFirst (left_over classes class n) first) own
    (c.in_err-refuse_left_over.ensures classes linked (subst (λ n. n < length classes) (sym own) there) found)))

pub returns : goal.returns
returns c = λ classes linked within there found.
    let class = class_in c.args.file.now in
    let own = c.self_of-own.ensures ∙ ap (λ cs. self_of cs c.args.class) linked.hierarchy.classes_are in
    refuses_after (left_over classes class (self_of classes c.args.class))
    (flat_map (abstract_call classes class c.args.class) (class_items class)) c.refuse_calls.result
    (subst (λ n. left_over classes class n ≡ []) own
    (c.in_ok-refuse_left_over.ensures classes linked (subst (λ n. n < length classes) (sym own) there) found))
    (c.refuse_calls.ensures classes linked within)
