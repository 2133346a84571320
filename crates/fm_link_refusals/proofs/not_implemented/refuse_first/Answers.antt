use Rattle.std.proofs.Common.{◌≡◌, sym, ◌∙◌, ap, subst, [], length}
use Rattle.std.specs.List.{flat_map}
use Rattle.std.proofs.lemmas.Result.{err_from_is_err_and}
use Rattle.fm_world.specs.Chains.{chain_of, interfaces_of}
use Rattle.fm_link_supers.proofs.ParentTables.{list_in-row}
use Rattle.fm_link_supers.specs.inner.ListTables.{list_in}
use Rattle.fm_link_refusals.proofs.FirstRefusals.{first-append, refuses_after}
use Rattle.fm_link_refusals.proofs.LeftOver.{left_over_parts}
use Rattle.fm_link_refusals.specs.Refused.{refusal_of, IsFirst, Refuses}
use Rattle.fm_link_refusals.specs.inner.Abstracts.{left_over_of}
use Rattle.fm_link_refusals.specs.inner.GivenClasses.{class_in}
use Rattle.fm_link_refusals.proofs.not_implemented.refuse_first.Goals as goal

pub returns-in_err-refuse_left_over_in : goal.returns-in_err-refuse_left_over_in
returns-in_err-refuse_left_over_in c = λ classes linked within concrete proper.
    let class = class_in c.args.file.now in
    let tables = c.args.linking.hierarchy.now in
    let count = length classes in
    let chain = flat_map (left_over_of classes class c.args.class) (chain_of classes c.args.class) in
    let interfaces = flat_map (left_over_of classes class c.args.class) (interfaces_of classes c.args.class) in
    let in_chain = c.chain.ensures ∙ list_in-row (chain_of classes) count c.args.class tables.chains.items linked.hierarchy.chains within in
    let parts = left_over_parts classes class c.args.class concrete proper in
    let first = refusal_of c.in_err-refuse_left_over_in.field-0.0 in
    let p = err_from_is_err_and c.from_residual.result c.from_residual.ensures.1 in
    rw (p.1, p.2)
    (subst (λ rs. IsFirst rs first) (sym parts)
    (first-append chain interfaces first
    (subst (λ xs. IsFirst (flat_map (left_over_of classes class c.args.class) xs) first) in_chain
    (c.in_err-refuse_left_over_in.ensures classes linked within))))

pub returns : goal.returns
returns c = λ classes linked within concrete proper.
    let class = class_in c.args.file.now in
    let tables = c.args.linking.hierarchy.now in
    let count = length classes in
    let chain = flat_map (left_over_of classes class c.args.class) (chain_of classes c.args.class) in
    let interfaces = flat_map (left_over_of classes class c.args.class) (interfaces_of classes c.args.class) in
    let in_chain = c.chain.ensures ∙ list_in-row (chain_of classes) count c.args.class tables.chains.items linked.hierarchy.chains within in
    let parts = left_over_parts classes class c.args.class concrete proper in
    let r = c.refuse_left_over_in-2.result in
    let listed = c.list_at.ensures ∙ ap (λ t. list_in t c.args.class) c.as_slice-interfaces.ensures.value
    ∙ list_in-row (interfaces_of classes) count c.args.class tables.interfaces.items linked.hierarchy.interfaces within in
    subst (λ rs. Refuses rs r) (sym parts)
    (refuses_after chain interfaces r
    (subst (λ xs. flat_map (left_over_of classes class c.args.class) xs ≡ []) in_chain (c.in_ok-refuse_left_over_in.ensures classes linked within))
    (subst (λ xs. Refuses (flat_map (left_over_of classes class c.args.class) xs) r) listed (c.refuse_left_over_in-2.ensures classes linked within)))
