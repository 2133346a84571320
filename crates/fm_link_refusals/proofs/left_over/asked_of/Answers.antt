use Rattle.std.proofs.Common.{◌≡◌, ◌∙◌, sym, ap, cond, get_or, length, nat_eq, refl, subst, true}
use Rattle.std.proofs.lemmas.Bool.{eq-eqb}
use Rattle.std.proofs.lemmas.List.{take_all}
use Rattle.std.proofs.lemmas.List.Folds.{list_any_at}
use Rattle.fm_link_refusals.proofs.Asked.{asked-more, asked-none}
use Rattle.fm_link_refusals.specs.inner.LeftOver.{has_objects, marked_up, AreAskedOf}
use Rattle.fm_link_supers.proofs.ParentTables.{list_in-row}
use Rattle.fm_world.specs.Chains.{chain_of, is_among}
use Rattle.fm_link_refusals.proofs.left_over.asked_of.Goals as goal

pub loop-class-init : goal.loop-class-init
loop-class-init c = λ classes linked.
    asked-none classes c.as_slice-class-items.result.now c.in_ok-asked.asked.items (length c.args.linking.hierarchy.now.classes.now)
    (c.in_ok-asked.ensures.items_if_clones_equal (λ y e. e)) (ap length linked.hierarchy.classes_are)

pub loop-class-preserved : goal.loop-class-preserved
loop-class-preserved c = λ classes linked.
    let items = c.as_slice-class-items.result.now in
    let i = c.loop-class.class-index in
    let class = get_or items i 0 in
    let h = c.args.linking.hierarchy.now in
    let old = c.loop-class.asked.items in
    let there : is_among class items ≡ true = list_any_at (nat_eq class) items i 0 c.loop-class-test.true (eq-eqb class class refl) in
    let within = linked.hierarchy.order.only class (ap (is_among class) (sym c.as_slice-class-items.ensures.value) ∙ there) in
    let chain = c.chain.ensures ∙ list_in-row (chain_of classes) (length classes) class h.chains.items linked.hierarchy.chains within in
    let objects = c.has_objects-has_own.ensures ∙ ap (λ cs. has_objects cs class) linked.hierarchy.classes_are in
    asked-more classes linked.hierarchy.linear items i old c.mark_if.new.marks.items c.loop-class-test.true within
    (c.mark_if.ensures ∙ (λ k. cond (objects k) (marked_up old (chain k)) old)) (c.loop-class.invariant classes linked)

pub returns : goal.returns
returns c = λ classes linked.
    subst (λ xs. AreAskedOf classes xs c.loop-class.asked.items)
    (take_all c.loop-class.class-index c.as_slice-class-items.result.now c.loop-class-test.false ∙ c.as_slice-class-items.ensures.value)
    (c.loop-class.invariant classes linked)
