use Rattle.std.proofs.Common.{◌≡◌, ◌∙◌, sym, ap, subst, length, refl, rules, Some}
use Rattle.std.proofs.lemmas.Bool.{false≢true}
use Rattle.std.proofs.lemmas.Option.{get_or_from_slice_get}
use Rattle.fm_link_names.specs.inner.Numbering.{texts_in}
use Rattle.fm_link_supers.proofs.Downwards.{among_left, among_right}
use Rattle.fm_link_supers.proofs.ParentTables.{list_in-row}
use Rattle.fm_link_supers.specs.inner.ListTables.{list_in}
use Rattle.fm_world.specs.Chains.{chain_of, interfaces_of, is_among}
use Rattle.fm_link_refusals.proofs.CountLoops.{chain_inside, interfaces_inside, none_of_both, zero_counted}
use Rattle.fm_link_refusals.specs.inner.LeftOver.{is_open, is_owed, selected_at, HasCounts}
use Rattle.fm_link_refusals.proofs.left_over.LeftOver.is_clear.Goals as goal

pub returns-then-not-are_zero : goal.returns-then-not-are_zero
returns-then-not-are_zero c = λ classes linked within are.
    let m = c.args.linking.methods.now in
    let h = c.args.linking.hierarchy.now in
    let q = is_owed classes m (λ s. is_open classes (selected_at m (Some c.args.class) s)) in
    let row = c.list_at-row.result.now in
    let row_is = c.list_at-row.ensures ∙ ap (λ t. list_in t c.args.class) c.as_slice.ensures.value in
    let long : length row ≡ length h.classes.now = search rules in
    let chain = c.chain.ensures ∙ list_in-row (chain_of classes) (length classes) c.args.class h.chains.items linked.hierarchy.chains within in
    let counts = subst (HasCounts m (length classes) q) (sym row_is) (are c.args.class within) in (
      λ passed. absurd (false≢true passed),
      λ both. sym c.if-not-are_zero.true
          ∙ c.are_zero.ensures.1
          (λ k among.
          let above = ap (is_among k) (sym chain) ∙ among in
          zero_counted classes m q row k (long ∙ ap length linked.hierarchy.classes_are) (chain_inside classes c.args.class within k above) counts
          (both.1 k (among_left k (chain_of classes c.args.class) (interfaces_of classes c.args.class) above))),
    )

pub returns : goal.returns
returns c = λ classes linked within are.
    let m = c.args.linking.methods.now in
    let h = c.args.linking.hierarchy.now in
    let q = is_owed classes m (λ s. is_open classes (selected_at m (Some c.args.class) s)) in
    let row = c.list_at-row.result.now in
    let row_is = c.list_at-row.ensures ∙ ap (λ t. list_in t c.args.class) c.as_slice.ensures.value in
    let long : length row ≡ length h.classes.now = search rules in
    let as_long = long ∙ ap length linked.hierarchy.classes_are in
    let chain = c.chain.ensures ∙ list_in-row (chain_of classes) (length classes) c.args.class h.chains.items linked.hierarchy.chains within in
    let listed = c.list_at.ensures ∙ ap (λ t. list_in t c.args.class) c.as_slice-2.ensures.value
    ∙ list_in-row (interfaces_of classes) (length classes) c.args.class h.interfaces.items linked.hierarchy.interfaces within in
    let counts = subst (HasCounts m (length classes) q) (sym row_is) (are c.args.class within) in (
      λ clear. (
        ap length (sym row_is) ∙ as_long,
        none_of_both (texts_in c.args.linking.texts.now) classes m q row (chain_of classes c.args.class) (interfaces_of classes c.args.class) linked.methods
            as_long counts
            (λ k among. get_or_from_slice_get row k 0 0 (c.if-not-are_zero.ensures.0 refl k (ap (is_among k) chain ∙ among)))
            (λ k among. get_or_from_slice_get row k 0 0 (c.are_zero-2.ensures.0 clear k (ap (is_among k) listed ∙ among))),
      ),
      λ both. c.are_zero-2.ensures.1
          (λ k among.
          let above = ap (is_among k) (sym listed) ∙ among in
          zero_counted classes m q row k as_long (interfaces_inside classes linked.hierarchy.only_interfaces c.args.class k above) counts
          (both.1 k (among_right k (chain_of classes c.args.class) (interfaces_of classes c.args.class) above))),
    )
