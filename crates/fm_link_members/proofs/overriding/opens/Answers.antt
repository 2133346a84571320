use Rattle.std.proofs.Common.{sym, ◌∙◌, ap, ◌&&◌, not}
use Rattle.fm_world.specs.Lookups.{same_package}
use Rattle.fm_link_members.specs.inner.Overriding.{is_free_in, owner_in, own_selectable_in}
use Rattle.fm_link_members.proofs.overriding.opens.Goals as goal

pub returns-then-not-is_below : goal.returns-then-not-is_below
returns-then-not-is_below c =
    let m = c.args.methods.now in
    let h = c.args.hierarchy.now in
    sym (ap (λ b. b && (same_package h.classes.now c.args.class (owner_in m c.args.method)
    && is_free_in m h (own_selectable_in m c.args.signature c.args.class))) (sym c.is_below.ensures ∙ c.if-not-is_below.true))

pub returns-then-not-is_in_package : goal.returns-then-not-is_in_package
returns-then-not-is_in_package c =
    let m = c.args.methods.now in
    let h = c.args.hierarchy.now in
    sym (ap (λ b. b && (same_package h.classes.now c.args.class (owner_in m c.args.method)
    && is_free_in m h (own_selectable_in m c.args.signature c.args.class))) (sym c.is_below.ensures ∙ c.if-not-is_below.false)
    ∙ ap (λ b. b && is_free_in m h (own_selectable_in m c.args.signature c.args.class))
    (ap (same_package h.classes.now c.args.class) (sym c.owner_of.ensures) ∙ sym c.is_in_package.ensures ∙ c.if-not-is_in_package.true))

pub returns-in-Some : goal.returns-in-Some
returns-in-Some c =
    let m = c.args.methods.now in
    let h = c.args.hierarchy.now in
    ap not c.is_restricted.ensures
    ∙ sym (ap (λ b. b && (same_package h.classes.now c.args.class (owner_in m c.args.method)
    && is_free_in m h (own_selectable_in m c.args.signature c.args.class))) (sym c.is_below.ensures ∙ c.if-not-is_below.false)
    ∙ ap (λ b. b && is_free_in m h (own_selectable_in m c.args.signature c.args.class))
    (ap (same_package h.classes.now c.args.class) (sym c.owner_of.ensures) ∙ sym c.is_in_package.ensures ∙ c.if-not-is_in_package.false)
    ∙ ap (is_free_in m h) (sym c.own.ensures ∙ c.in-Some.is))

pub returns-in-None : goal.returns-in-None
returns-in-None c =
    let m = c.args.methods.now in
    let h = c.args.hierarchy.now in
    sym (ap (λ b. b && (same_package h.classes.now c.args.class (owner_in m c.args.method)
    && is_free_in m h (own_selectable_in m c.args.signature c.args.class))) (sym c.is_below.ensures ∙ c.if-not-is_below.false)
    ∙ ap (λ b. b && is_free_in m h (own_selectable_in m c.args.signature c.args.class))
    (ap (same_package h.classes.now c.args.class) (sym c.owner_of.ensures) ∙ sym c.is_in_package.ensures ∙ c.if-not-is_in_package.false)
    ∙ ap (is_free_in m h) (sym c.own.ensures ∙ c.in-None.is))
