use Rattle.std.proofs.Common.{sym, ◌∙◌, ap, ◌||◌}
use Rattle.std.specs.List.{list_any}
use Rattle.fm_world.proofs.OverridingLemmas.{below_overrides, free_overrides, none_below, opened_overrides}
use Rattle.fm_world.specs.Lookups.{same_package}
use Rattle.fm_link_supers.specs.inner.ListTables.{list_in}
use Rattle.fm_link_members.specs.inner.Overriding.{opens_in, owner_in}
use Rattle.fm_link_members.proofs.overriding.can_override.Goals as goal

pub returns-then-not-is_restricted : goal.returns-then-not-is_restricted
returns-then-not-is_restricted c = sym (free_overrides _ (sym c.is_restricted.ensures ∙ c.if-not-is_restricted.true))

pub returns-then-not-is_below : goal.returns-then-not-is_below
returns-then-not-is_below c =
    let m = c.args.methods.now in
    let h = c.args.hierarchy.now in
    sym (none_below
    (same_package h.classes.now c.args.class (owner_in m c.args.method)
    || list_any (opens_in m h c.args.method c.args.signature) (list_in h.chains.items c.args.class))
    (sym c.is_restricted.ensures ∙ c.if-not-is_restricted.false) (sym c.is_below.ensures ∙ c.if-not-is_below.true))

pub returns-then-is_in_package : goal.returns-then-is_in_package
returns-then-is_in_package c =
    let m = c.args.methods.now in
    let h = c.args.hierarchy.now in
    sym (below_overrides (list_any (opens_in m h c.args.method c.args.signature) (list_in h.chains.items c.args.class))
    (sym c.is_restricted.ensures ∙ c.if-not-is_restricted.false) (sym c.is_below.ensures ∙ c.if-not-is_below.false)
    (ap (same_package h.classes.now c.args.class) (sym c.owner_of.ensures) ∙ sym c.is_in_package.ensures ∙ c.if-is_in_package.true))

pub returns : goal.returns
returns c =
    let m = c.args.methods.now in
    let h = c.args.hierarchy.now in
    c.is_opened.ensures ∙ ap (list_any (opens_in m h c.args.method c.args.signature)) c.chain.ensures
    ∙ sym (opened_overrides (list_any (opens_in m h c.args.method c.args.signature) (list_in h.chains.items c.args.class))
    (sym c.is_restricted.ensures ∙ c.if-not-is_restricted.false) (sym c.is_below.ensures ∙ c.if-not-is_below.false)
    (ap (same_package h.classes.now c.args.class) (sym c.owner_of.ensures) ∙ sym c.is_in_package.ensures ∙ c.if-is_in_package.false))
