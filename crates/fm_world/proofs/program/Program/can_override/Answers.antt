use Rattle.std.proofs.Common.{sym, ◌∙◌, ◌||◌}
use Rattle.std.specs.List.{list_any}
use Rattle.fm_world.specs.Chains.{chain_of}
use Rattle.fm_world.specs.Lookups.{opens, same_package}
use Rattle.fm_world.specs.Members.{method_at}
use Rattle.fm_world.proofs.OverridingLemmas.{below_overrides, free_overrides, none_below, opened_overrides}
use Rattle.fm_world.proofs.program.Program.can_override.Goals as goal

pub returns-then-not-is_restricted : goal.returns-then-not-is_restricted
returns-then-not-is_restricted c = sym (free_overrides _ (sym c.is_restricted.ensures ∙ c.if-not-is_restricted.true))

pub returns-then-not-is_below : goal.returns-then-not-is_below
returns-then-not-is_below c =
    let classes = c.args.self.now.outline.classes in
    let m = method_at classes c.args.m.0 in
    sym (none_below (same_package classes c.args.c.0 m.class || list_any (opens classes m) (chain_of classes c.args.c.0))
    (sym c.is_restricted.ensures ∙ c.if-not-is_restricted.false) (sym c.is_below.ensures ∙ c.if-not-is_below.true))

pub returns-then-is_in_package : goal.returns-then-is_in_package
returns-then-is_in_package c =
    let classes = c.args.self.now.outline.classes in
    let m = method_at classes c.args.m.0 in
    sym (below_overrides (list_any (opens classes m) (chain_of classes c.args.c.0)) (sym c.is_restricted.ensures ∙ c.if-not-is_restricted.false)
    (sym c.is_below.ensures ∙ c.if-not-is_below.false) (sym c.is_in_package.ensures ∙ c.if-is_in_package.true))

pub returns : goal.returns
returns c =
    let classes = c.args.self.now.outline.classes in
    let m = method_at classes c.args.m.0 in
    c.is_opened.ensures
    ∙ sym (opened_overrides (list_any (opens classes m) (chain_of classes c.args.c.0)) (sym c.is_restricted.ensures ∙ c.if-not-is_restricted.false)
    (sym c.is_below.ensures ∙ c.if-not-is_below.false) (sym c.is_in_package.ensures ∙ c.if-is_in_package.false))
