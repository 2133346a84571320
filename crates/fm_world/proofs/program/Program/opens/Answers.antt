use Rattle.std.proofs.Common.{sym, ◌∙◌, ap, ◌&&◌, not, length, ◌≤◌, arith, option_map}
use Rattle.fm_base.specs.declared.ids.MethodId.{MethodId}
use Rattle.fm_world.specs.Lookups.{is_unrestricted, own_selectable, same_package}
use Rattle.fm_world.specs.Members.{method_at}
use Rattle.fm_world.proofs.OverridingLemmas.{no_own_past, opens_past}
use Rattle.fm_world.proofs.program.Program.opens.Goals as goal

pub returns-then-class-classes : goal.returns-then-class-classes
returns-then-class-classes c =
    let classes = c.args.self.now.outline.classes in
    let m = method_at classes c.args.m.0 in
    let past : length classes ≤ c.args.class = omega (arith, c.classes.ensures, c.if-class-classes.true) in
    sym (opens_past classes m c.args.class (no_own_past classes m c.args.class past))

pub returns-then-not-is_below : goal.returns-then-not-is_below
returns-then-not-is_below c =
    let classes = c.args.self.now.outline.classes in
    let m = method_at classes c.args.m.0 in
    sym (ap (λ b. b && (same_package classes c.args.class m.class && is_unrestricted classes (own_selectable classes m c.args.class)))
    (sym c.is_below.ensures ∙ c.if-not-is_below.true))

pub returns-then-not-is_in_package : goal.returns-then-not-is_in_package
returns-then-not-is_in_package c =
    let classes = c.args.self.now.outline.classes in
    let m = method_at classes c.args.m.0 in
    sym (ap (λ b. b && (same_package classes c.args.class m.class && is_unrestricted classes (own_selectable classes m c.args.class)))
    (sym c.is_below.ensures ∙ c.if-not-is_below.false)
    ∙ ap (λ b. b && is_unrestricted classes (own_selectable classes m c.args.class)) (sym c.is_in_package.ensures ∙ c.if-not-is_in_package.true))

pub returns-in-Some : goal.returns-in-Some
returns-in-Some c =
    let classes = c.args.self.now.outline.classes in
    let m = method_at classes c.args.m.0 in
    let own = sym c.own_selectable.ensures.value ∙ ap (option_map (λ (n : MethodId). n.0)) c.in-Some.is in
    ap not c.is_restricted.ensures
    ∙ sym (ap (λ b. b && (same_package classes c.args.class m.class && is_unrestricted classes (own_selectable classes m c.args.class)))
    (sym c.is_below.ensures ∙ c.if-not-is_below.false)
    ∙ ap (λ b. b && is_unrestricted classes (own_selectable classes m c.args.class)) (sym c.is_in_package.ensures ∙ c.if-not-is_in_package.false)
    ∙ ap (is_unrestricted classes) own)

pub returns-in-None : goal.returns-in-None
returns-in-None c =
    let classes = c.args.self.now.outline.classes in
    let m = method_at classes c.args.m.0 in
    let own = sym c.own_selectable.ensures.value ∙ ap (option_map (λ (n : MethodId). n.0)) c.in-None.is in
    sym (ap (λ b. b && (same_package classes c.args.class m.class && is_unrestricted classes (own_selectable classes m c.args.class)))
    (sym c.is_below.ensures ∙ c.if-not-is_below.false)
    ∙ ap (λ b. b && is_unrestricted classes (own_selectable classes m c.args.class)) (sym c.is_in_package.ensures ∙ c.if-not-is_in_package.false)
    ∙ ap (is_unrestricted classes) own)
