use Rattle.std.proofs.Common.{sym, ◌∙◌, ap, cond, None, arith, length, ◌≤◌}
use Rattle.fm_world.specs.Lookups.{own_selectable}
use Rattle.fm_world.specs.Members.{method_at}
use Rattle.fm_world.proofs.OverridingLemmas.{no_own_past, overriding_past}
use Rattle.fm_world.proofs.program.Program.overriding.Goals as goal

pub returns-then-class-classes : goal.returns-then-class-classes
returns-then-class-classes c =
    let classes = c.args.self.now.outline.classes in
    let m = method_at classes c.args.m.0 in
    let past : length classes ≤ c.args.class = omega (arith, c.classes.ensures, c.if-class-classes.true) in
    sym (overriding_past classes m c.args.class (no_own_past classes m c.args.class past))

pub returns-then-can_override : goal.returns-then-can_override
returns-then-can_override c =
    let classes = c.args.self.now.outline.classes in
    let m = method_at classes c.args.m.0 in
    c.own_selectable.ensures.value
    ∙ sym (ap (λ b. cond b (own_selectable classes m c.args.class) None) (sym c.can_override.ensures ∙ c.if-can_override.true))

pub returns-else-can_override : goal.returns-else-can_override
returns-else-can_override c =
    let classes = c.args.self.now.outline.classes in
    let m = method_at classes c.args.m.0 in
    sym (ap (λ b. cond b (own_selectable classes m c.args.class) None) (sym c.can_override.ensures ∙ c.if-can_override.false))
