use Rattle.std.proofs.Common.{◌≡◌, sym, ◌∙◌, ap, true, false, option_map}
use Rattle.fm_base.specs.declared.ids.MethodId.{MethodId}
use Rattle.fm_code.specs.AccessFlags.{is_private}
use Rattle.fm_world.specs.Lookups.{can_override}
use Rattle.fm_world.specs.Members.{method_at}
use Rattle.fm_world.proofs.OverridingLemmas.{nearest_overrides, none_overrides}
use Rattle.fm_world.proofs.Told.{method_info-flags, select-other, select-private}
use Rattle.fm_world.proofs.program.Program.select.Goals as goal

pub returns-then-has_flag : goal.returns-then-has_flag
returns-then-has_flag c =
    let flags = ap (λ m. is_private m.flags) c.method.ensures ∙ ap is_private (method_info-flags c.args.self.now c.args.m.0) in
    let private : is_private c.method.result.now.flags ≡ true = sym c.has_flag.ensures ∙ c.if-has_flag.true in
    sym (select-private c.args.self.now.outline.classes c.args.c.0 c.args.m.0 (sym flags ∙ private))

pub returns-then-can_override : goal.returns-then-can_override
returns-then-can_override c =
    let classes = c.args.self.now.outline.classes in
    let m = method_at classes c.args.m.0 in
    let flags = ap (λ m. is_private m.flags) c.method.ensures ∙ ap is_private (method_info-flags c.args.self.now c.args.m.0) in
    let other : is_private c.method.result.now.flags ≡ false = sym c.has_flag.ensures ∙ c.if-has_flag.false in
    let found = sym c.nearest.ensures.value ∙ ap (option_map (λ (n : MethodId). n.0)) c.in-Some.is in
    let can = ap (can_override classes m) (sym c.owner_of.ensures.value) ∙ sym c.can_override.ensures ∙ c.if-can_override.true in
    sym (select-other classes c.args.c.0 c.args.m.0 (sym flags ∙ other) ∙ nearest_overrides classes m c.args.c.0 c.in-Some.nearest.0 found can)

pub returns-else-can_override : goal.returns-else-can_override
returns-else-can_override c =
    let flags = ap (λ m. is_private m.flags) c.method.ensures ∙ ap is_private (method_info-flags c.args.self.now c.args.m.0) in
    let other : is_private c.method.result.now.flags ≡ false = sym c.has_flag.ensures ∙ c.if-has_flag.false in
    c.first_overriding.ensures ∙ sym (select-other c.args.self.now.outline.classes c.args.c.0 c.args.m.0 (sym flags ∙ other))

pub returns-in-None : goal.returns-in-None
returns-in-None c =
    let classes = c.args.self.now.outline.classes in
    let flags = ap (λ m. is_private m.flags) c.method.ensures ∙ ap is_private (method_info-flags c.args.self.now c.args.m.0) in
    let other : is_private c.method.result.now.flags ≡ false = sym c.has_flag.ensures ∙ c.if-has_flag.false in
    let found = sym c.nearest.ensures.value ∙ ap (option_map (λ (n : MethodId). n.0)) c.in-None.is in
    sym (select-other classes c.args.c.0 c.args.m.0 (sym flags ∙ other) ∙ none_overrides classes (method_at classes c.args.m.0) c.args.c.0 found)
