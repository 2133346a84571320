use Rattle.std.proofs.Common.{◌≡◌, sym, ◌∙◌, ap, ◌&&◌, not, true, false}
use Rattle.fm_code.specs.AccessFlags.{is_package_private}
use Rattle.fm_world.specs.Lookups.{is_interface_at}
use Rattle.fm_world.specs.Members.{method_at}
use Rattle.fm_world.proofs.Told.{method_info-flags}
use Rattle.fm_world.proofs.program.Program.is_restricted.Goals as goal

pub returns-then-not-is_package_private : goal.returns-then-not-is_package_private
returns-then-not-is_package_private c =
    let classes = c.args.self.now.outline.classes in
    let flags = ap (λ m. is_package_private m.flags) c.method.ensures ∙ ap is_package_private (method_info-flags c.args.self.now c.args.m.0) in
    let other : is_package_private c.method.result.now.flags ≡ false = sym c.is_package_private.ensures ∙ c.if-not-is_package_private.true in
    sym (ap (λ b. b && not (is_interface_at classes (method_at classes c.args.m.0).class)) (sym flags ∙ other))

pub returns : goal.returns
returns c =
    let classes = c.args.self.now.outline.classes in
    let flags = ap (λ m. is_package_private m.flags) c.method.ensures ∙ ap is_package_private (method_info-flags c.args.self.now c.args.m.0) in
    let here : is_package_private c.method.result.now.flags ≡ true = sym c.is_package_private.ensures ∙ c.if-not-is_package_private.false in
    ap not (c.is_interface.ensures ∙ ap (is_interface_at classes) c.owner_of.ensures.value)
    ∙ sym (ap (λ b. b && not (is_interface_at classes (method_at classes c.args.m.0).class)) (sym flags ∙ here))
