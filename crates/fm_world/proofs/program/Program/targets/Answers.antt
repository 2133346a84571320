use Rattle.std.proofs.Common.{◌≡◌, sym, ◌∙◌, ap, subst, ℕ, List, [], ◌∷◌, map, IfOk}
use Rattle.fm_base.specs.declared.ids.MethodId.{MethodId}
use Rattle.fm_world.proofs.Told.{targets-static, targets-special, targets-selected}
use Rattle.fm_world.proofs.program.Program.targets.Goals as goal

pub returns-in-Static : goal.returns-in-Static
returns-in-Static c =
    let P : List ℕ → Type 0 = λ numbers. IfOk c.one_target.result (λ found. map (λ (m : MethodId). m.0) found.items ≡ numbers) in
    subst P (sym (targets-static c.args.self.now c.args.call c.in-Static.is)) c.one_target.ensures

pub returns-in-Special : goal.returns-in-Special
returns-in-Special c =
    let P : List ℕ → Type 0 = λ numbers. IfOk c.one_target-in-Special.result (λ found. map (λ (m : MethodId). m.0) found.items ≡ numbers) in
    subst P (ap (λ n. n ∷ []) c.special_target.ensures
    ∙ sym (targets-special c.args.self.now c.args.call c.in-Special.is)) c.one_target-in-Special.ensures

pub returns-in-Virtual : goal.returns-in-Virtual
returns-in-Virtual c =
    let P : List ℕ → Type 0 = λ numbers. IfOk c.selected_targets.result (λ found. map (λ (m : MethodId). m.0) found.items ≡ numbers) in
    subst P (sym (targets-selected c.args.self.now c.args.call c.in-Virtual.is)) c.selected_targets.ensures
