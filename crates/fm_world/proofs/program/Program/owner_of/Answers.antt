use Rattle.std.proofs.Common.{sym, ◌∙◌, ap, subst, ℕ, ◌<◌, length}
use Rattle.fm_world.proofs.OwnedMethods.{owner_within}
use Rattle.fm_world.proofs.Told.{method_info-class}
use Rattle.fm_world.proofs.program.Program.owner_of.Goals as goal

pub returns-clause-value : goal.returns-clause-value
returns-clause-value c = ap (λ m. m.class.0) c.method.ensures ∙ method_info-class c.args.self.now c.args.m.0

pub returns-clause-inside : goal.returns-clause-inside
returns-clause-inside c =
    let classes = c.args.self.now.outline.classes in
    let owner = ap (λ m. m.class.0) c.method.ensures ∙ method_info-class c.args.self.now c.args.m.0 in
    let P : ℕ → Type 0 = λ n. n < length classes in
    subst P (sym owner) (owner_within classes c.args.m.0 c.requires)
