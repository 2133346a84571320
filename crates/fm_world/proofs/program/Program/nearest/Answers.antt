use Rattle.std.proofs.Common.{rules, ◌≡◌, ◌∙◌, option_map}
use Rattle.fm_base.specs.declared.ids.MethodId.{MethodId}
use Rattle.fm_world.specs.Chains.{chain_of}
use Rattle.fm_world.specs.Members.{method_at}
use Rattle.fm_world.proofs.OverridingLemmas.{nearest_inside}
use Rattle.fm_world.proofs.program.Program.nearest.Goals as goal

pub returns-clause-value : goal.returns-clause-value
returns-clause-value c =
    let same : option_map (λ (n : MethodId). n.0) c.map.result ≡ c.nearest_number.result = search rules in
    same ∙ c.nearest_number.ensures

pub returns-clause-inside : goal.returns-clause-inside
returns-clause-inside c =
    let classes = c.args.self.now.outline.classes in
    let same : option_map (λ (n : MethodId). n.0) c.map.result ≡ c.nearest_number.result = search rules in
    nearest_inside classes (method_at classes c.args.m.0) (chain_of classes c.args.c.0) c.map.result (same ∙ c.nearest_number.ensures)
