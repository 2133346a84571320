use Rattle.std.proofs.Common.{rules, ◌≡◌, ◌∙◌, option_copied, option_map}
use Rattle.fm_base.specs.declared.ids.MethodId.{MethodId}
use Rattle.fm_world.proofs.Selected.{own_by_table}
use Rattle.fm_world.proofs.program.Program.own_instance.Goals as goal

pub returns : goal.returns
returns c =
    let same : option_map (λ (n : MethodId). n.0) c.map.result ≡ option_copied c.get.result = search rules in
    same ∙ c.get.ensures.value
    ∙ own_by_table c.self.inside.parts c.args.self.now c.args.class c.args.m.0 c.as_slice-own.result.now c.index-own-class.result
    c.as_slice.result.now
    c.self.view_is c.self.invariant c.if-class-own.false c.requires c.as_slice-own.ensures c.as_slice.ensures c.index-own-class.is
