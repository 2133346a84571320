use Rattle.std.proofs.Common.{◌≡◌, sym, ◌∙◌, ap, unwrap_or}
use Rattle.fm_world.proofs.program.Program.self_of.Goals as goal
use Rattle.fm_world.specs.BuiltIns.{built_in}
use Rattle.fm_world.specs.Chains.{class_at}
use Rattle.fm_world.specs.Descriptors.{class_number}
use Rattle.fm_world.specs.Programs.{class_info}
use Rattle.fm_world.specs.declared.records.ClassInfo.{ClassInfo}

pub returns-in-Some : goal.returns-in-Some
unfolding class_info
returns-in-Some c =
    let class = c.args.c.0 in
    let name : c.as_slice.result.now ≡ (class_at c.args.self.now.outline.classes class).name =
    c.as_slice.ensures ∙ ap (λ (i : ClassInfo). i.name) c.class.ensures in
    ap (λ found. unwrap_or found class) (sym c.in-Some.is ∙ c.built_in_class.ensures ∙ ap (class_number built_in) name)

pub returns-in-None : goal.returns-in-None
unfolding class_info
returns-in-None c =
    let class = c.args.c.0 in
    let name : c.as_slice.result.now ≡ (class_at c.args.self.now.outline.classes class).name =
    c.as_slice.ensures ∙ ap (λ (i : ClassInfo). i.name) c.class.ensures in
    ap (λ found. unwrap_or found class) (sym c.in-None.is ∙ c.built_in_class.ensures ∙ ap (class_number built_in) name)
