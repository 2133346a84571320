use Rattle.std.proofs.Common.{sym, ◌∙◌, ap, unwrap_or}
use Rattle.fm_link_refusals.proofs.not_implemented.self_of.Goals as goal
use Rattle.fm_world.specs.BuiltIns.{built_in}
use Rattle.fm_world.specs.Descriptors.{class_number}

pub returns-in-Some : goal.returns-in-Some
returns-in-Some c =
    ap (λ found. unwrap_or found c.args.class) (sym c.in-Some.is ∙ c.built_in_class.ensures ∙ ap (class_number built_in) c.class_name.ensures)

pub returns-in-None : goal.returns-in-None
returns-in-None c =
    ap (λ found. unwrap_or found c.args.class) (sym c.in-None.is ∙ c.built_in_class.ensures ∙ ap (class_number built_in) c.class_name.ensures)
