use Rattle.std.proofs.Common.{◌∙◌, ap}
use Rattle.std.specs.List.{list_any}
use Rattle.std.specs.Str.{bytes_eq}
use Rattle.fm_world.specs.Chains.{array_supers}
use Rattle.fm_world.proofs.Told.{class_info-name}
use Rattle.fm_world.proofs.program.Program.is_above_arrays.Goals as goal

pub returns : goal.returns
returns c =
    c.is_name_above_arrays.ensures
    ∙ ap (λ name. list_any (bytes_eq name) array_supers)
    (c.as_slice.ensures ∙ ap (λ i. i.name) c.class.ensures ∙ class_info-name c.args.self.now.outline c.args.d.0)
