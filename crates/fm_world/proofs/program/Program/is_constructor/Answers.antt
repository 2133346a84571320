use Rattle.std.proofs.Common.{◌∙◌, ap}
use Rattle.std.specs.Str.{bytes_eq}
use Rattle.fm_world.specs.Lookups.{constructor_name}
use Rattle.fm_world.proofs.Told.{method_info-name}
use Rattle.fm_world.proofs.program.Program.is_constructor.Goals as goal

pub returns : goal.returns
returns c =
    let name = c.as_slice.ensures ∙ ap (λ m. m.name) c.method.ensures ∙ method_info-name c.args.self.now c.args.m.0 in
    c.eq.ensures ∙ ap (bytes_eq c.as_slice.result.now) c.as_slice-2.ensures ∙ ap (λ n. bytes_eq n constructor_name) name
