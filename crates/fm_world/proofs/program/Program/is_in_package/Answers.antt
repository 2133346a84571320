use Rattle.std.proofs.Common.{◌∙◌, ap}
use Rattle.std.specs.Str.{bytes_eq}
use Rattle.fm_world.specs.Chains.{class_at}
use Rattle.fm_world.specs.Lookups.{package_of}
use Rattle.fm_world.proofs.program.Program.is_in_package.Goals as goal

pub returns : goal.returns
returns c =
    let classes = c.args.self.now.outline.classes in
    c.eq.ensures ∙ ap (λ a. bytes_eq a c.package_name-2.result.now) c.package_name.ensures
    ∙ ap (bytes_eq (package_of (class_at classes c.args.c.0).name))
    (c.package_name-2.ensures ∙ ap (λ d. package_of (class_at classes d).name) c.owner_of.ensures.value)
