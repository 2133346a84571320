use Rattle.std.proofs.Common.{◌∙◌, sym, ap}
use Rattle.std.specs.Option.{option_map}
use Rattle.fm_base.specs.declared.ids.ClassId.{ClassId}
use Rattle.fm_rapid.proofs.NamedLemmas.{arrays_taken}
use Rattle.fm_rapid.proofs.named.takes_arrays.Goals as goal

pub returns-in-Some : goal.returns-in-Some
returns-in-Some c =
    c.is_sub.ensures
    ∙ arrays_taken c.args.program.now.outline.classes c.args.named _
    (sym c.class_of_type.ensures ∙ ap (option_map (λ (d : ClassId). d.0)) c.in-Some.is)
