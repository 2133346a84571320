use Rattle.std.proofs.Common.{◌≡◌, sym, ◌∙◌, ap, length, map, arith}
use Rattle.std.specs.Str.{bytes_eq}
use Rattle.std.proofs.lemmas.Iterator.Adapters.{position_from-zero}
use Rattle.std.proofs.lemmas.List.{length-map}
use Rattle.fm_world.proofs.Completions.{count_is}
use Rattle.fm_world.proofs.built_ins.built_in_class.Goals as goal
use Rattle.fm_world.specs.BuiltIns.{built_in_classes}
use Rattle.fm_world.specs.Descriptors.{class_number}
use Rattle.fm_world.specs.declared.declarations.DeclaredClass.{DeclaredClass}
use Rattle.fm_world.specs.inner.BuiltInTable.{class_of_row}

pub loop-place-init : goal.loop-place-init
loop-place-init c =
    let name = c.args.name.now in
    sym (position_from-zero (λ (d : DeclaredClass). bytes_eq d.name name) (map class_of_row c.built_in_classes-classes.result.now))
    ∙ ap (λ classes. class_number classes name) c.built_in_classes-classes.ensures

pub overflow_cast-result : goal.overflow_cast-result
overflow_cast-result c =
    let rows = c.built_in_classes-classes.result.now in
    let count : length rows ≡ built_in_classes = sym (length-map rows class_of_row) ∙ ap length c.built_in_classes-classes.ensures ∙ count_is in
    let within = c.loop-place-test.true in
    omega (arith, within, count)
