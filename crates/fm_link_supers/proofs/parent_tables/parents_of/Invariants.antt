use Rattle.std.proofs.Common.{◌≡◌, ◌++◌, drop, map}
use Rattle.fm_link_names.specs.declared.given.GivenFile.{GivenFile}
use Rattle.fm_link_names.specs.inner.ClassNumbering.{number_in}
use Rattle.fm_link_supers.specs.inner.NamedParents.{class_named_in, parents_by, superclass_by}
use Rattle.fm_world.specs.BuiltIns.{built_in}
use Rattle.fm_world.specs.declared.built_ins.BuiltInClass.{BuiltInClass}
use Rattle.fm_world.specs.inner.BuiltInTable.{class_of_row}
use Rattle.fm_link_supers.proofs.parent_tables.parents_of.Given as goal

abbrev pub invariant-loop-class : goal.invariant-loop-class
invariant-loop-class l =
    l.parents.items ++ map (λ (row : BuiltInClass). superclass_by (number_in l.numbers.numbers) l.files (class_of_row row)) (drop l.class-index l.class-items)
    ≡ map (superclass_by (number_in l.numbers.numbers) l.files) built_in

abbrev pub invariant-loop-file : goal.invariant-loop-file
invariant-loop-file l =
    l.parents.items ++ map (λ (file : GivenFile). class_named_in l.by_text file file.class.now.super_class) (drop l.file-index l.files)
    ≡ parents_by (number_in l.numbers.numbers) l.by_text l.files
