use Rattle.std.proofs.Common.{◌≡◌, ◌++◌, drop, map}
use Rattle.fm_link_names.specs.inner.ClassNumbering.{number_in}
use Rattle.fm_link_supers.specs.inner.ListTables.{lists}
use Rattle.fm_link_supers.specs.inner.NamedParents.{interfaces_by, listed_by, listed_in}
use Rattle.fm_world.specs.BuiltIns.{built_in}
use Rattle.fm_world.specs.declared.built_ins.BuiltInClass.{BuiltInClass}
use Rattle.fm_world.specs.inner.BuiltInTable.{class_of_row}
use Rattle.fm_link_supers.proofs.parent_tables.listed_interfaces.Given as goal

abbrev pub invariant-loop-class : goal.invariant-loop-class
invariant-loop-class l =
    lists l.listed.items ++ map (λ (row : BuiltInClass). interfaces_by (number_in l.numbers.numbers) (class_of_row row)) (drop l.class-index l.class-items)
    ≡ map (interfaces_by (number_in l.numbers.numbers)) built_in

abbrev pub invariant-loop-file : goal.invariant-loop-file
invariant-loop-file l =
    lists l.listed.items ++ map (listed_in (number_in l.numbers.numbers) l.by_text) (drop l.file-index l.files)
    ≡ listed_by (number_in l.numbers.numbers) l.by_text l.files
