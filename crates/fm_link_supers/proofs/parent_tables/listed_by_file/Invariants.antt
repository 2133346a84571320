use Rattle.std.proofs.Common.{◌≡◌, ◌++◌, drop}
use Rattle.std.specs.List.{filter_map}
use Rattle.fm_link_names.specs.inner.ClassNumbering.{number_in}
use Rattle.fm_link_supers.specs.inner.NamedParents.{class_listed_in, listed_in}
use Rattle.fm_link_supers.proofs.parent_tables.listed_by_file.Given as goal

abbrev pub invariant-loop-index : goal.invariant-loop-index
invariant-loop-index l =
    l.interfaces.items ++ filter_map (class_listed_in (number_in l.numbers.numbers) l.by_text l.file) (drop l.index-index l.file.class.now.interfaces)
    ≡ listed_in (number_in l.numbers.numbers) l.by_text l.file
