use Rattle.std.proofs.Common.{◌≡◌, ◌++◌, drop, map, string_bytes}
use Rattle.std.specs.List.{AllByRecursion}
use Rattle.freeme.specs.Writing.{HasName, written_name}
use Rattle.freeme.proofs.writing.written_names.Given as goal

abbrev pub invariant-loop-class : goal.invariant-loop-class
invariant-loop-class l = record {
  made : map string_bytes l.names.items ++ map (written_name l.folder) (drop l.class-index l.classes) ≡ map (written_name l.folder) l.classes;
  named : AllByRecursion HasName (drop l.class-index l.classes);
}
