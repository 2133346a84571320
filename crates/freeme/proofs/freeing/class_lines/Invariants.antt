use Rattle.std.proofs.Common.{◌≡◌, ◌++◌, drop, string_bytes}
use Rattle.std.specs.List.{AllByRecursion}
use Rattle.freeme.specs.Writing.{class_lines, HasName}
use Rattle.freeme.proofs.freeing.class_lines.Given as goal

abbrev pub invariant-loop-place : goal.invariant-loop-place
invariant-loop-place l = record {
  made : string_bytes l.lines ++ class_lines (drop l.place l.classes) (drop l.place l.counts) ≡ class_lines l.classes l.counts;
  named : AllByRecursion HasName (drop l.place l.classes);
}
