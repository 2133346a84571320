use Rattle.std.proofs.Common.{◌≡◌, ◌++◌, drop, string_bytes}
use Rattle.std.specs.List.{AllByRecursion, flat_map}
use Rattle.freeme.specs.Audits.{safe_line}
use Rattle.freeme.specs.Writing.{HasName}
use Rattle.freeme.proofs.auditing.safe_lines.Given as goal

abbrev pub invariant-loop-class : goal.invariant-loop-class
invariant-loop-class l = record {
  made : string_bytes l.lines ++ flat_map safe_line (drop l.class-index l.classes) ≡ flat_map safe_line l.classes;
  named : AllByRecursion HasName (drop l.class-index l.classes);
}
