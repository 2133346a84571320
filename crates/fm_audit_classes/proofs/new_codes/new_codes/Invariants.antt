use Rattle.std.proofs.Common.{◌≡◌, ◌+◌, ◌++◌, drop, length, map}
use Rattle.std.specs.List.{AllByRecursion}
use Rattle.fm_code.specs.Spells.{HasSpelling}
use Rattle.fm_rewrite.specs.inner.ByPlans.{method_count}
use Rattle.fm_audit_classes.specs.inner.Codes.{pair_of, written_codes}
use Rattle.fm_audit_classes.proofs.new_codes.new_codes.Given as goal

abbrev pub invariant-loop-place : goal.invariant-loop-place
invariant-loop-place l = record {
  spelled : AllByRecursion HasSpelling (drop l.place l.classes);
  count : length l.codes.items + method_count (drop l.place l.classes) ≡ method_count l.classes;
  pairs : map pair_of l.codes.items ++ written_codes (drop l.place l.classes) (drop l.place l.written) ≡ written_codes l.classes l.written;
}
