use Rattle.std.proofs.Common.{◌≡◌, ℕ, ◌+◌, ◌≤◌, drop, length}
use Rattle.std.specs.List.{AllByRecursion}
use Rattle.fm_code.specs.Spells.{HasSpelling}
use Rattle.fm_rewrite.specs.inner.ByPlans.{classes_by, method_count}
use Rattle.fm_audit_classes.specs.inner.Compared.{MayBeComparedEach}
use Rattle.fm_audit_classes.specs.inner.Found.{AreWhollyWritten}
use Rattle.fm_audit_classes.specs.inner.Methods.{IsFirstPlanned}
use Rattle.fm_audit_classes.specs.inner.Named.{AreStill}
use Rattle.fm_audit_classes.proofs.comparing.are_written.Given as goal

abbrev pub invariant-loop-place : goal.invariant-loop-place
invariant-loop-place l = record {
  shorter : length l.rest ≤ length l.planned;
  one_each : length l.rest ≡ method_count (drop l.place l.classes);
  may : MayBeComparedEach l.rest (drop l.place l.classes);
  spelled : AllByRecursion HasSpelling (drop l.place l.written);
  still : AreStill l.rest (drop l.place l.classes) (drop l.place l.written);
  whole : AreWhollyWritten l.planned l.classes l.written → AreWhollyWritten l.rest (drop l.place l.classes) (drop l.place l.written);
  same : drop l.place l.written ≡ classes_by l.rest (drop l.place l.classes) → l.written ≡ classes_by l.planned l.classes;
  first :
      (class first number method : ℕ) → class ≡ l.numbers.0 + l.place → first + length l.rest ≡ l.numbers.1 + length l.planned
      → IsFirstPlanned class first l.rest (drop l.place l.classes) (drop l.place l.written) number method
      → IsFirstPlanned l.numbers.0 l.numbers.1 l.planned l.classes l.written number method;
}
