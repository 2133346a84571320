use Rattle.std.proofs.Common.{◌≡◌, ◌++◌, drop, length}
use Rattle.fm_rewrite.specs.inner.ByPlans.{counts_by, HaveCounts, method_count}
use Rattle.fm_rewrite.proofs.counts.counts_of.Given as goal

abbrev pub invariant-loop-place : goal.invariant-loop-place
invariant-loop-place l = record {
  one_each : length l.rest ≡ method_count (drop l.place l.classes);
  fit : HaveCounts l.rest (drop l.place l.classes);
  made : l.counts.items ++ counts_by l.rest (drop l.place l.classes) ≡ counts_by l.planned l.classes;
}
