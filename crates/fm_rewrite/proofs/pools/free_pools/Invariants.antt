use Rattle.std.proofs.Common.{◌≡◌, ◌+◌, ◌++◌, drop, length}
use Rattle.std.specs.List.{AllByRecursion}
use Rattle.fm_code.specs.Spells.{HasSpelling}
use Rattle.fm_rewrite.specs.inner.ByPlans.{first_full_by, HaveFlags, method_count, pools_by}
use Rattle.fm_rewrite.proofs.pools.free_pools.Given as goal

abbrev pub invariant-loop-place : goal.invariant-loop-place
invariant-loop-place l = record {
  spelled : AllByRecursion HasSpelling (drop l.place l.classes);
  one_each : length l.rest ≡ method_count (drop l.place l.classes);
  flags : HaveFlags l.rest (drop l.place l.classes);
  made : l.pools.items ++ pools_by l.rest (drop l.place l.classes) ≡ pools_by l.planned l.classes;
  none : first_full_by (l.first + l.place) l.rest (drop l.place l.classes) ≡ first_full_by l.first l.planned l.classes;
}
