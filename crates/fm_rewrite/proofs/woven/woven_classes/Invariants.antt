use Rattle.std.proofs.Common.{◌≡◌, ◌+◌, ◌++◌, ◌<◌, ◌^◌, drop, length}
use Rattle.std.specs.Vec.Iter.{into_iter_items, into_iter_len}
use Rattle.fm_rewrite.specs.inner.ByPlans.{classes_by, first_long_by, MayDoEach, method_count, pools_by}
use Rattle.fm_rewrite.proofs.woven.woven_classes.Given as goal

abbrev pub invariant-loop-pool : goal.invariant-loop-pool
invariant-loop-pool l = record {
  can_next : (goal.iterator-loop-pool).can_next l.pool-iterator;
  is_finite : (goal.iterator-loop-pool).is_finite l.pool-iterator;
  count : into_iter_len l.pool-iterator ≡ length (into_iter_items l.pool-iterator);
  left : into_iter_items l.pool-iterator ≡ pools_by l.rest (drop l.place l.classes);
  one_each : length l.rest ≡ method_count (drop l.place l.classes);
  numbers : l.number + method_count (drop l.place l.classes) < 2 ^ 32;
  may : MayDoEach l.rest (drop l.place l.classes);
  made : l.woven.items ++ classes_by l.rest (drop l.place l.classes) ≡ classes_by l.planned l.classes;
  none : first_long_by l.number l.rest (drop l.place l.classes) ≡ first_long_by l.first l.planned l.classes;
}
