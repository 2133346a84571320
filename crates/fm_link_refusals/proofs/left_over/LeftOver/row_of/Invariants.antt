use Rattle.std.proofs.Common.{◌≡◌, ◌<◌, ◌≤◌, List, length}
use Rattle.fm_link_refusals.specs.inner.LeftOver.{is_part_owed, length_above, HasCounts, IsCounting, IsLeftOver}
use Rattle.fm_world.specs.declared.declarations.DeclaredClass.{DeclaredClass}
use Rattle.fm_link_refusals.proofs.left_over.LeftOver.row_of.Given as goal

abbrev pub invariant-loop-method : goal.invariant-loop-method
invariant-loop-method l = record {
  from : l.start ≤ l.method;
  counts : (classes : List DeclaredClass) → IsCounting classes l.counting → l.class < length classes
      → IsLeftOver classes l.counting.linking.methods.now l.self
      → HasCounts l.counting.linking.methods.now (length classes)
      (is_part_owed classes l.counting.linking.methods.now l.parent l.class l.start l.method) l.row.items;
  long : length l.row.items ≡ length_above l.self.rows.items (length l.counting.linking.hierarchy.now.classes.now) l.parent;
}
