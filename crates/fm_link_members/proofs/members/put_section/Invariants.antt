use Rattle.std.proofs.Common.{◌-◌, ◌≤◌}
use Rattle.fm_world.specs.inner.Layers.{KeepsTables}
use Rattle.fm_link_members.specs.inner.MemberTables.{passes_of}
use Rattle.fm_link_members.specs.inner.NearestSteps.{PutsSection}
use Rattle.fm_link_members.proofs.members.put_section.Given as goal

abbrev pub invariant-loop-left : goal.invariant-loop-left
invariant-loop-left l = record {
  below : l.left ≤ l.end;
  above : l.start ≤ l.end → l.start ≤ l.left;
  keeps : KeepsTables l.fn.layers l.layers;
  puts : PutsSection l.fn.layers l.layers l.rows l.signatures (passes_of l.kept) (l.left, l.end) l.inherited l.table;
}

abbrev pub decreases-loop-left : goal.decreases-loop-left
decreases-loop-left l = l.left - l.start
