use Rattle.std.proofs.Common.{◌≤◌}
use Rattle.fm_link_records.specs.inner.Own.{IsOwnTable}
use Rattle.fm_link_records.proofs.own.own_table.Given as goal

abbrev pub invariant-loop-left : goal.invariant-loop-left
invariant-loop-left l = record {
  above : l.start ≤ l.left;
  below : l.left ≤ l.end;
  known : IsOwnTable l.signatures l.flags l.left l.end l.table;
}

abbrev pub decreases-loop-left : goal.decreases-loop-left
decreases-loop-left l = l.left
