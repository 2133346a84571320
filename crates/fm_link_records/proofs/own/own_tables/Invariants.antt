use Rattle.std.proofs.Common.{◌≡◌, ◌+◌, length}
use Rattle.fm_link_records.specs.inner.Own.{AreOwnTables}
use Rattle.fm_link_records.proofs.own.own_tables.Given as goal

abbrev pub invariant-loop-class : goal.invariant-loop-class
invariant-loop-class l = record {
  count : length l.tables.items + 1 ≡ l.class;
  own : AreOwnTables l.first l.signatures l.flags l.tables.items;
}
