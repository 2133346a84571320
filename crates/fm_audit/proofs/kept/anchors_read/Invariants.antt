use Rattle.std.proofs.Common.{◌≡◌, ◌++◌, drop, length}
use Rattle.fm_audit.specs.Reading.{after_nulls}
use Rattle.fm_audit.specs.SafeParts.{anchors_from}
use Rattle.fm_audit.specs.inner.Kept.{AreThere}
use Rattle.fm_audit.proofs.kept.anchors_read.Given as goal

abbrev pub invariant-loop-item : goal.invariant-loop-item
invariant-loop-item l = record {
  there : AreThere l.free l.first l.old (after_nulls l.first l.new) → AreThere l.free l.first (drop l.item-index l.old) l.rest;
  so_far :
      l.anchors.items ++ anchors_from l.free l.first (length l.new) (drop l.item-index l.old) l.rest
      ≡ anchors_from l.free l.first (length l.new) l.old (after_nulls l.first l.new);
}
