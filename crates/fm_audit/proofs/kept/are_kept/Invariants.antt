use Rattle.std.proofs.Common.{◌↔◌, drop, length}
use Rattle.fm_audit.specs.Reading.{after_nulls}
use Rattle.fm_audit.specs.SafeParts.{AreKeptFrom}
use Rattle.fm_audit.proofs.kept.are_kept.Given as goal

abbrev pub invariant-loop-item : goal.invariant-loop-item
invariant-loop-item l =
    AreKeptFrom l.free l.first l.anchors.items (length l.new) l.old (after_nulls l.first l.new)
    ↔ AreKeptFrom l.free l.first l.anchors.items (length l.new) (drop l.item-index l.old) l.rest
