use Rattle.std.proofs.Common.{◌≡◌, ◌++◌, drop}
use Rattle.fm_layout.specs.Rooms.{end_from}
use Rattle.fm_layout.specs.inner.Spots.{spots_from}
use Rattle.fm_layout.proofs.spots.put_spots.Given as goal

abbrev pub invariant-loop-item : goal.invariant-loop-item
invariant-loop-item l = record {
  end : end_from l.start (drop l.item l.rooms) ≡ end_from 0 l.rooms;
  made : l.spots.items ++ spots_from l.starts l.start l.item (drop l.item l.rooms) ≡ spots_from l.starts 0 0 l.rooms;
}
