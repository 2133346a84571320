use Rattle.std.proofs.Common.{◌≡◌, ◌≤◌, ◌*◌, ◌++◌, drop}
use Rattle.fm_layout.specs.Laid.{laid_from}
use Rattle.fm_layout.specs.Rooms.{end_from}
use Rattle.fm_layout.proofs.laying.laid_in_rooms.Given as goal

abbrev pub invariant-loop-index : goal.invariant-loop-index
invariant-loop-index l = record {
  end : end_from l.start (drop l.index l.rooms) ≡ end_from 0 l.rooms;
  few : l.first ≤ 2 * l.index;
  made : l.laid.items ++ laid_from l.old l.starts l.firsts l.start l.first (drop l.index l.items) (drop l.index l.rooms) ≡ laid_from l.old l.starts l.firsts 0 0 l.items l.rooms;
}
