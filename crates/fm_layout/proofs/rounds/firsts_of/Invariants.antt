use Rattle.std.proofs.Common.{◌≡◌, ◌≤◌, ◌*◌, ◌++◌, drop}
use Rattle.fm_layout.specs.Laid.{firsts_from}
use Rattle.fm_layout.proofs.rounds.firsts_of.Given as goal

abbrev pub invariant-loop-room : goal.invariant-loop-room
invariant-loop-room l = record {
  few : l.first ≤ 2 * l.room-index;
  made : l.firsts.items ++ firsts_from l.first (drop l.room-index l.rooms) ≡ firsts_from 0 l.rooms;
}
