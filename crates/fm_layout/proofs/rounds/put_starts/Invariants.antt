use Rattle.std.proofs.Common.{◌≡◌, ◌++◌, drop}
use Rattle.fm_layout.specs.Rooms.{end_from, starts_from}
use Rattle.fm_layout.proofs.rounds.put_starts.Given as goal

abbrev pub invariant-loop-room : goal.invariant-loop-room
invariant-loop-room l = record {
  end : end_from l.start (drop l.room-index l.rooms) ≡ end_from 0 l.rooms;
  made : l.starts.items ++ starts_from l.start (drop l.room-index l.rooms) ≡ starts_from 0 l.rooms;
}
