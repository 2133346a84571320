use Rattle.std.proofs.Common.{◌≡◌, drop}
use Rattle.fm_layout.specs.Rooms.{end_from}
use Rattle.fm_layout.proofs.rounds.length_of.Given as goal

abbrev pub invariant-loop-room : goal.invariant-loop-room
invariant-loop-room l = end_from l.end (drop l.room-index l.rooms) ≡ end_from 0 l.rooms
