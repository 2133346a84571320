use Rattle.std.proofs.Common.{◌≡◌, ◌-◌, length}
use Rattle.fm_layout.specs.Rooms.{rounds_after, widened_rooms}
use Rattle.fm_layout.specs.inner.Spots.{Tracks}
use Rattle.fm_layout.proofs.rounds.widened_rooms.Given as goal

abbrev pub invariant-loop : goal.invariant-loop
invariant-loop l = record {
  tracks : Tracks l.rooms.items l.spots.items;
  rounds : rounds_after (length l.fn.rooms.items - l.counter) l.rooms.items ≡ widened_rooms l.fn.rooms.items;
}
