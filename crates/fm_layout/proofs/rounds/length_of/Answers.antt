use Rattle.std.proofs.Common.{arith}
use Rattle.fm_layout.proofs.RoomsLemmas.{fits_at}
use Rattle.fm_layout.proofs.rounds.length_of.Goals as goal

pub size_at-end-requires : goal.size_at-end-requires
size_at-end-requires c = let fits = fits_at c.args.rooms.now c.loop-room.room-index c.loop-room.end _ c.loop-room-test.true c.loop-room.invariant in omega arith

pub overflow_add-end : goal.overflow_add-end
overflow_add-end c = let fits = fits_at c.args.rooms.now c.loop-room.room-index c.loop-room.end _ c.loop-room-test.true c.loop-room.invariant in omega arith
