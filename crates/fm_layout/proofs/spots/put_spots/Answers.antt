use Rattle.std.proofs.Common.{arith}
use Rattle.fm_layout.proofs.RoomsLemmas.{fits_at}
use Rattle.fm_layout.proofs.spots.put_spots.Goals as goal

pub size_at-start-requires : goal.size_at-start-requires
size_at-start-requires c = let fits = fits_at c.args.rooms.now c.loop-item.item c.loop-item.start _ (omega arith) c.loop-item.invariant.end in omega arith

pub overflow_add-start : goal.overflow_add-start
overflow_add-start c = let fits = fits_at c.args.rooms.now c.loop-item.item c.loop-item.start _ (omega arith) c.loop-item.invariant.end in omega arith
