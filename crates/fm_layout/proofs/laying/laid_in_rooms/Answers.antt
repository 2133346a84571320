use Rattle.std.proofs.Common.{arith}
use Rattle.fm_layout.proofs.RoomsLemmas.{fits_at}
use Rattle.fm_layout.proofs.laying.laid_in_rooms.Goals as goal

pub put_laid-requires-clause-fits : goal.put_laid-requires-clause-fits
put_laid-requires-clause-fits c = let fits = fits_at c.args.rooms.now c.loop-index.index c.loop-index.start _ (omega arith) c.loop-index.invariant.end in omega arith

pub size_at-start-requires : goal.size_at-start-requires
size_at-start-requires c = let fits = fits_at c.args.rooms.now c.loop-index.index c.loop-index.start _ (omega arith) c.loop-index.invariant.end in omega arith

pub overflow_add-start : goal.overflow_add-start
overflow_add-start c = let fits = fits_at c.args.rooms.now c.loop-index.index c.loop-index.start _ (omega arith) c.loop-index.invariant.end in omega arith
