use Rattle.std.proofs.Common.{Some, ap, arith}
use Rattle.fm_layout.specs.Rooms.{room_of, size_at}
use Rattle.fm_place_weave.proofs.CountingLemmas.{kept_fits}
use Rattle.fm_place_weave.proofs.counting.item_end.Goals as goal

pub released_end-start-requires-clause-fits : goal.released_end-start-requires-clause-fits
released_end-start-requires-clause-fits c =
    let fits = (kept_fits c.args.holders.looped.now c.args.holders.first c.args.end c.args.before.now c.args.after.now c.args.item.now).1 in
    omega (arith, fits, c.requires.fits)

pub overflow_add-start : goal.overflow_add-start
overflow_add-start c =
    let fits = (kept_fits c.args.holders.looped.now c.args.holders.first c.args.end c.args.before.now c.args.after.now c.args.item.now).1 in
    let start = c.released_end-start.ensures in
    let kept = c.kept_size.ensures in
    let same = ap (λ s. size_at s (room_of (Some c.args.item.now) c.args.item.now.insn)) c.released_end-start.ensures in
    omega (arith, fits, start, kept, same, c.requires.fits)
