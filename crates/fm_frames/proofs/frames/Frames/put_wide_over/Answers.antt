use Rattle.std.proofs.Common.{◌-◌, refl, reverse, arith, rules}
use Rattle.fm_frames.proofs.FrameValues.{swapped_wide}
use Rattle.fm_frames.proofs.frames.Frames.put_wide_over.Goals as goal

pub returns-clause-put : goal.returns-clause-put
returns-clause-put c told =
    rw (c.clear.ensures, c.set.ensures)
    (swapped_wide c.self.inside.has_frames c.self.inside.values c.self.inside.used c.args.takes (c.self.inside.used - c.args.takes)
    c.self.inside.topmost (reverse c.self.inside.callers.items) c.args.value c.args.self.now c.self.invariant c.self.view_is (omega arith)
    refl (omega (arith, c.len.ensures.value, c.fits_long.ensures (search rules))))
