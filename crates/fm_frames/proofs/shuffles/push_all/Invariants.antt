use Rattle.std.proofs.Common.{◌≡◌, ◌-◌, length, drop}
use Rattle.fm_frames.proofs.shuffles.push_all.Given as goal
use Rattle.fm_frames.specs.inner.Frames.{on_top, with_words}

abbrev pub invariant-loop-pushed : goal.invariant-loop-pushed
invariant-loop-pushed l = l.frames ≡ on_top (with_words (drop (length l.words - l.pushed) l.words)) l.fn.frames
