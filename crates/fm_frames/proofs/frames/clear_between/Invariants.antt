use Rattle.std.proofs.Common.{◌≡◌, ◌-◌, ◌≤◌, ◌++◌, length, replicate, take}
use Rattle.fm_frames.proofs.frames.clear_between.Given as goal
use Rattle.fm_frames.specs.declared.values.Value.TheVariants as value

abbrev pub invariant-loop-place : goal.invariant-loop-place
invariant-loop-place l =
    (l.fn.start ≤ l.place) × (length l.values ≡ length l.fn.values)
    × (take l.fn.start l.values ≡ take l.fn.start l.fn.values)
    × (take l.place l.values ≡ take l.fn.start l.fn.values ++ replicate (l.place - l.fn.start) value.Top)
