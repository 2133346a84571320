use Rattle.std.proofs.Common.{◌-◌, ◌≤◌, length}
use Rattle.fm_world.specs.Members.{fields_of, first_field}
use Rattle.fm_frames.proofs.starts.first_field.Given as goal

-- the first field lies between them
abbrev pub invariant-loop-low : goal.invariant-loop-low
invariant-loop-low l =
    (l.low ≤ first_field l.program.outline.classes l.class) × (first_field l.program.outline.classes l.class ≤ l.high)
    × (l.high ≤ length (fields_of l.program.outline.classes))

abbrev pub decreases-loop-low : goal.decreases-loop-low
decreases-loop-low l = l.high - l.low
