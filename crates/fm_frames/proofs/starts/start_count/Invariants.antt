use Rattle.std.proofs.Common.{◌≡◌, ◌≤◌, length, map, take}
use Rattle.fm_base.specs.declared.ids.ClassId.{ClassId}
use Rattle.fm_frames.proofs.starts.start_count.Given as goal
use Rattle.fm_frames.specs.Starts.{start_methods}

-- those of the classes before this place are counted
abbrev pub invariant-loop-class : goal.invariant-loop-class
invariant-loop-class l =
    (l.count ≡ length (start_methods l.program.outline (map (λ (c : ClassId). c.0) (take l.class-index l.classes)))) × (l.count ≤ l.class-index)
