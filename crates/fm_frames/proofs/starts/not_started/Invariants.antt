use Rattle.std.proofs.Common.{◌≡◌, filter, map, not, take}
use Rattle.fm_base.specs.declared.ids.ClassId.{ClassId}
use Rattle.fm_frames.proofs.starts.not_started.Given as goal
use Rattle.fm_frames.specs.Starts.{is_started}

-- those before this place that haven't started are found
abbrev pub invariant-loop-class : goal.invariant-loop-class
invariant-loop-class g l =
    map (λ (c : ClassId). c.0) l.found.items
    ≡ filter (λ class. not (is_started l.program.outline l.machine.areas.started class)) (take l.class-index l.classes)
