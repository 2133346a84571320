use Rattle.std.proofs.Common.{◌≡◌, [], filter, not, take}
use Rattle.fm_fast.proofs.entries.are_started.Given as goal
use Rattle.fm_frames.specs.Starts.{is_started}

-- those before this place have started
abbrev pub invariant-loop-class : goal.invariant-loop-class
invariant-loop-class g l = [] ≡ filter (λ class. not (is_started l.program.outline l.machine.areas.started class)) (take l.class-index l.classes)
