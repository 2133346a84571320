use Rattle.std.proofs.Common.{◌≡◌, ◌++◌, ◌-◌, drop, length, map}
use Rattle.fm_base.specs.declared.ids.ClassId.{ClassId}
use Rattle.fm_frames.proofs.starts.enter_starts.Given as goal
use Rattle.fm_frames.specs.Starts.{start_methods}
use Rattle.fm_frames.specs.Steps.{start_frames}

-- the frames of the last classes are there
abbrev pub invariant-loop-entered : goal.invariant-loop-entered
invariant-loop-entered g l =
    l.machine
    ≡ record l.fn.machine {
      frames = start_frames l.program (start_methods l.program.outline (map (λ (c : ClassId). c.0) (drop (length l.classes - l.entered) l.classes)))
          ++ l.fn.machine.frames;
    }
