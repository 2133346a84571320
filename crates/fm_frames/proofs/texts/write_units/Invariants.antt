use Rattle.std.proofs.Common.{◌≡◌}
use Rattle.fm_frames.specs.inner.Places.{written_units}
use Rattle.fm_frames.proofs.texts.write_units.Given as goal

-- the units before this place are written
abbrev pub invariant-loop-place : goal.invariant-loop-place
invariant-loop-place g l =
    l.machine ≡ record l.initial.machine {
      areas = record l.initial.machine.areas { store = written_units l.initial.machine.areas.store l.cell.0 l.units l.place };
    }
