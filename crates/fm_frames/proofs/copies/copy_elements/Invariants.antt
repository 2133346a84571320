use Rattle.std.proofs.Common.{◌≡◌}
use Rattle.fm_cells.specs.Stores.{elements_at}
use Rattle.fm_frames.specs.inner.Places.{written_units}
use Rattle.fm_frames.proofs.copies.copy_elements.Given as goal

-- the elements before this place are copied
abbrev pub invariant-loop-place : goal.invariant-loop-place
invariant-loop-place g l =
    l.machine ≡ record l.initial.machine {
      areas = record l.initial.machine.areas {
        store = written_units l.initial.machine.areas.store l.to.0 (elements_at l.initial.machine.areas.store l.from.0) l.place;
      };
    }
