use Rattle.std.proofs.Common.{◌≡◌}
use Rattle.std.specs.Io.KnownBytes.{prepend_known}
use Rattle.fm_frames.specs.Acts.{chain_cells, chain_from}
use Rattle.fm_native.proofs.free_me.chained_cells.Given as goal
use Rattle.fm_native.specs.inner.Chains.{cells_in}

-- those found so far and those that are left are the whole chain
abbrev pub invariant-loop-cell : goal.invariant-loop-cell
invariant-loop-cell g l =
    prepend_known (cells_in l.cells) (chain_cells l.left l.machine.areas.store l.cell.0) ≡ chain_from l.machine.areas.store l.fn.first.0

abbrev pub decreases-loop-cell : goal.decreases-loop-cell
decreases-loop-cell g l = l.left
