use Rattle.std.proofs.Common.{◌≡◌, ◌-◌, ◌*◌, ◌^◌, ◌<◌, ◌≤◌}
use Rattle.fm_cells.proofs.sizes.size_class.Given as goal

-- the cell is that of the class, and half of it is too small
abbrev pub invariant-loop-cell : goal.invariant-loop-cell
invariant-loop-cell l = record {
  above : 33 ≤ l.class;
  cell_is : l.cell ≡ 2 ^ (l.class - 27);
  half_is_small : l.cell < 2 * l.words;
}

abbrev pub decreases-loop-cell : goal.decreases-loop-cell
decreases-loop-cell l = 2 * l.words - l.cell
