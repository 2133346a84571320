use Rattle.std.proofs.Common.{◌≡◌, ℕ, ◌+◌, ◌<◌, ◌≤◌, get_or}
use Rattle.fm_cells.proofs.bodies.write_object.Given as goal

-- the header words are written, and so far zeros after them
abbrev pub invariant-loop-i : goal.invariant-loop-i
invariant-loop-i l = record {
  first : get_or l.words l.cell 0 ≡ l.identity;
  second : get_or l.words (l.cell + 1) 0 ≡ l.extent;
  zeros : (k : ℕ) → l.cell + 2 ≤ k → k < l.i → get_or l.words k 0 ≡ 0;
  before : (k : ℕ) → k < l.cell → get_or l.words k 0 ≡ get_or l.fn.words k 0;
  after : (k : ℕ) → l.cell + l.count ≤ k → get_or l.words k 0 ≡ get_or l.fn.words k 0;
}
