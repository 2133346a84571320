use Rattle.std.proofs.Common.{◌≡◌, take}
use Rattle.std.specs.List.{sum}
use Rattle.fm_frames.proofs.report.cells_made.Given as goal

abbrev pub invariant-loop-size_class : goal.invariant-loop-size_class
invariant-loop-size_class g l = l.cells ≡ sum (take l.size_class (g.M.Memory.store l.memory).made)
