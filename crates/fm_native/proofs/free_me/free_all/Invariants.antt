use Rattle.fm_native.proofs.FreeRows.{FreesRest}
use Rattle.fm_native.proofs.free_me.free_all.Given as goal

abbrev pub invariant-loop-cell : goal.invariant-loop-cell
invariant-loop-cell g l = FreesRest l.initial.machine l.machine l.cells l.cell-index
