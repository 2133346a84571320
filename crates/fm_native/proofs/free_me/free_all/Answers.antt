use Rattle.std.proofs.Common.{arith, rules}
use Rattle.std.proofs.lemmas.List.{drop_all}
use Rattle.fm_native.proofs.FreeRows.{frees-end, frees-next, frees-start}
use Rattle.fm_native.proofs.free_me.free_all.Goals as goal

pub free_object-requires : goal.free_object-requires
free_object-requires g c = c.loop-cell.invariant.counts

pub loop-cell-init : goal.loop-cell-init
loop-cell-init g c = frees-start c.args.machine.now c.args.cells.now c.requires

pub loop-cell-preserved : goal.loop-cell-preserved
loop-cell-preserved g c =
    frees-next c.args.machine.now c.loop-cell.machine c.free_object.new.self c.args.cells.now c.loop-cell.cell-index _ (record { 0 = 0 }) c.loop-cell.invariant
    c.loop-cell-test.true (search rules) c.free_object.ensures.freed c.free_object.ensures.counts

pub returns : goal.returns
returns g c =
    frees-end c.args.machine.now c.loop-cell.machine c.args.cells.now c.loop-cell.cell-index c.loop-cell.invariant
    (drop_all c.loop-cell.cell-index c.args.cells.now (omega (arith, c.loop-cell-test.false)))
