use Rattle.std.proofs.Common.{arith}
use Rattle.fm_place.proofs.RowLemmas.{reached_all, reached_first, reached_more}
use Rattle.fm_place.proofs.busy_rows.Seen.reached_row.Goals as goal

pub loop-item-init : goal.loop-item-init
loop-item-init c = reached_first c.args.self.now c.args.count c.in_ok-reached.reached c.in_ok-reached.ensures

pub set_if-requires : goal.set_if-requires
set_if-requires c = omega (arith, c.loop-item-test.true, c.loop-item.invariant.wide)

pub loop-item-preserved : goal.loop-item-preserved
loop-item-preserved c =
    reached_more c.args.self.now c.args.count c.loop-item.item c.is_reached.result c.loop-item.reached c.set_if.new.row c.loop-item-test.true
    c.is_reached.ensures c.set_if.ensures c.loop-item.invariant

pub returns : goal.returns
returns c =
    reached_all c.args.self.now c.args.count c.loop-item.item c.loop-item.reached c.requires.count (omega arith) c.loop-item.invariant
