use Rattle.std.proofs.Common.{◌<◌, ◌≤◌, length, arith}
use Rattle.std.specs.List.{list_all}
use Rattle.fm_audit.proofs.FreedLemmas.{test_end, test_more, test_stops}
use Rattle.fm_audit.specs.inner.Frees.{are_quiet_from, is_quiet}
use Rattle.fm_audit.proofs.frees.are_all_quiet.Goals as goal

pub returns-then-not-are_quiet : goal.returns-then-not-are_quiet
returns-then-not-are_quiet c =
    let below : c.loop-item.item < (length c.args.holding.now.freed) = omega (arith, c.loop-item-test.true, c.loop-item.auto.item-end, c.bits-item-end.ensures) in
    test_stops (λ item own. list_all (is_quiet c.args.classes.now c.args.busy.now item) own) c.loop-item.item (length c.args.holding.now.freed) c.loop-item.rest.now c.are_quiet.result
    (are_quiet_from c.args.classes.now c.args.busy.now 0 (length c.args.holding.now.freed) c.args.pairs.now) c.here.result.now below c.are_quiet.ensures c.if-not-are_quiet.true c.here.ensures.is c.loop-item.invariant

pub loop-item-preserved : goal.loop-item-preserved
loop-item-preserved c =
    let below : c.loop-item.item < (length c.args.holding.now.freed) = omega (arith, c.loop-item-test.true, c.loop-item.auto.item-end, c.bits-item-end.ensures) in
    test_more (λ item own. list_all (is_quiet c.args.classes.now c.args.busy.now item) own) c.loop-item.item (length c.args.holding.now.freed) c.loop-item.rest.now c.are_quiet.result
    (are_quiet_from c.args.classes.now c.args.busy.now 0 (length c.args.holding.now.freed) c.args.pairs.now) c.here.result.now c.later-rest.result.now below c.are_quiet.ensures c.if-not-are_quiet.false c.here.ensures.is
    c.later-rest.ensures.is c.loop-item.invariant

pub returns : goal.returns
returns c =
    let past : (length c.args.holding.now.freed) ≤ c.loop-item.item = omega (arith, c.loop-item-test.false, c.loop-item.auto.item-end, c.bits-item-end.ensures) in
    test_end (λ item own. list_all (is_quiet c.args.classes.now c.args.busy.now item) own) c.loop-item.item (length c.args.holding.now.freed) c.loop-item.rest.now
    (are_quiet_from c.args.classes.now c.args.busy.now 0 (length c.args.holding.now.freed) c.args.pairs.now) past c.loop-item.invariant
