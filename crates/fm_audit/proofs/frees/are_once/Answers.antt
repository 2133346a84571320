use Rattle.std.proofs.Common.{◌<◌, ◌≤◌, arith}
use Rattle.fm_audit.proofs.FreedLemmas.{test_end, test_more, test_stops}
use Rattle.fm_audit.specs.inner.Frees.{are_once_from, is_once}
use Rattle.fm_audit.proofs.frees.are_once.Goals as goal

pub returns-then-not-is_once : goal.returns-then-not-is_once
returns-then-not-is_once c =
    let below : c.loop-item.item < c.args.items = omega (arith, c.loop-item-test.true) in
    test_stops (λ item own. is_once own) c.loop-item.item c.args.items c.loop-item.rest.now c.is_once.result
    (are_once_from 0 c.args.items c.args.pairs.now) c.here.result.now below c.is_once.ensures c.if-not-is_once.true c.here.ensures.is c.loop-item.invariant

pub loop-item-preserved : goal.loop-item-preserved
loop-item-preserved c =
    let below : c.loop-item.item < c.args.items = omega (arith, c.loop-item-test.true) in
    test_more (λ item own. is_once own) c.loop-item.item c.args.items c.loop-item.rest.now c.is_once.result
    (are_once_from 0 c.args.items c.args.pairs.now) c.here.result.now c.later-rest.result.now below c.is_once.ensures c.if-not-is_once.false c.here.ensures.is
    c.later-rest.ensures.is c.loop-item.invariant

pub returns : goal.returns
returns c =
    let past : c.args.items ≤ c.loop-item.item = omega (arith, c.loop-item-test.false) in
    test_end (λ item own. is_once own) c.loop-item.item c.args.items c.loop-item.rest.now
    (are_once_from 0 c.args.items c.args.pairs.now) past c.loop-item.invariant
