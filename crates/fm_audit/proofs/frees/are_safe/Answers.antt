use Rattle.std.proofs.Common.{◌<◌, ◌≤◌, length, arith}
use Rattle.fm_audit.proofs.FreedLemmas.{safe_end, safe_more, safe_stops}
use Rattle.fm_audit.specs.inner.Frees.{are_safe_from}
use Rattle.fm_audit.proofs.frees.are_safe.Goals as goal

pub returns-then-not-is_safe_at : goal.returns-then-not-is_safe_at
returns-then-not-is_safe_at c =
    let n = length c.args.holding.now.freed in
    let rows = c.args.holding.now.rows.items in
    let below : c.loop-item.item < n = omega (arith, c.loop-item-test.true, c.loop-item.auto.item-end, c.bits-item-end.ensures) in
    safe_stops c.args.classes.now c.args.busy.now rows c.loop-item.item n c.loop-item.rest.now c.is_safe_at.result
    (are_safe_from c.args.classes.now c.args.busy.now rows 0 n c.args.pairs.now) c.here.result.now below c.is_safe_at.ensures c.if-not-is_safe_at.true
    c.here.ensures.is c.loop-item.invariant

pub loop-item-preserved : goal.loop-item-preserved
loop-item-preserved c =
    let n = length c.args.holding.now.freed in
    let rows = c.args.holding.now.rows.items in
    let below : c.loop-item.item < n = omega (arith, c.loop-item-test.true, c.loop-item.auto.item-end, c.bits-item-end.ensures) in
    safe_more c.args.classes.now c.args.busy.now rows c.loop-item.item n c.loop-item.rest.now c.is_safe_at.result
    (are_safe_from c.args.classes.now c.args.busy.now rows 0 n c.args.pairs.now) c.here.result.now c.later-rest.result.now below c.is_safe_at.ensures
    c.if-not-is_safe_at.false c.here.ensures.is c.later-rest.ensures.is c.loop-item.invariant

pub returns : goal.returns
returns c =
    let n = length c.args.holding.now.freed in
    let rows = c.args.holding.now.rows.items in
    let past : n ≤ c.loop-item.item = omega (arith, c.loop-item-test.false, c.loop-item.auto.item-end, c.bits-item-end.ensures) in
    safe_end c.args.classes.now c.args.busy.now rows c.loop-item.item n c.loop-item.rest.now
    (are_safe_from c.args.classes.now c.args.busy.now rows 0 n c.args.pairs.now) past c.loop-item.invariant
