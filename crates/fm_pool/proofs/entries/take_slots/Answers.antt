use Rattle.std.proofs.Common.{true}
use Rattle.std.proofs.lemmas.Result.{err_from_is_err_and}
use Rattle.fm_pool.specs.inner.Reading.{slots_at}
use Rattle.fm_pool.proofs.EntriesInTurn.{next_slot, no_slot, last_due, last_done}
use Rattle.fm_pool.proofs.entries.take_slots.Goals as goal

pub returns-in_err-entry : goal.returns-in_err-entry
returns-in_err-entry c =
    let p = err_from_is_err_and c.from_residual.result c.from_residual.ensures.1 in
    rw (p.1, p.2) (no_slot c.in_err-entry.field-0.0 c.loop.entries.items c.loop.is_second c.args.count c.loop.counter c.loop.rest.now (slots_at true c.args.count c.args.bytes.now) c.loop-test.true c.in_err-entry.ensures c.loop.invariant)

pub loop-preserved : goal.loop-preserved
loop-preserved c =
    rw (c.in_ok-push.ensures.items, c.takes_two-is_second.ensures)
    (next_slot c.loop.entries.items c.loop.is_second c.args.count c.loop.counter c.loop.rest.now c.in_ok-entry.entry c.in_ok-entry.after.now (slots_at true c.args.count c.args.bytes.now) c.loop-test.true c.in_ok-entry.ensures c.loop.invariant)

pub returns-then-is_second : goal.returns-then-is_second
returns-then-is_second c = last_due c.loop.entries.items c.loop.is_second c.args.count c.loop.counter c.loop.rest.now (slots_at true c.args.count c.args.bytes.now) c.if-is_second.true c.loop-test.false c.loop.invariant

pub returns : goal.returns
returns c = last_done c.loop.entries.items c.loop.is_second c.args.count c.loop.counter c.loop.rest.now (slots_at true c.args.count c.args.bytes.now) c.if-is_second.false c.loop-test.false c.loop.invariant
