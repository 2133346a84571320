use Rattle.std.proofs.lemmas.Result.{err_from_is_err_and}
use Rattle.std.proofs.Common.{rules}
use Rattle.fm_code.specs.inner.Reading.{counted_at}
use Rattle.fm_code.proofs.Several.{goes_on, ends, is_done, begins}
use Rattle.fm_read.specs.inner.ReadingCode.{handler_at}
use Rattle.fm_read.proofs.tables.take_handlers.Goals as goal

pub returns-in_err-count : goal.returns-in_err-count
unfolding counted_at
returns-in_err-count c = search rules

pub loop-init : goal.loop-init
loop-init c = begins (handler_at c.args.known.now.entries c.args.places.now) c.new-handlers.result.items c.args.bytes.now c.in_ok-count.count c.in_ok-count.rest.now c.new-handlers.ensures.items c.in_ok-count.ensures.taken

pub returns-in_err-handler : goal.returns-in_err-handler
returns-in_err-handler c =
    let p = err_from_is_err_and c.from_residual-in_err-handler.result c.from_residual-in_err-handler.ensures.1 in
    let piece_at = handler_at c.args.known.now.entries c.args.places.now in
    rw (p.1, p.2)
    (ends piece_at c.in_err-handler.field-0.0 c.loop.handlers.items c.in_ok-count.count c.loop.counter c.loop.rest.now (counted_at piece_at c.args.bytes.now)
    c.loop-test.true c.in_err-handler.ensures c.loop.invariant)

pub loop-preserved : goal.loop-preserved
loop-preserved c =
    let piece_at = handler_at c.args.known.now.entries c.args.places.now in
    rw c.in_ok-push.ensures.items
    (goes_on piece_at c.loop.handlers.items c.in_ok-count.count c.loop.counter c.loop.rest.now c.in_ok-handler.handler c.in_ok-handler.after.now (counted_at piece_at c.args.bytes.now)
    c.loop-test.true c.in_ok-handler.ensures c.loop.invariant)

pub returns : goal.returns
returns c =
    let piece_at = handler_at c.args.known.now.entries c.args.places.now in
    is_done piece_at c.loop.handlers.items c.in_ok-count.count c.loop.counter c.loop.rest.now (counted_at piece_at c.args.bytes.now) c.loop-test.false c.loop.invariant
