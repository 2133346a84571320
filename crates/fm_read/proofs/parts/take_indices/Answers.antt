use Rattle.std.proofs.lemmas.Result.{err_from_is_err_and}
use Rattle.fm_code.specs.inner.Reading.{number_at, counted_at}
use Rattle.fm_code.proofs.Several.{goes_on, ends, is_done}
use Rattle.fm_read.proofs.parts.take_indices.Goals as goal

pub returns-in_err-index : goal.returns-in_err-index
returns-in_err-index c =
    let p = err_from_is_err_and c.from_residual-in_err-index.result c.from_residual-in_err-index.ensures.1 in
    rw (p.1, p.2) (ends (number_at 2) c.in_err-index.field-0.0 c.loop.indices.items c.in_ok-count.count c.loop.counter c.loop.rest.now
    (counted_at (number_at 2) c.args.bytes.now) c.loop-test.true c.in_err-index.ensures.taken c.loop.invariant)

pub loop-preserved : goal.loop-preserved
loop-preserved c =
    rw c.in_ok-push.ensures.items (goes_on (number_at 2) c.loop.indices.items c.in_ok-count.count c.loop.counter c.loop.rest.now c.in_ok-index.index c.in_ok-index.after.now
    (counted_at (number_at 2) c.args.bytes.now) c.loop-test.true c.in_ok-index.ensures.taken c.loop.invariant)

pub returns : goal.returns
returns c = is_done (number_at 2) c.loop.indices.items c.in_ok-count.count c.loop.counter c.loop.rest.now
    (counted_at (number_at 2) c.args.bytes.now) c.loop-test.false c.loop.invariant
