use Rattle.std.proofs.lemmas.Result.{err_from_is_err_and}
use Rattle.std.proofs.Common.{rules}
use Rattle.fm_code.specs.inner.Reading.{counted_at}
use Rattle.fm_code.proofs.Several.{goes_on, ends, is_done, begins}
use Rattle.fm_read.specs.inner.ReadingCode.{attribute_at}
use Rattle.fm_read.proofs.code_attributes.take_code_attributes.Goals as goal

pub returns-in_err-count : goal.returns-in_err-count
unfolding counted_at
returns-in_err-count c = search rules

pub loop-init : goal.loop-init
loop-init c = begins (attribute_at c.args.known.now.entries c.args.places.now) c.new-attributes.result.items c.args.bytes.now c.in_ok-count.count c.in_ok-count.rest.now c.new-attributes.ensures.items c.in_ok-count.ensures.taken

pub returns-in_err-attribute : goal.returns-in_err-attribute
returns-in_err-attribute c =
    let p = err_from_is_err_and c.from_residual-in_err-attribute.result c.from_residual-in_err-attribute.ensures.1 in
    let piece_at = attribute_at c.args.known.now.entries c.args.places.now in
    rw (p.1, p.2)
    (ends piece_at c.in_err-attribute.field-0.0 c.loop.attributes.items c.in_ok-count.count c.loop.counter c.loop.rest.now (counted_at piece_at c.args.bytes.now)
    c.loop-test.true c.in_err-attribute.ensures c.loop.invariant)

pub loop-preserved : goal.loop-preserved
loop-preserved c =
    let piece_at = attribute_at c.args.known.now.entries c.args.places.now in
    rw c.in_ok-push.ensures.items
    (goes_on piece_at c.loop.attributes.items c.in_ok-count.count c.loop.counter c.loop.rest.now c.in_ok-attribute.attribute c.in_ok-attribute.after.now (counted_at piece_at c.args.bytes.now)
    c.loop-test.true c.in_ok-attribute.ensures c.loop.invariant)

pub returns : goal.returns
returns c =
    let piece_at = attribute_at c.args.known.now.entries c.args.places.now in
    is_done piece_at c.loop.attributes.items c.in_ok-count.count c.loop.counter c.loop.rest.now (counted_at piece_at c.args.bytes.now) c.loop-test.false c.loop.invariant
