use Rattle.std.proofs.Common.{◌≡◌, ◌++◌, ◌∷◌, [], map}
use Rattle.std.proofs.lemmas.Result.{err_from_is_err_and}
use Rattle.std.proofs.lemmas.List.{map_push}
use Rattle.fm_code.specs.inner.Reading.{counted_at, attribute_view, raw_at}
use Rattle.fm_code.proofs.Several.{goes_on, ends, is_done}
use Rattle.fm_read.proofs.parts.take_attributes.Goals as goal

pub returns-in_err-attribute : goal.returns-in_err-attribute
returns-in_err-attribute c =
    let p = err_from_is_err_and c.from_residual-in_err-attribute.result c.from_residual-in_err-attribute.ensures.1 in
    rw (p.1, p.2) (ends raw_at c.in_err-attribute.field-0.0 (map attribute_view c.loop.attributes.items) c.in_ok-count.count c.loop.counter c.loop.rest.now
    (counted_at raw_at c.args.bytes.now) c.loop-test.true c.in_err-attribute.ensures c.loop.invariant)

pub loop-preserved : goal.loop-preserved
loop-preserved c =
    let one = c.in_ok-attribute.attribute in
    let e : map attribute_view c.push.new.self.items ≡ map attribute_view c.loop.attributes.items ++ attribute_view one ∷ [] = rw c.in_ok-push.ensures.items (map_push _ c.loop.attributes.items one) in
    rw e (goes_on raw_at (map attribute_view c.loop.attributes.items) c.in_ok-count.count c.loop.counter c.loop.rest.now (attribute_view one) c.in_ok-attribute.after.now
    (counted_at raw_at c.args.bytes.now) c.loop-test.true c.in_ok-attribute.ensures c.loop.invariant)

pub returns : goal.returns
returns c = is_done raw_at (map attribute_view c.loop.attributes.items) c.in_ok-count.count c.loop.counter c.loop.rest.now
    (counted_at raw_at c.args.bytes.now) c.loop-test.false c.loop.invariant
