use Rattle.std.proofs.Common.{◌≡◌, ◌-◌, map}
use Rattle.fm_code.specs.inner.Reading.{several_at, counted_at, with_prefix, attribute_view, raw_at}
use Rattle.fm_read.proofs.parts.take_attributes.Given as goal

abbrev pub invariant-loop : goal.invariant-loop
invariant-loop l = with_prefix (map attribute_view l.attributes.items) (several_at raw_at (l.count - l.counter) l.rest) ≡ counted_at raw_at l.fn.bytes
