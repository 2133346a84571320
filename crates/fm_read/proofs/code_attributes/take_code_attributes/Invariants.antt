use Rattle.std.proofs.Common.{◌≡◌, ◌-◌}
use Rattle.fm_code.specs.inner.Reading.{counted_at, several_at, with_prefix}
use Rattle.fm_read.specs.inner.ReadingCode.{attribute_at}
use Rattle.fm_read.proofs.code_attributes.take_code_attributes.Given as goal

abbrev pub invariant-loop : goal.invariant-loop
invariant-loop l = with_prefix l.attributes.items (several_at (attribute_at l.known.entries l.places) (l.count - l.counter) l.rest) ≡ counted_at (attribute_at l.known.entries l.places) l.bytes
