use Rattle.std.proofs.Common.{◌≡◌, ◌-◌}
use Rattle.fm_code.specs.inner.Reading.{number_at, several_at, counted_at, with_prefix}
use Rattle.fm_read.proofs.parts.take_indices.Given as goal

abbrev pub invariant-loop : goal.invariant-loop
invariant-loop l = with_prefix l.indices.items (several_at (number_at 2) (l.count - l.counter) l.rest) ≡ counted_at (number_at 2) l.fn.bytes
