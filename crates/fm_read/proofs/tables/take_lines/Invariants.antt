use Rattle.std.proofs.Common.{◌≡◌, ◌-◌}
use Rattle.fm_code.specs.inner.Reading.{counted_at, several_at, with_prefix}
use Rattle.fm_read.specs.inner.ReadingCode.{line_at}
use Rattle.fm_read.proofs.tables.take_lines.Given as goal

abbrev pub invariant-loop : goal.invariant-loop
invariant-loop l = with_prefix l.lines.items (several_at (line_at l.places) (l.count - l.counter) l.rest) ≡ counted_at (line_at l.places) l.bytes
