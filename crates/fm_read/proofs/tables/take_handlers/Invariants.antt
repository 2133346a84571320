use Rattle.std.proofs.Common.{◌≡◌, ◌-◌}
use Rattle.fm_code.specs.inner.Reading.{counted_at, several_at, with_prefix}
use Rattle.fm_read.specs.inner.ReadingCode.{handler_at}
use Rattle.fm_read.proofs.tables.take_handlers.Given as goal

abbrev pub invariant-loop : goal.invariant-loop
invariant-loop l = with_prefix l.handlers.items (several_at (handler_at l.known.entries l.places) (l.count - l.counter) l.rest) ≡ counted_at (handler_at l.known.entries l.places) l.bytes
