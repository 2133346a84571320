use Rattle.std.proofs.Common.{◌-◌, true}
use Rattle.fm_pool.specs.inner.Reading.{slots_at}
use Rattle.fm_pool.proofs.EntriesInTurn.{IsWhole}
use Rattle.fm_pool.proofs.entries.take_slots.Given as goal

abbrev pub invariant-loop : goal.invariant-loop
invariant-loop l = IsWhole l.entries.items l.is_second (l.count - l.counter) l.rest (slots_at true l.count l.bytes)
