use Rattle.std.proofs.Common.{◌≡◌, ◌-◌, map}
use Rattle.fm_code.specs.inner.Reading.{several_at, counted_at, with_prefix}
use Rattle.fm_read.specs.inner.Parts.{member_view}
use Rattle.fm_read.specs.inner.Reading.{member_at}
use Rattle.fm_read.proofs.parts.take_members.Given as goal

abbrev pub invariant-loop : goal.invariant-loop
invariant-loop l = with_prefix (map member_view l.members.items) (several_at member_at (l.count - l.counter) l.rest) ≡ counted_at member_at l.fn.bytes
