use Rattle.std.proofs.Common.{◌≡◌, length, take}
use Rattle.fm_read_limits.specs.inner.FloatingTypes.{AreMarks}
use Rattle.fm_read_limits.proofs.support.floating_types.FloatingTexts.of.Given as goal

-- those of the entries so far
abbrev pub invariant-loop-index : goal.invariant-loop-index
invariant-loop-index l = record { size : length l.marks ≡ 65536; marked : AreMarks (take l.index l.entries) l.marks }
