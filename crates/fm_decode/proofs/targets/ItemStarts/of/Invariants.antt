use Rattle.std.proofs.Common.{map}
use Rattle.fm_decode.specs.inner.Targets.{item_offset}
use Rattle.fm_decode.proofs.TargetsLemmas.{AreStartsUpTo}
use Rattle.fm_decode.proofs.targets.ItemStarts.of.Given as goal

abbrev pub invariant-loop-number : goal.invariant-loop-number
invariant-loop-number l = AreStartsUpTo (map item_offset l.items) l.length l.numbers.items l.number
