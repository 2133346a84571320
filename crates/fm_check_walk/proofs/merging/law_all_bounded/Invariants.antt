use Rattle.std.proofs.Common.{take, All}
use Rattle.fm_check_walk.specs.inner.Ranks.{IsBounded}
use Rattle.fm_check_walk.proofs.merging.law_all_bounded.Given as goal

abbrev pub invariant-loop-number : goal.invariant-loop-number
invariant-loop-number l = All IsBounded (take l.number l.slots)
