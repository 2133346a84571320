use Rattle.std.proofs.Common.{◌≡◌, None, replicate}
use Rattle.fm_check_walk.proofs.walk.nothing_noted.Given as goal

abbrev pub invariant-loop : goal.invariant-loop
invariant-loop l = l.risen.items ≡ replicate l.counter None
