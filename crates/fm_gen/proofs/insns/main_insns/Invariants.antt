use Rattle.std.proofs.Common.{◌≡◌, ◌+◌, ◌*◌, map}
use Rattle.std.specs.List.{range_with_len}
use Rattle.fm_gen.specs.Made.{call}
use Rattle.fm_gen.proofs.insns.main_insns.Given as goal

abbrev pub invariant-loop-j : goal.invariant-loop-j
invariant-loop-j l = l.insns.items ≡ map (λ j. call (100 * l.n + j)) (range_with_len 0 l.j)
