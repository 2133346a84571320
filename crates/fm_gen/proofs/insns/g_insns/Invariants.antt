use Rattle.std.proofs.Common.{◌≡◌, ◌+◌, ◌*◌}
use Rattle.std.specs.List.{flat_map, range_with_len}
use Rattle.fm_gen.specs.Made.{tried}
use Rattle.fm_gen.proofs.insns.g_insns.Given as goal

abbrev pub invariant-loop-k : goal.invariant-loop-k
invariant-loop-k l = l.insns.items ≡ flat_map (λ k. tried (100 * l.j + k)) (range_with_len 0 l.k)
