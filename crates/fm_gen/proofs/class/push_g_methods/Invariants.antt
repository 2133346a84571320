use Rattle.std.proofs.Common.{◌≡◌, ◌++◌, map}
use Rattle.std.specs.List.{range_with_len}
use Rattle.fm_gen.specs.Made.{g_method}
use Rattle.fm_gen.proofs.class.push_g_methods.Given as goal

abbrev pub invariant-loop-j : goal.invariant-loop-j
invariant-loop-j l = l.methods.items ≡ l.initial.methods.items ++ map (g_method l.n) (range_with_len 0 l.j)
