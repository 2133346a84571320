use Rattle.std.proofs.Common.{◌≡◌, ◌++◌, map}
use Rattle.std.specs.List.{range_with_len}
use Rattle.fm_gen.specs.Made.{f_method}
use Rattle.fm_gen.proofs.class.push_f_methods.Given as goal

abbrev pub invariant-loop-i : goal.invariant-loop-i
invariant-loop-i l = l.methods.items ≡ l.initial.methods.items ++ map f_method (range_with_len 0 l.i)
