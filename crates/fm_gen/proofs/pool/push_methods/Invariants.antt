use Rattle.std.proofs.Common.{◌≡◌, ◌++◌}
use Rattle.std.specs.List.{flat_map, range_with_len}
use Rattle.fm_gen.specs.Made.{method_entries}
use Rattle.fm_gen.proofs.pool.push_methods.Given as goal

abbrev pub invariant-loop-number : goal.invariant-loop-number
invariant-loop-number l =
    l.entries.items ≡ l.initial.entries.items ++ flat_map (method_entries l.letter l.descriptor l.first) (range_with_len 0 l.number)
