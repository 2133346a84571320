use Rattle.std.proofs.Common.{◌≡◌}
use Rattle.std.specs.List.{flat_map, range_with_len}
use Rattle.fm_summ.specs.inner.BuiltIns.{parameter_end}
use Rattle.fm_summ.proofs.built_ins.parameter_ends.Given as goal

abbrev pub invariant-loop-index : goal.invariant-loop-index
invariant-loop-index l =
    l.ends.items ≡ flat_map (parameter_end l.words) (range_with_len 0 l.index)
