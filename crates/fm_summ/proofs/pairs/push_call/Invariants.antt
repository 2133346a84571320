use Rattle.std.proofs.Common.{◌≡◌, ◌++◌, take}
use Rattle.std.specs.List.{flat_map}
use Rattle.fm_summ.specs.inner.Passed.{target_pairs}
use Rattle.fm_summ.proofs.pairs.push_call.Given as goal

abbrev pub invariant-loop-target : goal.invariant-loop-target
invariant-loop-target l =
    l.pairs.items ≡ l.initial.pairs.items ++ flat_map (target_pairs l.shapes l.call.ends) (take l.target-index l.targets)
