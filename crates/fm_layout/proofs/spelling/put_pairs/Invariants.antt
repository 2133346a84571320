use Rattle.std.proofs.Common.{◌≡◌, ◌++◌, drop}
use Rattle.fm_layout.specs.Spelling.{pair_bytes}
use Rattle.fm_layout.proofs.spelling.put_pairs.Given as goal

abbrev pub invariant-loop-index : goal.invariant-loop-index
invariant-loop-index l =
    l.out.items ++ pair_bytes l.starts l.start (drop l.index l.keys) (drop l.index l.targets) ≡ l.initial.out.items ++ pair_bytes l.starts l.start l.keys l.targets
