use Rattle.std.proofs.Common.{◌≡◌, ◌++◌, drop}
use Rattle.std.specs.List.{flat_map}
use Rattle.fm_layout.specs.Spelling.{jump_bytes}
use Rattle.fm_layout.proofs.spelling.put_jumps.Given as goal

abbrev pub invariant-loop-target : goal.invariant-loop-target
invariant-loop-target l =
    l.out.items ++ flat_map (jump_bytes l.starts l.start) (drop l.target-index l.targets) ≡ l.initial.out.items ++ flat_map (jump_bytes l.starts l.start) l.targets
