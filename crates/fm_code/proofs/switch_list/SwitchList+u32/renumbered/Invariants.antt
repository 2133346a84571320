use Rattle.std.proofs.Common.{◌≡◌, ◌++◌, map, drop}
use Rattle.std.specs.Prelude.{slice_index}
use Rattle.fm_code.proofs.switch_list.SwitchList+u32.renumbered.Given as goal

abbrev pub invariant-loop-index : goal.invariant-loop-index
invariant-loop-index l = l.renumbered.items ++ map (slice_index l.numbers) (drop l.index-index l.values) ≡ map (slice_index l.numbers) l.values
