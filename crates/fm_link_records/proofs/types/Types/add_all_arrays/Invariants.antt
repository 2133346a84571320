use Rattle.std.proofs.Common.{◌≡◌, drop}
use Rattle.std.specs.List.{flat_map}
use Rattle.fm_world.specs.Numbers.{arrays_in}
use Rattle.fm_link_records.specs.inner.TypeNumbers.{with_types}
use Rattle.fm_link_records.proofs.types.Types.add_all_arrays.Given as goal

abbrev pub invariant-loop-one : goal.invariant-loop-one
invariant-loop-one l =
    with_types l.self.types.keys (flat_map arrays_in (drop l.one-index l.named)) ≡ with_types l.fn.self.types.keys (flat_map arrays_in l.named)
