use Rattle.std.proofs.Common.{◌≡◌, ◌-◌, map}
use Rattle.std.specs.List.{range_with_len}
use Rattle.fm_world.specs.Numbers.{arrays_in}
use Rattle.fm_link_records.specs.inner.TypeNumbers.{with_types}
use Rattle.fm_link_records.proofs.types.Types.add_arrays.Given as goal

abbrev pub invariant-loop-fewer : goal.invariant-loop-fewer
invariant-loop-fewer l =
    with_types l.self.types.keys (map (λ fewer. record { dims = l.named.dims - fewer; base = l.named.base }) (range_with_len l.fewer (l.named.dims
    - l.fewer)))
    ≡ with_types l.fn.self.types.keys (arrays_in l.named)
