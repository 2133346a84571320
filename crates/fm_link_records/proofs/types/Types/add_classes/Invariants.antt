use Rattle.std.proofs.Common.{◌≡◌, ◌-◌, map}
use Rattle.std.specs.List.{range_with_len}
use Rattle.fm_world.specs.Numbers.{type_of_class}
use Rattle.fm_link_records.specs.inner.TypeNumbers.{with_types}
use Rattle.fm_link_records.proofs.types.Types.add_classes.Given as goal

abbrev pub invariant-loop-class : goal.invariant-loop-class
invariant-loop-class l =
    with_types l.self.types.keys (map type_of_class (range_with_len l.class (l.count - l.class)))
    ≡ with_types l.fn.self.types.keys (map type_of_class (range_with_len 0 l.count))
