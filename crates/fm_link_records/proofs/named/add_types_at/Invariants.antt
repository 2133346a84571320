use Rattle.std.proofs.Common.{◌≡◌, ◌++◌, take}
use Rattle.std.specs.List.{filter_map}
use Rattle.fm_link_records.specs.inner.Named.{type_at}
use Rattle.fm_link_records.proofs.named.add_types_at.Given as goal

abbrev pub invariant-loop-index : goal.invariant-loop-index
invariant-loop-index l = l.named.items ≡ l.fn.named.items ++ filter_map (type_at l.types l.file) (take l.index-index l.indices)
