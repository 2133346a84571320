use Rattle.std.proofs.Common.{◌≡◌, None, map, take}
use Rattle.std.specs.List.{slice_index_or}
use Rattle.fm_link_records.specs.inner.Rows.{lent_kinds}
use Rattle.fm_link_records.proofs.kinds.kinds_of_members.Given as goal

abbrev pub invariant-loop-descriptor : goal.invariant-loop-descriptor
invariant-loop-descriptor l = lent_kinds l.found.items ≡ map (λ d. slice_index_or l.kinds d None) (take l.descriptor-index l.descriptors)
