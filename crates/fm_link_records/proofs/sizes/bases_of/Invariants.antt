use Rattle.std.proofs.Common.{◌≡◌, map}
use Rattle.std.specs.List.{range_with_len}
use Rattle.fm_link_records.specs.inner.Sizes.{base_of}
use Rattle.fm_link_records.proofs.sizes.bases_of.Given as goal

abbrev pub invariant-loop-place : goal.invariant-loop-place
invariant-loop-place l = l.bases.items ≡ map (base_of l.classes) (range_with_len 0 l.place)
