use Rattle.std.proofs.Common.{◌≡◌, false, filter}
use Rattle.std.specs.List.{range_with_len, slice_index_or}
use Rattle.fm_link_records.proofs.named.marked_places.Given as goal

abbrev pub invariant-loop-place : goal.invariant-loop-place
invariant-loop-place l = l.places.items ≡ filter (λ k. slice_index_or l.marks k false) (range_with_len 0 l.place)
