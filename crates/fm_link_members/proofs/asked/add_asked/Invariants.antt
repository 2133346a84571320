use Rattle.std.proofs.Common.{◌≡◌, ◌++◌}
use Rattle.std.specs.List.{filter_map, range_with_len}
use Rattle.fm_link_members.specs.inner.Asked.{asked_at}
use Rattle.fm_link_members.proofs.asked.add_asked.Given as goal

abbrev pub invariant-loop-index : goal.invariant-loop-index
invariant-loop-index l = l.asked.items ≡ l.initial.asked.items ++ filter_map (asked_at l.by_text l.file) (range_with_len 0 l.index)
