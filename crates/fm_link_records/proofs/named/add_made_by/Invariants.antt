use Rattle.std.proofs.Common.{◌≡◌, ◌++◌, take}
use Rattle.std.specs.List.{filter_map}
use Rattle.fm_link_records.specs.inner.Named.{made_at}
use Rattle.fm_link_records.proofs.named.add_made_by.Given as goal

abbrev pub invariant-loop-item : goal.invariant-loop-item
invariant-loop-item l = l.made.items ≡ l.fn.made.items ++ filter_map (λ item. made_at l.types l.file item.insn) (take l.item-index l.items)
