use Rattle.std.proofs.Common.{◌≡◌, ◌++◌, take}
use Rattle.std.specs.List.{filter_map, flat_map}
use Rattle.fm_world.specs.Uses.{items_of}
use Rattle.fm_link_records.specs.inner.Named.{made_at}
use Rattle.fm_link_records.proofs.named.add_made.Given as goal

abbrev pub invariant-loop-method : goal.invariant-loop-method
invariant-loop-method l = l.made.items ≡ l.fn.made.items ++ filter_map (λ item. made_at l.types l.file item.insn) (flat_map items_of (take
    l.method-index l.file.class.now.methods))
