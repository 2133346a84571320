use Rattle.std.proofs.Common.{◌≡◌, map, take}
use Rattle.fm_link_records.specs.inner.Sizes.{size_along}
use Rattle.fm_link_records.proofs.sizes.sizes_along.Given as goal
use Rattle.fm_link_supers.specs.inner.ListTables.{lists}

abbrev pub invariant-loop-chain : goal.invariant-loop-chain
invariant-loop-chain l = l.sizes.items ≡ map (size_along l.own) (lists (take l.chain-index l.chains))
