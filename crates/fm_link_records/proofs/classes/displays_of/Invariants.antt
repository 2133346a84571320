use Rattle.std.proofs.Common.{◌≡◌, map, reverse, take}
use Rattle.fm_link_records.proofs.classes.displays_of.Given as goal
use Rattle.fm_link_supers.specs.inner.ListTables.{lists}

abbrev pub invariant-loop-chain : goal.invariant-loop-chain
invariant-loop-chain l = l.displays.items ≡ map reverse (lists (take l.chain-index l.chains))
