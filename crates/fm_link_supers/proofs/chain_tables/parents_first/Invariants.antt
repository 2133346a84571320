use Rattle.std.proofs.Common.{◌≡◌, ◌++◌, drop}
use Rattle.std.specs.List.{flat_map}
use Rattle.fm_link_supers.specs.inner.ListTables.{lists}
use Rattle.fm_link_supers.proofs.chain_tables.parents_first.Given as goal

abbrev pub invariant-loop-chain : goal.invariant-loop-chain
invariant-loop-chain l = l.classes.items ++ flat_map (λ chain. chain) (lists (drop l.chain-index l.chains)) ≡ flat_map (λ chain. chain) (lists l.chains)
