use Rattle.std.proofs.Common.{◌≡◌, ◌-◌, ◌++◌, Some, suc}
use Rattle.fm_link_supers.specs.inner.ParentTable.{upwards_by}
use Rattle.fm_link_supers.proofs.chains.chain_of.Given as goal

abbrev pub invariant-loop : goal.invariant-loop
invariant-loop l = l.chain.items ++ upwards_by (l.end - l.counter) l.parents l.next ≡ upwards_by (suc l.end) l.parents (Some l.fn.class)
