use Rattle.std.proofs.Common.{◌≡◌, map}
use Rattle.fm_link_supers.specs.inner.ListTables.{lists}
use Rattle.fm_link_supers.specs.inner.ParentTable.{chain_by}
use Rattle.fm_world.specs.inner.Tables.{numbers_below}
use Rattle.fm_link_supers.proofs.chain_tables.chains_of.Given as goal

abbrev pub invariant-loop-class : goal.invariant-loop-class
invariant-loop-class l = lists l.chains.items ≡ map (chain_by l.parents) (numbers_below l.class)
