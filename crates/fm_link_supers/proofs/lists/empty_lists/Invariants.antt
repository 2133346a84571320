use Rattle.std.proofs.Common.{◌≡◌, [], replicate}
use Rattle.fm_link_supers.specs.inner.ListTables.{lists}
use Rattle.fm_link_supers.proofs.lists.empty_lists.Given as goal

abbrev pub invariant-loop : goal.invariant-loop
invariant-loop l = lists l.made.items ≡ replicate l.counter []
