use Rattle.std.proofs.Common.{◌≡◌, take}
use Rattle.fm_link_records.proofs.classes.lists_of.Given as goal
use Rattle.fm_link_supers.specs.inner.ListTables.{lists}

abbrev pub invariant-loop-list : goal.invariant-loop-list
invariant-loop-list l = l.copies.items ≡ lists (take l.list-index l.vectors)
