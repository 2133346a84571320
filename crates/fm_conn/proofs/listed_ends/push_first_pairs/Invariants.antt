use Rattle.std.proofs.Common.{◌≡◌, ◌++◌, take}
use Rattle.fm_conn.specs.inner.ListedEnds.{first_pairs}
use Rattle.fm_conn.proofs.listed_ends.push_first_pairs.Given as goal

abbrev pub invariant-loop-entry : goal.invariant-loop-entry
invariant-loop-entry l =
    l.pairs.items ≡ l.initial.pairs.items ++ first_pairs l.found (take l.entry-index l.found)
