use Rattle.std.proofs.Common.{◌≡◌, drop}
use Rattle.fm_conn.specs.inner.ListedEnds.{first_with}
use Rattle.fm_conn.proofs.listed_ends.first_with.Given as goal

abbrev pub invariant-loop-entry : goal.invariant-loop-entry
invariant-loop-entry l = first_with (drop l.entry-index l.found) l.number l.otherwise ≡ first_with l.found l.number l.otherwise
