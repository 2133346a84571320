use Rattle.std.proofs.Common.{◌≡◌, take}
use Rattle.fm_conn.specs.inner.ListedEnds.{numbered}
use Rattle.fm_conn.proofs.listed_ends.numbered.Given as goal

abbrev pub invariant-loop-end : goal.invariant-loop-end
invariant-loop-end l = l.found.items ≡ numbered l.entries (take l.end-index l.ends)
