use Rattle.std.proofs.Common.{◌≡◌, take}
use Rattle.fm_conn.specs.inner.PairLists.{with_classes}
use Rattle.fm_conn.proofs.own_classes.with_classes.Given as goal

abbrev pub invariant-loop-end : goal.invariant-loop-end
invariant-loop-end l = l.all.items ≡ with_classes l.least (take l.end-index l.ends)
