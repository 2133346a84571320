use Rattle.std.proofs.Common.{◌≡◌}
use Rattle.std.specs.List.{flat_map, range_with_len}
use Rattle.fm_conn.specs.inner.PairLists.{parameter_entry}
use Rattle.fm_conn.proofs.own_classes.references_of.Given as goal

abbrev pub invariant-loop-k : goal.invariant-loop-k
invariant-loop-k l = l.ends.items ≡ flat_map (parameter_entry l.least l.locals) (range_with_len 0 l.k)
