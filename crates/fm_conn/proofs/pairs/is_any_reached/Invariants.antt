use Rattle.std.proofs.Common.{◌≡◌, ◌-◌}
use Rattle.std.specs.List.{list_any, range_with_len}
use Rattle.fm_base.specs.Rows.{has}
use Rattle.fm_conn.proofs.pairs.is_any_reached.Given as goal

abbrev pub invariant-loop-item : goal.invariant-loop-item
invariant-loop-item l =
    list_any (λ j. has l.flow.reached j) (range_with_len l.item (l.end - l.item)) ≡ list_any (λ j. has l.flow.reached j) (range_with_len l.start (l.end - l.start))
