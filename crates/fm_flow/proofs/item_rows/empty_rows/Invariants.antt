use Rattle.std.proofs.Common.{◌≡◌, false, replicate}
use Rattle.fm_flow.proofs.item_rows.empty_rows.Given as goal

abbrev pub invariant-loop : goal.invariant-loop
invariant-loop l = l.rows.items ≡ replicate l.counter (replicate l.bits false)
