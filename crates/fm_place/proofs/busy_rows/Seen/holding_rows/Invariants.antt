use Rattle.fm_place.specs.inner.PlanRows.{AreHolding}
use Rattle.fm_place.proofs.busy_rows.Seen.holding_rows.Given as goal

abbrev pub invariant-loop-holder : goal.invariant-loop-holder
invariant-loop-holder l = AreHolding l.self l.groups.held.now l.holder l.freed l.rows.items
