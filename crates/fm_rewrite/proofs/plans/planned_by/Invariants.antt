use Rattle.std.proofs.Common.{◌≡◌, ℕ, ◌<◌, length}
use Rattle.fm_rewrite.specs.Plans.{IsPlanned, planned_at}
use Rattle.fm_rewrite.proofs.plans.planned_by.Given as goal

abbrev pub invariant-loop-number : goal.invariant-loop-number
invariant-loop-number l =
    (length l.planned.items ≡ l.number) × ((k : ℕ) → k < l.number → IsPlanned l.fn.program l.fn.summaries k l.fn.chains (planned_at l.planned.items k))
