use Rattle.std.proofs.Common.{◌≡◌, ℕ, ◌<◌, length}
use Rattle.fm_rewrite.specs.Plans.{planned_at}
use Rattle.fm_audit.specs.NewCodes.{new_free_of, new_items_of, StaysAt}
use Rattle.fm_audit.specs.SafeMethods.{failing_at, IsSafelyJudgedAt}
use Rattle.fm_audit.proofs.methods.all_judged.Given as goal

abbrev pub invariant-loop-number : goal.invariant-loop-number
invariant-loop-number l =
    (length l.failing.items ≡ l.number)
    × (length l.planned.items ≡ l.number)
    × ((k : ℕ) → k < l.number
    → IsSafelyJudgedAt l.fn.program l.fn.summaries k (new_free_of l.fn.program l.fn.new k) (new_items_of l.fn.program l.fn.new k)
    (failing_at l.failing.items k) (planned_at l.planned.items k)
    × StaysAt l.fn.program k (new_items_of l.fn.program l.fn.new k) (planned_at l.planned.items k))
