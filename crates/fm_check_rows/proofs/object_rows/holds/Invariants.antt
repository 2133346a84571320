use Rattle.std.proofs.Common.{◌≡◌, ◌-◌, ◌≤◌, ℕ, List, Option, length, drop}
use Rattle.std.specs.List.{list_any}
use Rattle.fm_check_rows.specs.Outcomes.{marks}
use Rattle.fm_types.specs.declared.slots.Slot.{Slot}
use Rattle.fm_check_rows.proofs.object_rows.holds.Given as goal

-- the rest of the stack decides
pub record Decides (mark : Option ℕ) (stack : List Slot) (depth : ℕ) : Type 0 where
  pub within : depth ≤ length stack
  pub same : list_any (marks mark) (drop depth stack) ≡ list_any (marks mark) stack

abbrev pub invariant-loop-depth : goal.invariant-loop-depth
invariant-loop-depth l = Decides l.mark l.stack l.depth

abbrev pub decreases-loop-depth : goal.decreases-loop-depth
decreases-loop-depth l = l.size - l.depth
