use Rattle.std.proofs.Common.{◌≡◌, ◌-◌, ◌≤◌, List, length, drop, ℕ}
use Rattle.fm_types.specs.States.{is_whole}
use Rattle.fm_types.specs.declared.slots.Slot.{Slot}
use Rattle.fm_check_rows.proofs.moves.is_whole.Given as goal

-- the rest of the stack decides
pub record Decides (stack : List Slot) (depth : ℕ) : Type 0 where
  pub within : depth ≤ length stack
  pub same : is_whole (drop depth stack) ≡ is_whole stack

abbrev pub invariant-loop-depth : goal.invariant-loop-depth
invariant-loop-depth l = Decides l.stack l.depth

abbrev pub decreases-loop-depth : goal.decreases-loop-depth
decreases-loop-depth l = l.size - l.depth
