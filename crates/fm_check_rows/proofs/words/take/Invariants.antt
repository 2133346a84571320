use Rattle.std.proofs.Common.{◌≡◌, ℕ, ◌≤◌, List, length, reverse, take}
use Rattle.fm_types.specs.States.{taken}
use Rattle.fm_types.specs.declared.slots.Slot.{Slot}
use Rattle.fm_world.specs.Programs.{Outline}
use Rattle.fm_check_rows.proofs.words.take.Given as goal

-- what is still to be taken leaves what all leaves of the whole stack
pub record TakesOn (o : Outline) (wanted : List Slot) (whole stack : List Slot) (left : ℕ) : Type 0 where
  pub within : left ≤ length wanted
  pub same : taken o (reverse (take left wanted)) stack ≡ taken o (reverse wanted) whole

abbrev pub invariant-loop-left : goal.invariant-loop-left
invariant-loop-left l = TakesOn l.program.outline l.wanted l.initial.stack l.stack l.left

abbrev pub decreases-loop-left : goal.decreases-loop-left
decreases-loop-left l = l.left
