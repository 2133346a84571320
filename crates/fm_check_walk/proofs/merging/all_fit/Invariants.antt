use Rattle.std.proofs.Common.{◌≡◌, ◌-◌, ◌≤◌, ℕ, List, length, drop}
use Rattle.fm_types.specs.States.{all_fit}
use Rattle.fm_types.specs.declared.slots.Slot.{Slot}
use Rattle.fm_world.specs.Programs.{Outline}
use Rattle.fm_check_walk.proofs.merging.all_fit.Given as goal

-- the rest of both decides
pub record Decides (o : Outline) (slots others : List Slot) (index : ℕ) : Type 0 where
  pub within : index ≤ length slots
  pub same : all_fit o (drop index slots) (drop index others) ≡ all_fit o slots others

abbrev pub invariant-loop-index : goal.invariant-loop-index
invariant-loop-index l = Decides l.program.outline l.slots l.others l.index

abbrev pub decreases-loop-index : goal.decreases-loop-index
decreases-loop-index l = l.size - l.index
