use Rattle.std.proofs.Common.{◌≡◌, ℕ, ◌≤◌, List, length, reverse, take}
use Rattle.fm_world.specs.Chains.{first_found}
use Rattle.fm_world.specs.Lookups.{own_instance}
use Rattle.fm_world.specs.declared.declarations.DeclaredClass.{DeclaredClass}
use Rattle.fm_world.proofs.program.Program.nearest_above.Given as goal

-- what is still to be looked through has the same first one
pub record LooksOn (classes : List DeclaredClass) (method : ℕ) (above : List ℕ) (depth : ℕ) : Type 0 where
  pub within : depth ≤ length above
  pub same : first_found (own_instance classes method) (reverse (take depth above)) ≡ first_found (own_instance classes method) (reverse above)

abbrev pub invariant-loop-depth : goal.invariant-loop-depth
invariant-loop-depth l = LooksOn l.self.outline.classes l.m.0 l.above l.depth

abbrev pub decreases-loop-depth : goal.decreases-loop-depth
decreases-loop-depth l = l.depth
