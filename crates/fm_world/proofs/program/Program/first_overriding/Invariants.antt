use Rattle.std.proofs.Common.{◌≡◌, ℕ, ◌≤◌, List, length, reverse, take}
use Rattle.fm_world.specs.Chains.{first_found}
use Rattle.fm_world.specs.Lookups.{overriding}
use Rattle.fm_world.specs.Members.{method_at}
use Rattle.fm_world.specs.declared.declarations.DeclaredClass.{DeclaredClass}
use Rattle.fm_world.proofs.program.Program.first_overriding.Given as goal

-- what is still to be looked through has the same first one
pub record LooksOn (classes : List DeclaredClass) (method : ℕ) (chain : List ℕ) (depth : ℕ) : Type 0 where
  pub within : depth ≤ length chain
  pub same : first_found (overriding classes (method_at classes method)) (reverse (take depth chain))
      ≡ first_found (overriding classes (method_at classes method)) (reverse chain)

abbrev pub invariant-loop-depth : goal.invariant-loop-depth
invariant-loop-depth l = LooksOn l.self.outline.classes l.m.0 l.chain l.depth

abbrev pub decreases-loop-depth : goal.decreases-loop-depth
decreases-loop-depth l = l.depth
