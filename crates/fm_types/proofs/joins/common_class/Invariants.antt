use Rattle.std.proofs.Common.{◌≡◌, ℕ, ◌≤◌, List, length, reverse, take, Bool}
use Rattle.std.specs.List.{find}
use Rattle.fm_world.specs.Chains.{chain_of, is_among}
use Rattle.fm_types.proofs.joins.common_class.Given as goal

-- what is still to be looked through has the same first class that passes
pub record LooksOn (passes : ℕ → Bool) (lower : List ℕ) (depth : ℕ) : Type 0 where
  pub within : depth ≤ length lower
  pub same : find passes (reverse (take depth lower)) ≡ find passes (reverse lower)

abbrev pub invariant-loop-depth : goal.invariant-loop-depth
invariant-loop-depth l = LooksOn (λ above. is_among above (chain_of l.program.outline.classes l.d.0)) l.lower l.depth

abbrev pub decreases-loop-depth : goal.decreases-loop-depth
decreases-loop-depth l = l.depth
