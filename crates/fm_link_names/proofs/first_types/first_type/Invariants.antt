use Rattle.std.proofs.Common.{◌≡◌, ◌+◌, ◌≤◌, length, None}
use Rattle.fm_world.specs.Descriptors.{types_from, types_in}
use Rattle.fm_link_names.proofs.first_types.first_type.Given as goal

abbrev pub invariant-loop-first : goal.invariant-loop-first
invariant-loop-first l = (types_in l.descriptor ≡ types_from l.dimensions None l.rest) × (l.dimensions + length l.rest ≤ l.bound)

abbrev pub decreases-loop-first : goal.decreases-loop-first
decreases-loop-first l = length l.rest
