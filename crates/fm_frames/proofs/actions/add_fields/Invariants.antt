use Rattle.std.proofs.Common.{◌≡◌, ◌++◌, map}
use Rattle.std.specs.List.{flat_map, range_with_len}
use Rattle.fm_frames.proofs.actions.add_fields.Given as goal
use Rattle.fm_frames.specs.inner.StartActions.{action_of, constant_at}

abbrev pub invariant-loop-place : goal.invariant-loop-place
invariant-loop-place l =
    map action_of l.actions.items ≡ map action_of l.fn.actions.items ++ flat_map (constant_at l.program.outline) (range_with_len l.first l.place)
