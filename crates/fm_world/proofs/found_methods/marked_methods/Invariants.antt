use Rattle.std.proofs.Common.{◌≡◌, false, map, filter}
use Rattle.std.specs.List.{range_with_len, slice_index_or}
use Rattle.fm_base.specs.declared.ids.MethodId.{MethodId}
use Rattle.fm_world.proofs.found_methods.marked_methods.Given as goal

-- the marked ones so far
abbrev pub invariant-loop-method : goal.invariant-loop-method
invariant-loop-method l = map (λ (m : MethodId). m.0) l.found.items
    ≡ filter (λ method. slice_index_or l.marks method false) (range_with_len 0 l.method)
