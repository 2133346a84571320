use Rattle.std.proofs.Common.{◌≡◌, [], ◌∷◌, ◌++◌, drop}
use Rattle.std.specs.List.{flat_map, slice_index_or}
use Rattle.fm_link_supers.specs.inner.ListTables.{lists}
use Rattle.fm_link_supers.proofs.interfaces.above_of.Given as goal

abbrev pub invariant-loop-interface : goal.invariant-loop-interface
invariant-loop-interface l =
    l.met.items ++ flat_map (λ i. i ∷ slice_index_or (lists l.above) i []) (drop l.interface-index l.interfaces)
    ≡ flat_map (λ i. i ∷ slice_index_or (lists l.above) i []) l.interfaces
