use Rattle.std.proofs.Common.{◌≡◌, map, ◌++◌, length}
use Rattle.fm_link_names.specs.inner.NamedTypes.{type_named}
use Rattle.fm_world.specs.Descriptors.{types_in}
use Rattle.fm_link_names.proofs.descriptors.types_in.Given as goal

abbrev pub invariant-loop-first : goal.invariant-loop-first
invariant-loop-first l = map type_named l.types.items ++ types_in l.rest ≡ types_in l.descriptor

abbrev pub decreases-loop-first : goal.decreases-loop-first
decreases-loop-first l = length (types_in l.rest)
