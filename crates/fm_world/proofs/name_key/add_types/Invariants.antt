use Rattle.std.proofs.Common.{◌++◌, ℕ, List, take}
use Rattle.std.specs.List.{flat_map}
use Rattle.sha2.specs.Hashers.{Holds256}
use Rattle.fm_world.specs.inner.NameKeys.{type_bytes}
use Rattle.fm_world.proofs.name_key.add_types.Given as goal

-- the digest has taken the types so far
abbrev pub invariant-loop-one : goal.invariant-loop-one
invariant-loop-one l =
    (m : List ℕ) → Holds256 l.initial.digest m → Holds256 l.digest (m ++ flat_map type_bytes (take l.one-index l.types))
