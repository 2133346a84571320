-- What descriptors declare, by the numbers of their texts.
use Rattle.std.specs.Prelude.{ℕ, ◌<◌, Bool, true, false, List, [], length, Option, Some, None}
use Rattle.std.specs.List.{slice_index_or}
use Rattle.fm_link_names.specs.declared.descriptors.Kinds.{Kinds}
use Rattle.fm_link_names.specs.inner.DescriptorTypes.{DeclaresKinds, HaveFewDimensions}
use Rattle.fm_world.specs.Descriptors.{types_in}
use Rattle.fm_world.specs.declared.declarations.DeclaredClass.{DeclaredClass}

-- what is kept of a descriptor, where it is wanted: what it declares, if no type in it has too many dimensions
abbrev pub IsKinds : List DeclaredClass → List ℕ → Bool → Option Kinds → Type 0
IsKinds classes descriptor false kept = Unit {0}
IsKinds classes descriptor true None = ⊥
IsKinds classes descriptor true (Some kinds) = HaveFewDimensions (types_in descriptor) → DeclaresKinds classes descriptor kinds

-- the same of each text that has a mark, as far as kinds are kept
abbrev pub AreKinds : List DeclaredClass → List (List ℕ) → List Bool → List (Option Kinds) → Type 0
AreKinds classes texts marks kinds =
    (n : ℕ) → n < length kinds → IsKinds classes (slice_index_or texts n []) (slice_index_or marks n false) (slice_index_or kinds n None)
