-- Sizes of objects by a table of what each class gives to its objects.
use Rattle.std.specs.Prelude.{ℕ, ◌+◌, List, slice_index, sum_by}
use Rattle.fm_world.specs.Chains.{class_at, superclasses_of}
use Rattle.fm_world.specs.Members.{hidden_fields, size_among}
use Rattle.fm_world.specs.declared.declarations.DeclaredClass.{DeclaredClass}

-- the sum of the sizes of some classes
abbrev pub size_along : List ℕ → List ℕ → ℕ
size_along own chain = sum_by (slice_index own) chain

-- the place of a class's first own field: after those of its superclasses and the hidden one
abbrev pub base_of : List DeclaredClass → ℕ → ℕ
base_of classes class = size_among classes (superclasses_of classes class) + hidden_fields (class_at classes class)
