-- The values that kinds and bits give side by side.
use Rattle.std.specs.Prelude.{ℕ, ◌%◌, ◌^◌, List, [], ◌∷◌}
use Rattle.std.specs.Int.{w32, w64, cast_signed}
use Rattle.fm_frames.specs.declared.value_list.ValueKind.{ValueKind}
use Rattle.fm_frames.specs.declared.value_list.ValueKind.TheVariants as kind
use Rattle.fm_frames.specs.declared.values.Value.{Value}
use Rattle.fm_frames.specs.declared.values.Value.TheVariants as value

-- the kind of a value
abbrev pub kind_of : Value → ValueKind
kind_of value.Top = kind.Top
kind_of (value.Int n) = kind.Int
kind_of (value.Long n) = kind.Long
kind_of (value.Ref cell) = kind.Ref

-- the value of a kind that bits are; an int and a reference are the low 32 bits
unfoldable pub value_in : ValueKind → ℕ → Value
value_in kind.Top bits = value.Top
value_in kind.Int bits = value.Int (cast_signed w32 (bits % 2 ^ 32))
value_in kind.Long bits = value.Long (cast_signed w64 bits)
value_in kind.Ref bits = value.Ref (record { 0 = bits % 2 ^ 32 })

-- the values of kinds, each of the bits at the same place
abbrev pub values_in : List ValueKind → List ℕ → List Value
values_in [] bits = []
values_in (k ∷ kinds) [] = []
values_in (k ∷ kinds) (b ∷ bits) = value_in k b ∷ values_in kinds bits
