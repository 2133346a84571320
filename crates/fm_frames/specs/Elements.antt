-- How values lie in the elements of objects and arrays, and how many elements a word holds.
use Rattle.std.specs.Prelude.{ℕ, ◌==◌, ◌||◌, Bool, pos, if◌then◌else◌}
use Rattle.fm_alu.specs.TwosComplement.{low_bits, signed}
use Rattle.fm_base.specs.declared.kinds.Base.{Base}
use Rattle.fm_base.specs.declared.kinds.Base.TheVariants as base
use Rattle.fm_base.specs.declared.kinds.Kind.{Kind}
use Rattle.fm_base.specs.declared.kinds.Kind.TheVariants as kind
use Rattle.fm_base.specs.declared.kinds.TypeRef.{TypeRef}
use Rattle.fm_types.specs.Named.{built_in_type}
use Rattle.fm_world.specs.BuiltIns.{class_literal_name, string_name}
use Rattle.fm_world.specs.Chains.{same_type}
use Rattle.fm_world.specs.Programs.{Outline}
use Rattle.fm_frames.specs.States.{ref}
use Rattle.fm_frames.specs.declared.values.Value.{Value}
use Rattle.fm_frames.specs.declared.values.Value.TheVariants as value

-- ---- numbers as they are kept: booleans by one bit, bytes by 8, chars and shorts by 16, ints by 32 and longs by 64 (JVMS 2.3, 6.5.bastore)

-- the number of bits that are kept of a number of this kind
abbrev pub int_bits : Kind → ℕ
int_bits kind.Boolean = 1
int_bits kind.Byte = 8
int_bits kind.Char = 16
int_bits kind.Short = 16
int_bits kind.Int = 32
int_bits kind.Long = 64
int_bits (kind.Ref t) = 32

-- the element that keeps a value; a reference is kept by its cell
abbrev pub kept : Kind → Value → ℕ
kept k value.Top = 0
kept k (value.Int n) = low_bits (int_bits k) n
kept k (value.Long n) = low_bits (int_bits k) n
kept k (value.Ref cell) = cell.0

-- the value that an element keeps
unfoldable pub read : Kind → ℕ → Value
read kind.Boolean n = value.Int (pos n)
read kind.Byte n = value.Int (signed 8 (pos n))
read kind.Char n = value.Int (pos n)
read kind.Short n = value.Int (signed 16 (pos n))
read kind.Int n = value.Int (signed 32 (pos n))
read kind.Long n = value.Long (signed 64 (pos n))
read (kind.Ref t) n = ref n

-- a value as a field of the kind has it
abbrev pub cut : Kind → Value → Value
cut k v = read k (kept k v)

-- what a field of the kind holds at first (JVMS 2.3, 2.4)
abbrev pub first_of : Kind → Value
first_of k = read k 0

-- ---- elements in a word

-- of an array of numbers
abbrev pub pack_of_base : Base → ℕ
pack_of_base base.Boolean = 8
pack_of_base base.Byte = 8
pack_of_base base.Char = 4
pack_of_base base.Short = 4
pack_of_base base.Int = 2
pack_of_base base.Long = 1
pack_of_base (base.OfClass class) = 1

-- whether a type is String
abbrev pub is_string_type : Outline → TypeRef → Bool
is_string_type o t = same_type (built_in_type o string_name) t

-- whether objects of a type are kept as units, which are chars: those of String, and those of Class, whose units are the name of a type
abbrev pub is_text_type : Outline → TypeRef → Bool
is_text_type o t = is_string_type o t || same_type (built_in_type o class_literal_name) t

-- the type of arrays of chars
abbrev pub chars_type : TypeRef
chars_type = record { dims = 1; base = base.Char }

-- whether the elements of objects of a type are seen as units: those of texts and of arrays of chars
abbrev pub shows_units : Outline → TypeRef → Bool
shows_units o t = is_text_type o t || same_type chars_type t

-- of an object of the type: texts have four units in a word, objects and arrays of references one element
abbrev pub pack_of : Outline → TypeRef → ℕ
pack_of o t = if t.dims == 1 then pack_of_base t.base else (if is_text_type o t then 4 else 1)
