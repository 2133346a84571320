-- The parts of the names of types, as the code puts them together.
use Rattle.std.specs.Prelude.{ℕ, ◌==◌, List, [], ◌∷◌, ◌++◌, if◌then◌else◌}
use Rattle.fm_base.specs.declared.characters.TheConstants.{BOOLEAN_LETTER, BYTE_LETTER, CHAR_LETTER, CLASS_LETTER, INT_LETTER, LONG_LETTER, SEMICOLON, SHORT_LETTER}
use Rattle.fm_base.specs.declared.kinds.Base.{Base}
use Rattle.fm_base.specs.declared.kinds.Base.TheVariants as base
use Rattle.fm_base.specs.declared.kinds.TypeRef.{TypeRef}
use Rattle.fm_frames.specs.NativeRows.{base_text, plain_name}
use Rattle.fm_world.specs.Programs.{Outline}

-- the letter of a type (JVMS 4.3.2)
abbrev pub letter_of : Base → ℕ
letter_of base.Boolean = BOOLEAN_LETTER
letter_of base.Byte = BYTE_LETTER
letter_of base.Char = CHAR_LETTER
letter_of base.Short = SHORT_LETTER
letter_of base.Int = INT_LETTER
letter_of base.Long = LONG_LETTER
letter_of (base.OfClass class) = CLASS_LETTER

-- the name of a class as it is written in a descriptor
abbrev pub class_text : (name : List ℕ) → List ℕ
class_text name = CLASS_LETTER ∷ (name ++ SEMICOLON ∷ [])

-- the name of what is no array, or of the elements of an array as it is written in a descriptor
abbrev pub base_name : Outline → TypeRef → List ℕ
base_name o t = if t.dims == 0 then plain_name o t.base else base_text o t.base
