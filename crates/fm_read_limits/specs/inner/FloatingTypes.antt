-- How descriptors are searched for the types float and double.
use Rattle.std.specs.Prelude.{◌≡◌, ℕ, ◌-◌, ◌==◌, ◌||◌, ◌&&◌, not, Bool, false, List, [], ◌∷◌, length, slice_index, if◌then◌else◌}
use Rattle.fm_base.specs.declared.characters.TheConstants.{FLOAT_LETTER, DOUBLE_LETTER, CLASS_LETTER, SEMICOLON}
use Rattle.std.specs.List.{slice_index_or}
use Rattle.fm_code.specs.ConstantPool.{entry_at}
use Rattle.fm_code.specs.declared.constant_pool.Entry.{Entry}
use Rattle.fm_code.specs.declared.constant_pool.Entry.TheVariants as entry

abbrev pub is_floating_letter : ℕ → Bool
is_floating_letter c = (c == FLOAT_LETTER) || (c == DOUBLE_LETTER)

-- the last character, and 0 where there is none
abbrev pub last_character : List ℕ → ℕ
last_character bytes = slice_index bytes (length bytes - 1)

-- whether the next character is in a class's name, which goes from L to ;
abbrev pub is_in_class_after : Bool → ℕ → Bool
is_in_class_after in_class c = if in_class then not (c == SEMICOLON) else c == CLASS_LETTER

-- whether F or D occurs outside of the names of classes; the flag: whether a name has begun
abbrev pub has_floating : Bool → List ℕ → Bool
has_floating in_class [] = false
has_floating in_class (c ∷ rest) = (not in_class && is_floating_letter c) || has_floating (is_in_class_after in_class c) rest

-- whether a text of a pool has F or D outside of the names of classes
abbrev pub mark_of : Entry → Bool
mark_of (entry.Utf8 text) = has_floating false text
mark_of e = false

-- for each index whether the text there has
abbrev pub AreMarks : List Entry → List Bool → Type 0
AreMarks entries marks = (index : ℕ) → slice_index_or marks index false ≡ mark_of (entry_at entries index)
