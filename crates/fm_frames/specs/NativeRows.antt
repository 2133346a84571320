-- The rows of the built-in methods (the Java SE library's classes, as far as they are built in).
use Rattle.std.specs.Prelude.{ℕ, ◌+◌, ◌-◌, ◌==◌, ◌&&◌, ◌||◌, ℤ, pos, negsuc, ◌+ℤ◌, ◌-ℤ◌, ◌*ℤ◌, int_lt, not, Bool, true, false, List, [], ◌∷◌, ◌++◌, codes, length, map, replicate, take, drop, Option, Some, None, unsigned_abs, if◌then◌else◌}
use Rattle.std.specs.Fmt.{digits, signed_decimal}
use Rattle.std.specs.List.{slice_index_or}
use Rattle.std.specs.Str.{bytes_eq}
use Rattle.fm_alu.specs.TwosComplement.{low_bits, signed}
use Rattle.fm_base.specs.Texts.{units, utf8}
use Rattle.fm_base.specs.declared.characters.TheConstants.{CLASS_LETTER, DOT, LEFT_BRACKET, LINE_FEED, SEMICOLON, SLASH}
use Rattle.fm_base.specs.declared.kinds.Base.{Base}
use Rattle.fm_base.specs.declared.kinds.Base.TheVariants as base
use Rattle.fm_base.specs.declared.kinds.Kind.{Kind}
use Rattle.fm_base.specs.declared.kinds.Kind.TheVariants as kind
use Rattle.fm_base.specs.declared.kinds.TypeRef.{TypeRef}
use Rattle.fm_types.specs.Fits.{fits_type}
use Rattle.fm_types.specs.Named.{built_in_type, throwable_type}
use Rattle.fm_world.specs.BuiltIns.{cloneable_name, class_literal_name, string_name}
use Rattle.fm_world.specs.Chains.{class_at, is_sub}
use Rattle.fm_world.specs.Programs.{Outline}
use Rattle.fm_frames.specs.Effects.{Effect, giving_literal, Plain, OfOperand, OfPlace, OfMade, SameOperands, Action, Make, Put, Free, SetChain, FreeChain, Copy, Exits, words, acting, making, printing, going, stuck, int_word}
use Rattle.fm_frames.specs.Elements.{is_text_type}
use Rattle.fm_frames.specs.Natives.{AnObject, AShown, Given, has_receiver, native_type, SomeChars}
use Rattle.fm_frames.specs.declared.natives.Shown.{Shown}
use Rattle.fm_frames.specs.declared.natives.Native.{Native}
use Rattle.fm_frames.specs.declared.natives.Native.TheVariants.{ObjectInit, ObjectHashCode, ObjectEquals, ObjectToString, ObjectClone, ObjectGetClass, StringLength, CharAt, StringEquals, StringHashCode, CompareTo, StringToString, Substring, ValueOf, ValueOfChars, BuilderInit, Append, BuilderLength, BuilderToString, BuilderCharAt, BuilderSetLength, BufferInitOf, Exit, Print, Println, PrintlnNothing, Read, ThrowableInit, ThrowableInitOf, GetMessage, ThrowableToString, FreeMeFree, FreeMeLink, FreeMeFreeChain, ClassGetName}
use Rattle.fm_frames.specs.Literals.{class_literal}
use Rattle.fm_frames.specs.declared.natives.Shown.TheVariants.{Int as ShownInt, Long as ShownLong, Char as ShownChar, Boolean as ShownBoolean, Text as ShownText}
use Rattle.fm_frames.specs.Operands.{on_any, on_class, on_chars, on_held, on_inner, on_int, on_long, on_object, on_passing, on_text, on_text_or_null, thrown}
use Rattle.fm_frames.specs.Sights.{Sight, Looks}
use Rattle.fm_frames.specs.States.{null}
use Rattle.fm_world.specs.Numbers.{type_number}

-- ---- texts

-- the type of texts, String
abbrev pub text_type : Outline → TypeRef
text_type o = built_in_type o string_name

-- the type of class literals, Class
abbrev pub class_type : Outline → TypeRef
class_type o = built_in_type o class_literal_name

-- a new text of these units
abbrev pub text_made : Outline → List ℕ → Action
text_made o units = Make (text_type o) (length units) units

-- a reference to a text, as a field
abbrev pub text_kind : Outline → Kind
text_kind o = kind.Ref (text_type o)

-- the name with a dot for each slash
abbrev pub dotted : List ℕ → List ℕ
dotted name = map (λ c. if c == SLASH then DOT else c) name

-- the letter of a type, or the name of a class between an L and a semicolon, as in a descriptor (JVMS 4.3.2)
abbrev pub base_text : Outline → Base → List ℕ
base_text o base.Boolean = codes "Z"
base_text o base.Byte = codes "B"
base_text o base.Char = codes "C"
base_text o base.Short = codes "S"
base_text o base.Int = codes "I"
base_text o base.Long = codes "J"
base_text o (base.OfClass class) = CLASS_LETTER ∷ ((class_at o.classes class.0).name ++ SEMICOLON ∷ [])

-- only the name of a class
abbrev pub plain_name : Outline → Base → List ℕ
plain_name o (base.OfClass class) = (class_at o.classes class.0).name
plain_name o b = base_text o b

-- the name of a type, of an array its descriptor, in the bytes of class files (JVMS 4.4.7)
abbrev pub spelled_type : Outline → TypeRef → List ℕ
spelled_type o t = dotted (if t.dims == 0 then plain_name o t.base else (replicate t.dims LEFT_BRACKET ++ base_text o t.base))

-- the same as the units of a text
abbrev pub type_name : Outline → TypeRef → List ℕ
type_name o t = units (spelled_type o t)

-- the words of what is appended, printed or given as a text
abbrev pub shown_words : Shown → ℕ
shown_words ShownInt = 1
shown_words ShownLong = 2
shown_words ShownChar = 1
shown_words ShownBoolean = 1
shown_words ShownText = 1

-- the number of the words of a value
abbrev pub given_words : Given → ℕ
given_words (AShown shown) = shown_words shown
given_words SomeChars = 1
given_words AnObject = 1

-- of all arguments
abbrev pub arguments_words : List Given → ℕ
arguments_words [] = 0
arguments_words (argument ∷ []) = given_words argument
arguments_words (argument ∷ next ∷ arguments) = given_words argument + arguments_words (next ∷ arguments)

-- the words that a row takes, with the receiver
abbrev pub native_words : Native → ℕ
native_words row =
    if has_receiver row then arguments_words (native_type row).arguments + 1 else arguments_words (native_type row).arguments

-- its units: a char by its lowest 16 bits, each boolean but 0 as true
abbrev pub on_shown : Outline → Shown → List Sight → (List ℕ → Effect) → Effect
on_shown o ShownInt s follows = on_int s 0 (λ n. follows (signed_decimal n))
on_shown o ShownLong s follows = on_long s 1 (λ n. follows (signed_decimal n))
on_shown o ShownChar s follows = on_int s 0 (λ n. follows (low_bits 16 n ∷ []))
on_shown o ShownBoolean s follows = on_int s 0 (λ n. follows (if unsigned_abs n == 0 then codes "false" else codes "true"))
on_shown o ShownText s follows = on_text_or_null o s 0 follows

-- ---- objects

-- the number of the object; from 2^31 on less 2^32
abbrev pub hash_of : ℕ → ℤ
hash_of birth = signed 32 (pos birth)

-- the character between the name and the hash of an object's text
abbrev pub at_sign : ℕ
at_sign = 64

-- an object as a text: the name of its class, the sign, and its number in hexadecimal digits
abbrev pub object_text : Outline → Looks → List ℕ
object_text o it = type_name o it.type ++ at_sign ∷ digits 16 false it.birth

-- the class literal of a type by its number; an object of a type without a number isn't met
abbrev pub class_given_by : Outline → Option ℕ → Effect
class_given_by o None = stuck
class_given_by o (Some type) = giving_literal 1 (class_literal o type)

-- the class literal of an object's type
abbrev pub class_given : Outline → TypeRef → Effect
class_given o t = class_given_by o (type_number o.types t)

-- whether an object of the type may be copied: an array, or one of a class that is below Cloneable; no text is
abbrev pub is_copied : Outline → TypeRef → Bool
is_copied o t = not (is_text_type o t) && is_sub o.classes t (built_in_type o cloneable_name)

-- a copy of the object on top, with its elements, or that there is none
abbrev pub copy_of : Outline → Looks → Effect
copy_of o it = if is_copied o it.type then making 1 (Copy it.type it.len 0) else thrown o (codes "java/lang/CloneNotSupportedException")

-- the rows of Object
unfoldable pub object_native : Outline → Native → List Sight → Effect
object_native o ObjectInit s = words 1 []
object_native o ObjectHashCode s = on_any o s 0 (λ it. words 1 (int_word (hash_of it.birth)))
object_native o ObjectEquals s = words 2 (SameOperands ∷ [])
object_native o ObjectToString s = on_any o s 0 (λ it. making 1 (text_made o (object_text o it)))
object_native o ObjectGetClass s = on_any o s 0 (λ it. class_given o it.type)
object_native o ObjectClone s = on_any o s 0 (copy_of o)
object_native o row s = stuck

-- ---- texts that don't change

-- an index that lies outside a text
abbrev pub thrown_outside : Outline → Effect
thrown_outside o = thrown o (codes "java/lang/StringIndexOutOfBoundsException")

-- the first unit has the greatest power of 31, and the sum wraps
abbrev pub hash_from : ℤ → List ℕ → ℤ
hash_from sum [] = sum
hash_from sum (unit ∷ units) = hash_from (signed 32 (pos 31 *ℤ sum +ℤ pos unit)) units

-- the difference of the first units that differ, and else of the lengths
abbrev pub compared : List ℕ → List ℕ → ℤ
compared [] others = pos 0 -ℤ pos (length others)
compared (unit ∷ units) [] = pos (length (unit ∷ units))
compared (unit ∷ units) (other ∷ others) = if unit == other then compared units others else (pos unit -ℤ pos other)

-- the unit at an index
abbrev pub char_at : Outline → List ℕ → ℤ → Effect
char_at o units i =
    if int_lt i (pos 0) || not (int_lt i (pos (length units))) then thrown_outside o
    else words 2 (int_word (pos (slice_index_or units (unsigned_abs i) 0)))

-- only another text can be equal to a text
abbrev pub equal_to : Outline → List ℕ → List Sight → Effect
equal_to o units s = on_held (answered false) s 0 (λ it. answered (is_text it && bytes_eq it.units units)) where
  answered : Bool → Effect
  answered b = words 2 (int_word (if b then pos 1 else pos 0))

  is_text : Looks → Bool
  is_text it = fits_type o.classes it.type (text_type o)

-- a new text of the units from one index on and before another one
abbrev pub part_of : Outline → List ℕ → ℤ → ℤ → Effect
part_of o units begin end =
    if int_lt begin (pos 0) || int_lt end begin || int_lt (pos (length units)) end then thrown_outside o
    else making 3 (text_made o (take (unsigned_abs end - unsigned_abs begin) (drop (unsigned_abs begin) units)))

-- the rows of String
unfoldable pub string_native : Outline → Native → List Sight → Effect
string_native o StringLength s = on_text o s 0 (λ units. words 1 (int_word (pos (length units))))
string_native o CharAt s = on_text o s 1 (λ units. on_int s 0 (λ i. char_at o units i))
string_native o StringEquals s = on_text o s 1 (λ units. equal_to o units s)
string_native o StringHashCode s = on_text o s 0 (λ units. words 1 (int_word (hash_from (pos 0) units)))
string_native o CompareTo s = on_text o s 1 (λ units. on_text o s 0 (λ others. words 2 (int_word (compared units others))))
string_native o StringToString s = on_text o s 0 (λ units. words 1 (OfOperand 0 ∷ []))
string_native o Substring s = on_text o s 2 (λ units. on_int s 1 (λ begin. on_int s 0 (λ end. part_of o units begin end)))
string_native o (ValueOf shown) s = on_shown o shown s (λ units. making (shown_words shown) (text_made o units))
string_native o ValueOfChars s = on_chars o s 0 (λ units. making 1 (text_made o units))
string_native o row s = stuck

-- ---- texts that are built

-- an object with a text that it builds
abbrev pub is_builder : Outline → Looks → Bool
is_builder o it =
    fits_type o.classes it.type (built_in_type o (codes "java/lang/StringBuilder"))
    || fits_type o.classes it.type (built_in_type o (codes "java/lang/StringBuffer"))

-- what follows of an operand that has to be an object with a text that it builds
abbrev pub on_builder : Outline → List Sight → ℕ → (Looks → Effect) → Effect
on_builder o s operand follows = on_passing o (is_builder o) s operand follows

-- the units so far: none before the first ones are appended
abbrev pub on_built : Outline → List Sight → ℕ → (List ℕ → Effect) → Effect
on_built o s operand follows = on_builder o s operand (λ it. on_inner o operand it (λ units. follows (all_of units))) where
  all_of : Option (List ℕ) → List ℕ
  all_of None = []
  all_of (Some units) = units

-- a new text of the units is the one that an operand's object has from now on
abbrev pub has_text : Outline → ℕ → List ℕ → List Action
has_text o operand units = text_made o units ∷ Put (OfOperand operand) 0 (text_kind o) (OfMade 0) ∷ []

-- units that are cut at a length, or filled with U+0000 up to it
abbrev pub resized : List ℕ → ℕ → List ℕ
resized units len = take len units ++ replicate (len - length units) 0

-- what is built at the first operand below the top gets a length
abbrev pub with_length : Outline → List ℕ → ℤ → Effect
with_length o units len = if int_lt len (pos 0) then thrown_outside o else acting 2 (has_text o 1 (resized units (unsigned_abs len)))

-- the rows of StringBuilder and StringBuffer
unfoldable pub builder_native : Outline → Native → List Sight → Effect
builder_native o BuilderInit s = on_builder o s 0 (λ it. acting 1 (Put (OfOperand 0) 0 (text_kind o) (Plain null) ∷ []))
builder_native o (Append shown) s =
    let n = shown_words shown in
    on_built o s n (λ units. on_shown o shown s (λ added. record (acting (n + 1) (has_text o n (units ++ added))) { gives = OfOperand n ∷ [] }))
builder_native o BuilderLength s = on_built o s 0 (λ units. words 1 (int_word (pos (length units))))
builder_native o BuilderToString s = on_built o s 0 (λ units. making 1 (text_made o units))
builder_native o BuilderCharAt s = on_built o s 1 (λ units. on_int s 0 (λ i. char_at o units i))
builder_native o BuilderSetLength s = on_built o s 1 (λ units. on_int s 0 (λ len. with_length o units len))
builder_native o BufferInitOf s = on_builder o s 1 (λ it. on_text o s 0 (λ units. acting 2 (has_text o 1 units)))
builder_native o row s = stuck

-- ---- output, input and the end of the run

-- a byte of the input, or −1 where none is left
abbrev pub byte_read : Option ℕ → Effect
byte_read None = words 1 (int_word (negsuc 0))
byte_read (Some byte) = record (words 1 (int_word (pos byte))) { reads = true }

-- the rows of System, PrintStream and InputStream, with the next byte of the input
unfoldable pub stream_native : Outline → Native → Option ℕ → List Sight → Effect
stream_native o Exit byte s = on_int s 0 (λ n. going 1 (Exits n))
stream_native o (Print shown) byte s = on_shown o shown s (λ units. printing (shown_words shown + 1) (utf8 units))
stream_native o (Println shown) byte s = on_shown o shown s (λ units. printing (shown_words shown + 1) (utf8 units ++ LINE_FEED ∷ []))
stream_native o PrintlnNothing byte s = printing 1 (LINE_FEED ∷ [])
stream_native o Read byte s = byte_read byte
stream_native o row byte s = stuck

-- ---- throwables

-- the name, and the message if there is one
abbrev pub throwable_text : Outline → TypeRef → Option (List ℕ) → List ℕ
throwable_text o t None = type_name o t
throwable_text o t (Some message) = type_name o t ++ codes ": " ++ message

-- the rows of Throwable
unfoldable pub throwable_native : Outline → Native → List Sight → Effect
throwable_native o ThrowableInit s =
    on_object o (throwable_type o) s 0 (λ it. acting 1 (Put (OfOperand 0) 0 (text_kind o) (Plain null) ∷ []))
throwable_native o ThrowableInitOf s =
    on_object o (throwable_type o) s 1 (λ it. acting 2 (Put (OfOperand 1) 0 (text_kind o) (OfOperand 0) ∷ []))
throwable_native o GetMessage s = on_object o (throwable_type o) s 0 (λ it. words 1 (OfPlace 0 0 (text_kind o) ∷ []))
throwable_native o ThrowableToString s =
    on_object o (throwable_type o) s 0
    (λ it. on_inner o 0 it (λ message. making 1 (text_made o (throwable_text o it.type message))))
throwable_native o row s = stuck

-- ---- FreeMe: at no type is looked, and null and what lives for ever is passed over

-- a chain: the first operand below the top is linked to the one on top
abbrev pub linked : Looks → Effect
linked it = if it.fixed then words 2 (OfOperand 0 ∷ []) else record (acting 2 (SetChain 1 0 ∷ [])) { gives = OfOperand 1 ∷ [] }

-- the rows of FreeMe
unfoldable pub free_native : Outline → Native → List Sight → Effect
free_native o FreeMeFree s = on_held (words 1 []) s 0 (λ it. acting 1 (Free 0 ∷ []))
free_native o FreeMeLink s = on_held (words 2 (OfOperand 0 ∷ [])) s 1 linked
free_native o FreeMeFreeChain s = acting 1 (FreeChain 0 ∷ [])
free_native o row s = stuck

-- ---- class literals

-- the rows of Class: a class literal is kept as the name of its type
unfoldable pub class_native : Outline → Native → List Sight → Effect
class_native o ClassGetName s = on_class o s 0 (λ units. making 1 (text_made o units))
class_native o row s = stuck

-- ---- all together

-- by the class that has the row
unfoldable pub native_effect : Outline → Native → Option ℕ → List Sight → Effect
native_effect o ObjectInit byte s = object_native o ObjectInit s
native_effect o ObjectHashCode byte s = object_native o ObjectHashCode s
native_effect o ObjectEquals byte s = object_native o ObjectEquals s
native_effect o ObjectToString byte s = object_native o ObjectToString s
native_effect o ObjectGetClass byte s = object_native o ObjectGetClass s
native_effect o ObjectClone byte s = object_native o ObjectClone s
native_effect o StringLength byte s = string_native o StringLength s
native_effect o CharAt byte s = string_native o CharAt s
native_effect o StringEquals byte s = string_native o StringEquals s
native_effect o StringHashCode byte s = string_native o StringHashCode s
native_effect o CompareTo byte s = string_native o CompareTo s
native_effect o StringToString byte s = string_native o StringToString s
native_effect o Substring byte s = string_native o Substring s
native_effect o (ValueOf shown) byte s = string_native o (ValueOf shown) s
native_effect o ValueOfChars byte s = string_native o ValueOfChars s
native_effect o BuilderInit byte s = builder_native o BuilderInit s
native_effect o (Append shown) byte s = builder_native o (Append shown) s
native_effect o BuilderLength byte s = builder_native o BuilderLength s
native_effect o BuilderToString byte s = builder_native o BuilderToString s
native_effect o BuilderCharAt byte s = builder_native o BuilderCharAt s
native_effect o BuilderSetLength byte s = builder_native o BuilderSetLength s
native_effect o BufferInitOf byte s = builder_native o BufferInitOf s
native_effect o Exit byte s = stream_native o Exit byte s
native_effect o (Print shown) byte s = stream_native o (Print shown) byte s
native_effect o (Println shown) byte s = stream_native o (Println shown) byte s
native_effect o PrintlnNothing byte s = stream_native o PrintlnNothing byte s
native_effect o Read byte s = stream_native o Read byte s
native_effect o ThrowableInit byte s = throwable_native o ThrowableInit s
native_effect o ThrowableInitOf byte s = throwable_native o ThrowableInitOf s
native_effect o GetMessage byte s = throwable_native o GetMessage s
native_effect o ThrowableToString byte s = throwable_native o ThrowableToString s
native_effect o FreeMeFree byte s = free_native o FreeMeFree s
native_effect o FreeMeLink byte s = free_native o FreeMeLink s
native_effect o FreeMeFreeChain byte s = free_native o FreeMeFreeChain s
native_effect o ClassGetName byte s = class_native o ClassGetName s
