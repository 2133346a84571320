-- What rows require of their operands, and what follows where an operand isn't what is required: an
-- exception, or a fault.
use Rattle.std.specs.Prelude.{ℕ, ℤ, Bool, true, false, List, [], ◌∷◌, codes, Option, Some, None, if◌then◌else◌, slice_get}
use Rattle.fm_base.specs.declared.kinds.TypeRef.{TypeRef}
use Rattle.fm_types.specs.Fits.{fits_type}
use Rattle.fm_types.specs.Named.{built_in_type}
use Rattle.fm_world.specs.BuiltIns.{class_literal_name, string_name}
use Rattle.fm_world.specs.Members.{size_of}
use Rattle.fm_world.specs.Programs.{class_of_type, Outline}
use Rattle.fm_frames.specs.Effects.{Effect, Make, OfMade, OfPlace, Throws, Faults, faulty, going, stuck}
use Rattle.fm_frames.specs.Elements.{chars_type}
use Rattle.fm_frames.specs.Sights.{Sight, Word, Null, Thing, Gone, Looks, Inner, NoField, Missing, Text, Lost}
use Rattle.fm_frames.specs.declared.values.Value.TheVariants as value
use Rattle.fm_base.specs.declared.kinds.Kind.TheVariants as kind

-- ---- exceptions

-- how many elements an object of the type has
abbrev pub size_of_type : Outline → TypeRef → ℕ
size_of_type o t = of_class (class_of_type t) where
  of_class : Option ℕ → ℕ
  of_class None = 0
  of_class (Some class) = size_of o.classes class

-- a new object of a built-in class, without a message, is thrown
abbrev pub thrown : Outline → List ℕ → Effect
thrown o name =
    let t = built_in_type o name in
    record (going 0 (Throws (OfMade 0))) { actions = Make t (size_of_type o t) [] ∷ [] }

-- null where an object is needed
abbrev pub thrown_null : Outline → Effect
thrown_null o = thrown o (codes "java/lang/NullPointerException")

-- a result that an operation has, or the division by 0
abbrev pub or_thrown : Outline → Option ℤ → (ℤ → Effect) → Effect
or_thrown o None follows = thrown o (codes "java/lang/ArithmeticException")
or_thrown o (Some n) follows = follows n

-- ---- numbers

-- what follows of an int
abbrev pub on_int_of : Option Sight → (ℤ → Effect) → Effect
on_int_of (Some (Word (value.Int n))) follows = follows n
on_int_of s follows = stuck

-- what follows of the int that an operand is
abbrev pub on_int : List Sight → ℕ → (ℤ → Effect) → Effect
on_int sights operand follows = on_int_of (slice_get sights operand) follows

-- a long by the operand that it is, below its second half
abbrev pub on_long_of : Option Sight → (ℤ → Effect) → Effect
on_long_of (Some (Word (value.Long n))) follows = follows n
on_long_of s follows = stuck

-- what follows of the long that an operand is
abbrev pub on_long : List Sight → ℕ → (ℤ → Effect) → Effect
on_long sights operand follows = on_long_of (slice_get sights operand) follows

-- what follows of the long on top of the stack, or of the int
abbrev pub on_number : (is_long : Bool) → List Sight → (ℤ → Effect) → Effect
on_number true sights follows = on_long sights 1 follows
on_number false sights follows = on_int sights 0 follows

-- ---- references at which nothing is looked

-- whether the reference is null
abbrev pub on_reference_of : Option Sight → (Bool → Effect) → Effect
on_reference_of None follows = stuck
on_reference_of (Some (Word v)) follows = stuck
on_reference_of (Some Null) follows = follows true
on_reference_of (Some (Thing it)) follows = follows false
on_reference_of (Some Gone) follows = follows false

-- what follows of the reference that an operand is, by whether it is null
abbrev pub on_reference : List Sight → ℕ → (Bool → Effect) → Effect
on_reference sights operand follows = on_reference_of (slice_get sights operand) follows

-- a receiver that isn't looked at
abbrev pub on_receiver : Outline → List Sight → ℕ → Effect → Effect
on_receiver o sights operand effect = on_reference sights operand (λ is_null. if is_null then thrown_null o else effect)

-- ---- objects

-- an object, or what follows of null
abbrev pub on_held_of : Effect → ℕ → Option Sight → (Looks → Effect) → Effect
on_held_of of_null operand None follows = stuck
on_held_of of_null operand (Some (Word v)) follows = stuck
on_held_of of_null operand (Some Null) follows = of_null
on_held_of of_null operand (Some (Thing it)) follows = follows it
on_held_of of_null operand (Some Gone) follows = faulty operand

-- what follows of the object that an operand leads to, or of null
abbrev pub on_held : Effect → List Sight → ℕ → (Looks → Effect) → Effect
on_held of_null sights operand follows = on_held_of of_null operand (slice_get sights operand) follows

-- an object of any type; null throws
abbrev pub on_any : Outline → List Sight → ℕ → (Looks → Effect) → Effect
on_any o sights operand follows = on_held (thrown_null o) sights operand follows

-- an object that passes a test; a cell whose object doesn't is met in a way in which it can't be
abbrev pub on_passing : Outline → (Looks → Bool) → List Sight → ℕ → (Looks → Effect) → Effect
on_passing o test sights operand follows = on_any o sights operand (λ it. if test it then follows it else faulty operand)

-- an object whose type fits this one as it does where states are checked
abbrev pub on_object : Outline → TypeRef → List Sight → ℕ → (Looks → Effect) → Effect
on_object o t sights operand follows = on_passing o (λ it. fits_type o.classes it.type t) sights operand follows

-- the units of a text
abbrev pub on_text : Outline → List Sight → ℕ → (List ℕ → Effect) → Effect
on_text o sights operand follows = on_object o (built_in_type o string_name) sights operand (λ it. follows it.units)

-- the units of an array of chars
abbrev pub on_chars : Outline → List Sight → ℕ → (List ℕ → Effect) → Effect
on_chars o sights operand follows = on_object o chars_type sights operand (λ it. follows it.units)

-- the units of a class literal, which are the name of its type
abbrev pub on_class : Outline → List Sight → ℕ → (List ℕ → Effect) → Effect
on_class o sights operand follows = on_object o (built_in_type o class_literal_name) sights operand (λ it. follows it.units)

-- the units of a text, or of null those of the word null
abbrev pub on_text_or_null : Outline → List Sight → ℕ → (List ℕ → Effect) → Effect
on_text_or_null o sights operand follows =
    on_held (follows (codes "null")) sights operand
    (λ it. if fits_type o.classes it.type (built_in_type o string_name) then follows it.units else faulty operand)

-- what the hidden field of an operand's object leads to: the units of a text, or none where it is null
abbrev pub on_inner_of : Outline → ℕ → Inner → (Option (List ℕ) → Effect) → Effect
on_inner_of o operand NoField follows = faulty operand
on_inner_of o operand Missing follows = follows None
on_inner_of o operand (Text units) follows = follows (Some units)
on_inner_of o operand Lost follows = going 0 (Faults (OfPlace operand 0 (kind.Ref (built_in_type o string_name))))

-- what follows of what an operand's object has in its hidden field
abbrev pub on_inner : Outline → ℕ → Looks → (Option (List ℕ) → Effect) → Effect
on_inner o operand it follows = on_inner_of o operand it.inner follows
