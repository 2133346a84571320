-- What linking makes sure of where objects are made and fields are put (JVMS 5.4.3, 6.5.new, 6.5.anewarray, 6.5.putfield).
use Rattle.std.specs.Prelude.{◌≡◌, ℕ, ◌^◌, ◌<◌, ◌≤◌, ◌||◌, Bool, true, false, List, codes, length, Some, slice_get}
use Rattle.std.specs.List.{AllByRecursion}
use Rattle.fm_base.specs.declared.kinds.Base.{Base}
use Rattle.fm_base.specs.declared.kinds.TypeRef.{TypeRef}
use Rattle.fm_base.specs.declared.limits.TheConstants.{MAX_LIVE_WORDS}
use Rattle.fm_cells.specs.Objects.{Object, request_words}
use Rattle.fm_cells.specs.Stores.{object_at, Store}
use Rattle.fm_code.specs.AccessFlags.{is_static}
use Rattle.fm_code.specs.declared.instructions.Insn.{Insn}
use Rattle.fm_code.specs.declared.instructions.Insn.TheVariants as insn
use Rattle.fm_types.specs.Fits.{AreTree, fits_type}
use Rattle.fm_types.specs.Named.{built_in_type, throwable_type}
use Rattle.fm_world.specs.Chains.{chain_of, is_among}
use Rattle.fm_world.specs.Members.{field_at, fields_of}
use Rattle.fm_world.specs.Numbers.{type_number, type_of_class}
use Rattle.fm_world.specs.Programs.{kind_at, Outline, Program}
use Rattle.fm_world.specs.Uses.{array_of, base_of_elem}
use Rattle.fm_world.specs.declared.declarations.Constant.{Constant}
use Rattle.fm_world.specs.declared.uses.Use.{Use}
use Rattle.fm_world.specs.declared.uses.Use.TheVariants as resolved
use Rattle.fm_frames.specs.Acts.{literal_text, requested}
use Rattle.fm_frames.specs.ArrayRows.{element_type}
use Rattle.fm_frames.specs.Effects.{Action, Make}
use Rattle.fm_frames.specs.NativeRows.{text_kind, type_name}
use Rattle.fm_frames.specs.Runnable.{IsRunnable}
use Rattle.fm_frames.specs.Runs.{arguments_type}
use Rattle.fm_frames.specs.States.{State}
use Rattle.fm_frames.specs.Steps.{is_over, next_effect}
use Rattle.fm_law_sound.specs.Resolved.{IsNamed}
use Rattle.fm_law_sound.specs.Sound.{IsObjectIn}

-- the type has a number
abbrev pub IsNumbered : Outline → TypeRef → Type 0
IsNumbered o t = (number : ℕ) × (type_number o.types t ≡ Some number)

-- 16-bit units
abbrev pub AreUnits : List ℕ → Type 0
AreUnits units = AllByRecursion (λ unit. unit < 2 ^ 16) units

-- Classes have numbers as types, and so have the element types of arrays that have them, where these are arrays again.
pub record IsMakeable (p : Program) : Type 0 where
  pub runnable : IsRunnable p
  -- the classes are a tree below Object (JVMS 5.3.5)
  pub tree : AreTree p.outline.classes
  -- the types of the classes are numbered first, in the order of the classes
  pub class_types : (class : ℕ) → class < length p.outline.classes → type_number p.outline.types (type_of_class class) ≡ Some class
  -- arrays of arrays are made with all that they hold
  pub elements : (n : ℕ) (t : TypeRef) → slice_get p.outline.types n ≡ Some t → 1 < t.dims → IsNumbered p.outline (element_type t)
  -- the units of literals are those of texts, and of names, of class files (JVMS 4.4.7)
  pub texts : (text : ℕ) → (length (literal_text p.outline text) < 2 ^ 31) × AreUnits (literal_text p.outline text)
  -- the array of main's arguments has a number
  pub arguments : IsNumbered p.outline (arguments_type p.outline)

-- objects of the type have the field: their class is the one that declares it, or is below it (JVMS 5.4.3.2)
pub record IsFieldOf (o : Outline) (field : ℕ) (of : TypeRef) : Type 0 where
  pub there : field < length (fields_of o.classes)
  pub instance : is_static (field_at o.classes field).field.flags ≡ false
  pub class : ℕ
  pub inside : class < length o.classes
  pub type_is : of ≡ type_of_class class
  pub above : is_among (field_at o.classes field).class (chain_of o.classes class) ≡ true

-- The array that the instruction makes has a number; and objects of a type that fits the one that putfield names have the field.
abbrev pub NamesMade : Outline → Use → Insn → Type 0
NamesMade o u (insn.NewArray e) = (b : Base) → base_of_elem e ≡ Some b → IsNumbered o (record { dims = 1; base = b })
NamesMade o (resolved.OfType t) (insn.NewRefs index) =
    (named array : TypeRef) → slice_get o.types t.0 ≡ Some named → array_of named ≡ Some array → IsNumbered o array
NamesMade o (resolved.OfField f t) (insn.PutField index) =
    (named of : TypeRef) → slice_get o.types t.0 ≡ Some named → fits_type o.classes of named ≡ true → IsFieldOf o f.0 of
NamesMade o u i = Unit {0}

-- a field that has a constant is static (JVMS 4.7.2)
abbrev pub ConstantsAreStatic : Outline → Type 0
ConstantsAreStatic o = (field : ℕ) (c : Constant) → (field_at o.classes field).field.value ≡ Some c → is_static (field_at o.classes field).field.flags ≡ true

-- the names of types that have a number are of 16-bit units (JVMS 4.4.7)
abbrev pub NamesAreUnits : Outline → Type 0
NamesAreUnits o = (n : ℕ) (t : TypeRef) → slice_get o.types n ≡ Some t → AreUnits (type_name o t)

-- the type fits one of those whose objects build texts
abbrev pub is_built : Outline → TypeRef → Bool
is_built o t =
    fits_type o.classes t (built_in_type o (codes "java/lang/StringBuilder")) || fits_type o.classes t (built_in_type o (codes "java/lang/StringBuffer"))

-- Objects that build texts, and throwables, have the text that they lead to at their first place.
pub record HaveTextFirst (o : Outline) : Type 0 where
  pub builders : (t : TypeRef) → is_built o t ≡ true → kind_at o.classes t 0 ≡ Some (text_kind o)
  pub throwables : (t : TypeRef) → fits_type o.classes t (throwable_type o) ≡ true → kind_at o.classes t 0 ≡ Some (text_kind o)

-- what linking makes sure of where objects are made, for each step
pub record MakesAreResolved (p : Program) : Type 0 where
  pub makeable : IsMakeable p
  pub names : NamesAreUnits p.outline
  pub constants : ConstantsAreStatic p.outline
  -- arrays that instructions make have numbers, and the fields that they put are where the objects have them
  pub made : (method : ℕ) (i : Insn) (u : Use) → IsNamed p method i u → NamesMade p.outline u i

-- There are not too many arguments, and their texts are of 16-bit units; none is too long.
pub record ArgumentsFit (arguments : List (List ℕ)) : Type 0 where
  pub few : length arguments < 2 ^ 31
  pub texts : AllByRecursion (λ text. (length text < 2 ^ 31) × AreUnits text) arguments

-- what is held are objects of the program
abbrev pub HoldsObjects : Outline → Store → Type 0
HoldsObjects o store = (cell : ℕ) (object : Object) → object_at store cell ≡ Some object → IsObjectIn o object

-- what is made has no more words than may live
abbrev pub IsFew : Outline → Action → Type 0
IsFew o (Make t len content) = request_words (requested o t len false) ≤ MAX_LIVE_WORDS
IsFew o action = Unit {0}

-- and so has each of the objects
abbrev pub AreFew : Outline → List Action → Type 0
AreFew o actions = AllByRecursion (IsFew o) actions

-- the next step makes no object of more words than may live, unless it passes the budget: so no array and no text is too long (JVMS 2.4)
abbrev pub MakesFew : Program → State → Type 0
MakesFew p x = is_over p.outline x.areas (next_effect p x).actions ≡ false → AreFew p.outline (next_effect p x).actions
