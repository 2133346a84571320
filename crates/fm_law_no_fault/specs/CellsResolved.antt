-- What linking makes sure of, so that each cell fits its place and no instruction meets a cell in
-- which it can't be (JVMS 5.3.5, 5.4.3, 5.4.5, 6.5).
use Rattle.std.specs.Prelude.{◌≡◌, ℕ, not, Bool, true, false, List, [], ◌∷◌, codes, Some, slice_get, unwrap_or}
use Rattle.std.specs.List.{AllByRecursion}
use Rattle.fm_base.specs.declared.ids.MethodId.{MethodId}
use Rattle.fm_base.specs.declared.ids.TypeId.{TypeId}
use Rattle.fm_base.specs.declared.kinds.TypeRef.{TypeRef}
use Rattle.fm_code.specs.AccessFlags.{is_static}
use Rattle.fm_code.specs.declared.instructions.Insn.TheVariants as insn
use Rattle.fm_types.specs.CallRows.{is_constructor, is_initializer, names_own_or_above}
use Rattle.fm_types.specs.Fits.{fits_type, object_of}
use Rattle.fm_types.specs.Named.{argument_words, built_in_type, class_of_method, object_slot, result_words, this_class, throwable_type}
use Rattle.fm_types.specs.Typed.{entry_slots}
use Rattle.fm_types.specs.declared.slots.Slot.{Slot}
use Rattle.fm_types.specs.declared.slots.Slot.TheVariants as slot
use Rattle.fm_world.specs.Chains.{chain_of, is_among, is_sub, self_of}
use Rattle.fm_world.specs.Lookups.{select, special_target}
use Rattle.fm_world.specs.Members.{field_at, method_at}
use Rattle.fm_world.specs.Numbers.{type_of_class}
use Rattle.fm_world.specs.Programs.{class_of_type, IsTypeIn, kind_at, Outline, Program}
use Rattle.fm_world.specs.declared.declarations.Constant.TheVariants as constant
use Rattle.fm_world.specs.declared.uses.Use.TheVariants as resolved
use Rattle.fm_frames.specs.CallRows.{native_of}
use Rattle.fm_frames.specs.Elements.{is_string_type, chars_type}
use Rattle.fm_frames.specs.NativeRows.{class_type, text_kind, text_type}
use Rattle.fm_frames.specs.Natives.{AGiven, AnObject, AShown, BuilderReceiver, ClassLiteral, ClassReceiver, from_top, Given, has_receiver, native_type, Nothing, OwnObject, Receiver, Returned, SomeChars, TextReceiver, ThrowableReceiver}
use Rattle.fm_frames.specs.declared.natives.Native.{Native}
use Rattle.fm_frames.specs.declared.natives.Shown.{Shown}
use Rattle.fm_frames.specs.declared.natives.Shown.TheVariants.{Boolean as ShownBoolean, Char as ShownChar, Int as ShownInt, Long as ShownLong, Text as ShownText}
use Rattle.fm_frames.specs.ObjectRows.{kind_of_field}
use Rattle.fm_frames.specs.Runs.{arguments_type}
use Rattle.fm_frames.specs.Sights.{has_hidden_field}
use Rattle.fm_law_sound.specs.Making.{is_built}
use Rattle.fm_law_sound.specs.Resolved.{IsNamed}
use Rattle.fm_law_sound.specs.Sound.{HasObjects, static_slots}
use Rattle.fm_law_no_fault.specs.Doing.{HoldsNoCell}

-- ---- types

-- what can be cast to a type in the run fits it where states are checked: what it implements are interfaces, which count as Object there
abbrev pub SubtypesFit : Outline → Type 0
SubtypesFit o = (a b : TypeRef) → is_sub o.classes a b ≡ true → fits_type o.classes a b ≡ true

-- what the machine throws by itself (JVMS 2.10)
abbrev pub thrown_names : List (List ℕ)
thrown_names =
    codes "java/lang/NullPointerException" ∷ codes "java/lang/ArithmeticException" ∷ codes "java/lang/ClassCastException"
    ∷ codes "java/lang/ArrayIndexOutOfBoundsException" ∷ codes "java/lang/ArrayStoreException" ∷ codes "java/lang/NegativeArraySizeException"
    ∷ codes "java/lang/IncompatibleClassChangeError" ∷ codes "java/lang/StringIndexOutOfBoundsException"
    ∷ codes "java/lang/CloneNotSupportedException" ∷ []

-- the classes of the objects of System.out and System.in
abbrev pub output_type : Outline → TypeRef
output_type o = built_in_type o (codes "java/io/PrintStream")

-- of System.in
abbrev pub input_type : Outline → TypeRef
input_type o = built_in_type o (codes "java/io/InputStream")

-- ---- calls

-- objects of the type are made, and its class is there
abbrev pub IsMet : Outline → TypeRef → Type 0
IsMet o t = IsTypeIn o.classes t × HasObjects o t

-- a method is selected for objects of the type, of a class that the type fits
pub record Selects (p : Program) (of : TypeRef) (method : ℕ) : Type 0 where
  pub target : ℕ
  pub selected : select p.outline.classes (unwrap_or (class_of_type of) (object_of p.outline.classes)) method ≡ Some target
  pub receives : fits_type p.outline.classes of (type_of_class (this_class p.outline target)) ≡ true

-- the method that a call by invokespecial leads to
abbrev pub special_of : Program → ℕ → MethodId → TypeRef → ℕ
special_of p method m named = special_target p.outline.classes (class_of_method p.outline method) (class_of_type named) m.0

-- ---- built-in methods

-- the words of what is appended, printed or given as a text
abbrev pub shown_asked : Outline → Shown → List Slot
shown_asked o ShownInt = slot.Int ∷ []
shown_asked o ShownLong = slot.Top ∷ slot.Long ∷ []
shown_asked o ShownChar = slot.Int ∷ []
shown_asked o ShownBoolean = slot.Int ∷ []
shown_asked o ShownText = slot.Ref (text_type o) ∷ []

-- the words of a value
abbrev pub given_asked : Outline → Given → List Slot
given_asked o (AShown shown) = shown_asked o shown
given_asked o SomeChars = slot.Ref chars_type ∷ []
given_asked o AnObject = object_slot o ∷ []

-- the words of a built-in method's arguments, the topmost first
abbrev pub arguments_asked : Outline → Native → List Slot
arguments_asked o row = from_top (given_asked o) (native_type row).arguments

-- whether an object of the type may be a receiver: a text, one that builds a text, a throwable, or a class literal
abbrev pub suits : Outline → Receiver → TypeRef → Bool
suits o TextReceiver t = fits_type o.classes t (text_type o)
suits o BuilderReceiver t = is_built o t
suits o ThrowableReceiver t = fits_type o.classes t (throwable_type o)
suits o ClassReceiver t = fits_type o.classes t (class_type o)
suits o other t = true

-- whether it may be the receiver of a built-in method
abbrev pub suits_row : Outline → Native → TypeRef → Bool
suits_row o row t = suits o (native_type row).receiver t

-- the words that a method of a class returns
abbrev pub returned_asked : Outline → TypeRef → Returned → List Slot
returned_asked o t Nothing = []
returned_asked o t (AGiven given) = given_asked o given
returned_asked o t OwnObject = slot.Ref t ∷ []
returned_asked o t ClassLiteral = slot.Ref (class_type o) ∷ []

-- the words that a built-in method of a class gives
abbrev pub result_given : Outline → TypeRef → Native → List Slot
result_given o t row = returned_asked o t (native_type row).result

-- A built-in method has the parameters that its row looks at, and the result that its row gives; and what fits the class that declares it may be its receiver.
pub record TakesAsAsked (o : Outline) (method : ℕ) (row : Native) : Type 0 where
  pub arguments : argument_words o method ≡ arguments_asked o row
  pub result : result_words o method ≡ result_given o (type_of_class (this_class o method)) row
  pub static : is_static (method_at o.classes method).method.flags ≡ not (has_receiver row)
  pub receiver : is_static (method_at o.classes method).method.flags ≡ false
      → (t : TypeRef) → fits_type o.classes t (type_of_class (this_class o method)) ≡ true → suits_row o row t ≡ true

-- ---- built-in classes

-- what built-in classes and methods are in each program that can be run
pub record BuiltInsFit (p : Program) : Type 0 where
  -- objects that live for ever have no place for references
  pub text_plain : HoldsNoCell p.outline (text_type p.outline)
  pub class_plain : HoldsNoCell p.outline (class_type p.outline)
  pub output_plain : HoldsNoCell p.outline (output_type p.outline)
  pub input_plain : HoldsNoCell p.outline (input_type p.outline)
  -- what builds texts has a hidden field, and so has what is thrown
  pub builders : (t : TypeRef) → is_built p.outline t ≡ true → has_hidden_field p.outline t ≡ true
  pub throwables : (t : TypeRef) → fits_type p.outline.classes t (throwable_type p.outline) ≡ true → has_hidden_field p.outline t ≡ true
  -- what the machine throws can be thrown
  pub thrown : AllByRecursion (λ name. fits_type p.outline.classes (built_in_type p.outline name) (throwable_type p.outline) ≡ true) thrown_names
  -- the first two static fields are those of System
  pub output : slice_get (static_slots p.outline) 0 ≡ Some (slot.Ref (output_type p.outline))
  pub input : slice_get (static_slots p.outline) 1 ≡ Some (slot.Ref (input_type p.outline))
  -- built-in methods take what their rows look at
  pub methods : (method : ℕ) (row : Native) → native_of p.outline method ≡ Some row → TakesAsAsked p.outline method row

-- ---- all together

-- what linking makes sure of where references are put
pub record PlacesFit (p : Program) : Type 0 where
  pub subtypes : SubtypesFit p.outline
  -- no class is below String
  pub texts : (t : TypeRef) → fits_type p.outline.classes t (text_type p.outline) ≡ true → is_string_type p.outline t ≡ true
  -- a hidden field is the first place of its object, and one for texts
  pub hidden : (t : TypeRef) → has_hidden_field p.outline t ≡ true → kind_at p.outline.classes t 0 ≡ Some (text_kind p.outline)
  -- main takes the array of the arguments (JVMS 5.2)
  pub main : entry_slots p.outline p.outline.main ≡ slot.Ref (arguments_type p.outline) ∷ []
  -- a text is the constant of a field of texts (JVMS 4.7.2)
  pub constants : (field : ℕ) (text : List ℕ) → (field_at p.outline.classes field).field.value ≡ Some (constant.Text text)
      → kind_of_field p.outline field ≡ text_kind p.outline

-- what it makes sure of where methods are called
pub record CallsFit (p : Program) : Type 0 where
  -- a method is selected for each object that invokevirtual or invokeinterface may meet (JVMS 6.5.invokevirtual, 6.5.invokeinterface)
  pub virtual : (method index : ℕ) (m : MethodId) (t : TypeId) (named of : TypeRef) → IsNamed p method (insn.Virtual index) (resolved.OfMethod m t)
      → slice_get p.outline.types t.0 ≡ Some named → is_initializer p.outline m.0 ≡ false → IsMet p.outline of → fits_type p.outline.classes of named ≡ true → Selects p of m.0
  pub interface : (method index : ℕ) (m : MethodId) (t : TypeId) (named of : TypeRef) → IsNamed p method (insn.Interface index) (resolved.OfMethod m t)
      → slice_get p.outline.types t.0 ≡ Some named → is_initializer p.outline m.0 ≡ false → IsMet p.outline of → is_sub p.outline.classes of named ≡ true → Selects p of m.0
  -- where it names the own class or one above it, invokespecial leads to a method of such a class; and a constructor is of exactly the class that is named
  -- (JVMS 6.5.invokespecial)
  pub special : (method index : ℕ) (m : MethodId) (t : TypeId) (named : TypeRef) → IsNamed p method (insn.Special index) (resolved.OfMethod m t)
      → slice_get p.outline.types t.0 ≡ Some named → is_constructor p.outline m.0 ≡ false
      → names_own_or_above p.outline (this_class p.outline method) named ≡ true
      → fits_type p.outline.classes (type_of_class (this_class p.outline method)) (type_of_class (this_class p.outline (special_of p method m named))) ≡ true
  pub constructors : (method index : ℕ) (m : MethodId) (t : TypeId) (named : TypeRef) → IsNamed p method (insn.Special index) (resolved.OfMethod m t)
      → slice_get p.outline.types t.0 ≡ Some named → is_constructor p.outline m.0 ≡ true
      → class_of_type named ≡ Some (this_class p.outline (special_of p method m named))
  -- a class is the one whose objects its methods have, or one above it (JVMS 4.10.1.9.invokespecial)
  pub selves : (class : ℕ) → is_among class (chain_of p.outline.classes (self_of p.outline.classes class)) ≡ true

-- all that a program needs so that each cell fits its place
pub record CellsAreResolved (p : Program) : Type 0 where
  pub built_in : BuiltInsFit p
  pub places : PlacesFit p
  pub calls : CallsFit p
