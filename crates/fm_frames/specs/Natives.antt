-- The built-in methods, which are the variants of an enum of the code (src/natives.rt), by the numbers of their rows, with what each of them takes and gives.
use Rattle.std.specs.Prelude.{ℕ, Bool, true, false, List, [], ◌∷◌, ◌++◌, Option, slice_get}
use Rattle.fm_frames.specs.declared.natives.Native.{Native}
use Rattle.fm_frames.specs.declared.natives.Native.TheVariants.{ObjectInit, ObjectHashCode, ObjectEquals, ObjectToString, ObjectClone, ObjectGetClass, StringLength, CharAt, StringEquals, StringHashCode, CompareTo, StringToString, Substring, ValueOf, ValueOfChars, BuilderInit, Append, BuilderLength, BuilderToString, BuilderCharAt, BuilderSetLength, BufferInitOf, Exit, Print, Println, PrintlnNothing, Read, ThrowableInit, ThrowableInitOf, GetMessage, ThrowableToString, FreeMeFree, FreeMeLink, FreeMeFreeChain, ClassGetName}
use Rattle.fm_frames.specs.declared.natives.Shown.{Shown}
use Rattle.fm_frames.specs.declared.natives.Shown.TheVariants.{Int as ShownInt, Long as ShownLong, Char as ShownChar, Boolean as ShownBoolean, Text as ShownText}

-- the built-in methods in the order of the table of built-in methods
abbrev pub natives : List Native
natives =
    ObjectInit ∷ ObjectHashCode ∷ ObjectEquals ∷ ObjectToString ∷ ObjectGetClass ∷ ObjectClone
    ∷ StringLength ∷ CharAt ∷ StringEquals ∷ StringHashCode ∷ CompareTo ∷ StringToString ∷ Substring
    ∷ ValueOf ShownInt ∷ ValueOf ShownLong ∷ ValueOf ShownChar ∷ ValueOf ShownBoolean ∷ ValueOfChars
    ∷ BuilderInit
    ∷ Append ShownInt ∷ Append ShownLong ∷ Append ShownChar ∷ Append ShownBoolean ∷ Append ShownText
    ∷ BuilderLength ∷ BuilderToString ∷ BuilderCharAt ∷ BuilderSetLength ∷ BufferInitOf
    ∷ Exit
    ∷ Print ShownInt ∷ Print ShownLong ∷ Print ShownChar ∷ Print ShownBoolean ∷ Print ShownText
    ∷ Println ShownInt ∷ Println ShownLong ∷ Println ShownChar ∷ Println ShownBoolean ∷ Println ShownText ∷ PrintlnNothing
    ∷ Read
    ∷ ThrowableInit ∷ ThrowableInitOf ∷ GetMessage ∷ ThrowableToString
    ∷ FreeMeFree ∷ FreeMeLink ∷ FreeMeFreeChain
    ∷ ClassGetName
    ∷ []

-- the built-in method of a row of that table
abbrev pub native_of_row : ℕ → Option Native
native_of_row row = slice_get natives row

-- ---- what they take and give

-- what may be the receiver of a built-in method: nothing, any object, a text, what builds a text, a throwable, or a class literal
pub data Receiver : Type 0 where
  NoReceiver : Receiver
  AnyReceiver : Receiver
  TextReceiver : Receiver
  BuilderReceiver : Receiver
  ThrowableReceiver : Receiver
  ClassReceiver : Receiver

-- the type of an argument: of what is shown, an array of chars, or any object
pub data Given : Type 0 where
  AShown : Shown → Given
  SomeChars : Given
  AnObject : Given

-- what a built-in method returns: nothing, a value, an object of the class that declares it, or a class literal
pub data Returned : Type 0 where
  Nothing : Returned
  AGiven : Given → Returned
  OwnObject : Returned
  ClassLiteral : Returned

-- an int
abbrev pub an_int : Given
an_int = AShown ShownInt

-- a char
abbrev pub a_char : Given
a_char = AShown ShownChar

-- a boolean
abbrev pub a_boolean : Given
a_boolean = AShown ShownBoolean

-- a reference to a text
abbrev pub a_text : Given
a_text = AShown ShownText

-- what a built-in method takes and gives (JVMS 4.3.3)
pub record NativeType : Type 0 where
  pub receiver : Receiver
  pub arguments : List Given
  pub result : Returned

-- a method that returns nothing
abbrev pub taking : Receiver → List Given → NativeType
taking receiver arguments = record { receiver = receiver; arguments = arguments; result = Nothing }

-- a method that returns a value
abbrev pub giving : Receiver → List Given → Given → NativeType
giving receiver arguments result = record { receiver = receiver; arguments = arguments; result = AGiven result }

-- a method that returns an object of its class
abbrev pub giving_own : Receiver → List Given → NativeType
giving_own receiver arguments = record { receiver = receiver; arguments = arguments; result = OwnObject }

-- what each of them takes and gives: the only place where it is written, and the descriptors of the built-in classes spell it
abbrev pub native_type : Native → NativeType
native_type ObjectInit = taking AnyReceiver []
native_type ObjectHashCode = giving AnyReceiver [] an_int
native_type ObjectEquals = giving AnyReceiver (AnObject ∷ []) a_boolean
native_type ObjectToString = giving AnyReceiver [] a_text
native_type ObjectGetClass = record { receiver = AnyReceiver; arguments = []; result = ClassLiteral }
native_type ObjectClone = giving AnyReceiver [] AnObject
native_type StringLength = giving TextReceiver [] an_int
native_type CharAt = giving TextReceiver (an_int ∷ []) a_char
native_type StringEquals = giving TextReceiver (AnObject ∷ []) a_boolean
native_type StringHashCode = giving TextReceiver [] an_int
native_type CompareTo = giving TextReceiver (a_text ∷ []) an_int
native_type StringToString = giving TextReceiver [] a_text
native_type Substring = giving TextReceiver (an_int ∷ an_int ∷ []) a_text
native_type (ValueOf shown) = giving NoReceiver (AShown shown ∷ []) a_text
native_type ValueOfChars = giving NoReceiver (SomeChars ∷ []) a_text
native_type BuilderInit = taking BuilderReceiver []
native_type (Append shown) = giving_own BuilderReceiver (AShown shown ∷ [])
native_type BuilderLength = giving BuilderReceiver [] an_int
native_type BuilderToString = giving BuilderReceiver [] a_text
native_type BuilderCharAt = giving BuilderReceiver (an_int ∷ []) a_char
native_type BuilderSetLength = taking BuilderReceiver (an_int ∷ [])
native_type BufferInitOf = taking BuilderReceiver (a_text ∷ [])
native_type Exit = taking NoReceiver (an_int ∷ [])
native_type (Print shown) = taking AnyReceiver (AShown shown ∷ [])
native_type (Println shown) = taking AnyReceiver (AShown shown ∷ [])
native_type PrintlnNothing = taking AnyReceiver []
native_type Read = giving AnyReceiver [] an_int
native_type ThrowableInit = taking ThrowableReceiver []
native_type ThrowableInitOf = taking ThrowableReceiver (a_text ∷ [])
native_type GetMessage = giving ThrowableReceiver [] a_text
native_type ThrowableToString = giving ThrowableReceiver [] a_text
native_type FreeMeFree = taking NoReceiver (AnObject ∷ [])
native_type FreeMeLink = giving NoReceiver (AnObject ∷ AnObject ∷ []) AnObject
native_type FreeMeFreeChain = taking NoReceiver (AnObject ∷ [])
native_type ClassGetName = giving ClassReceiver [] a_text

-- whether a method with this receiver has one
abbrev pub has_one : Receiver → Bool
has_one NoReceiver = false
has_one other = true

-- whether a built-in method has a receiver
abbrev pub has_receiver : Native → Bool
has_receiver row = has_one (native_type row).receiver

-- the words of arguments, the topmost first: those of the last argument
abbrev pub from_top : {X : Type 0} → (Given → List X) → List Given → List X
from_top words_of [] = []
from_top words_of (argument ∷ []) = words_of argument
from_top words_of (argument ∷ next ∷ arguments) = from_top words_of (next ∷ arguments) ++ words_of argument

-- ---- the methods of FreeMe

-- the row is one of FreeMe's
abbrev pub is_free_me : Native → Bool
is_free_me FreeMeFree = true
is_free_me FreeMeLink = true
is_free_me FreeMeFreeChain = true
is_free_me row = false
