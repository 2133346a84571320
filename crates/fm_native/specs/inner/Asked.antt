-- What rows require of their operands, as the code finds it out.
use Rattle.fm_base.specs.declared.kinds.TypeRef.{TypeRef}
use Rattle.std.specs.Prelude.{◌≡◌, ℕ, ◌<◌, ◌^◌, ℤ, pos, Bool, false, List, codes, take, length, Option, Some, None, Result, Ok, Err, if◌then◌else◌}
use Rattle.std.specs.List.{All}
use Rattle.std.specs.Str.{bytes_eq}
use Rattle.fm_base.specs.declared.kinds.TypeRef.{TypeRef}
use Rattle.fm_cells.specs.Answers.{head_of}
use Rattle.fm_cells.specs.Objects.{Object}
use Rattle.fm_cells.specs.Stores.{elements_at, object_at, Store}
use Rattle.fm_frames.specs.Acts.{cell_of, value_of}
use Rattle.fm_frames.specs.Effects.{Effect, Faults, OfPlace, faulty, going, int_word, stuck, words}
use Rattle.fm_frames.specs.NativeRows.{class_type, equal_to, part_of, text_kind, text_type}
use Rattle.fm_frames.specs.Operands.{on_chars, on_held, on_int, on_long, on_object, on_text_or_null, thrown_null}
use Rattle.fm_frames.specs.Sights.{Sight, looks, Looks}
use Rattle.fm_frames.specs.States.{State, word_at}
use Rattle.fm_frames.specs.Steps.{stack_of}
use Rattle.fm_frames.specs.declared.values.Value.TheVariants as value
use Rattle.fm_frames.specs.inner.Doings.{before}
use Rattle.fm_native.specs.declared.asked.Held.{Held}
use Rattle.fm_native.specs.declared.asked.OperandRefusal.{OperandRefusal}
use Rattle.fm_native.specs.declared.asked.OperandRefusal.TheVariants as refusal
use Rattle.fm_native.specs.declared.asked.Text.{Text}
use Rattle.fm_world.specs.Programs.{Outline}

-- ---- refusals

-- the effect of an operand that isn't what is asked for; at null what follows of it
abbrev pub refused_by : Effect → Outline → ℕ → OperandRefusal → Effect
refused_by of_null o operand refusal.Other = stuck
refused_by of_null o operand refusal.Null = of_null
refused_by of_null o operand (refusal.Unfit cell) = faulty operand
refused_by of_null o operand (refusal.Lost cell) = going 0 (Faults (OfPlace operand 0 (text_kind o)))

-- the same where null throws
abbrev pub refused : Outline → ℕ → OperandRefusal → Effect
refused o operand r = refused_by (thrown_null o) o operand r

-- the cell of a refusal is the one to which the operand leads
abbrev pub IsAt : Outline → State → ℕ → OperandRefusal → Type 0
IsAt o x operand refusal.Other = Unit {0}
IsAt o x operand refusal.Null = Unit {0}
IsAt o x operand (refusal.Unfit cell) = cell_of (word_at (stack_of x) operand) ≡ cell.0
IsAt o x operand (refusal.Lost cell) = cell_of (value_of (before x) (OfPlace operand 0 (text_kind o))) ≡ cell.0

-- what follows of what was found, or of a refusal
abbrev pub asked_by : {A : Type 0} → Effect → Outline → ℕ → Result A OperandRefusal → (A → Effect) → Effect
asked_by of_null o operand (Ok found) follows = follows found
asked_by of_null o operand (Err r) follows = refused_by of_null o operand r

-- the same where null throws
abbrev pub asked : {A : Type 0} → Outline → ℕ → Result A OperandRefusal → (A → Effect) → Effect
asked o operand found follows = asked_by (thrown_null o) o operand found follows

-- ---- objects

-- what is known of an object that was found
pub record IsHeldAt (store : Store) (x : State) (operand : ℕ) (held : Held) : Type 0 where
  pub object : Object
  pub at : object_at store held.cell.0 ≡ Some object
  pub head_is : head_of object ≡ held.head
  pub word : word_at (stack_of x) operand ≡ value.Ref held.cell

-- what follows of an object that was found
abbrev pub on_found : Outline → Store → (Looks → Effect) → Option Object → Effect
on_found o store follows (Some object) = follows (looks o store object)
on_found o store follows None = stuck

-- the same by the cell in which it was found
abbrev pub on_cell : Outline → Store → (Looks → Effect) → Held → Effect
on_cell o store follows held = on_found o store follows (object_at store held.cell.0)

-- an object was asked for at an operand, and this is what was found
abbrev pub AsksHeld : Outline → Store → List Sight → ℕ → Result Held OperandRefusal → Type 0
AsksHeld o store s operand found =
    (of_null : Effect) (follows : Looks → Effect)
    → on_held of_null s operand follows ≡ asked_by of_null o operand found (on_cell o store follows)

-- the same where null is passed over: what follows of null, of an object, or of a refusal
abbrev pub passed_by : {A : Type 0} → Effect → Outline → ℕ → Result (Option A) OperandRefusal → (A → Effect) → Effect
passed_by of_null o operand (Ok None) follows = of_null
passed_by of_null o operand (Ok (Some found)) follows = follows found
passed_by of_null o operand (Err r) follows = refused o operand r

-- an object or null was asked for at an operand, and this is what was found
abbrev pub AsksHeldOrNull : Outline → Store → List Sight → ℕ → Result (Option Held) OperandRefusal → Type 0
AsksHeldOrNull o store s operand found =
    (of_null : Effect) (follows : Looks → Effect)
    → on_held of_null s operand follows ≡ passed_by of_null o operand found (on_cell o store follows)

-- ---- texts

-- the units of a text that was found
abbrev pub units_in : Store → Text → List ℕ
units_in store text = take text.len (elements_at store text.cell.0)

-- the text of a held cell; an object of another type that fits has no units
abbrev pub text_of : (shows_units : Bool) → Held → Text
text_of shows_units held = record { cell = held.cell; len = (if shows_units then held.head.len else 0) }

-- an object whose type fits this one was asked for by its units, and this is what was found
abbrev pub AsksUnitsOf : Outline → Store → TypeRef → List Sight → ℕ → Result Text OperandRefusal → Type 0
AsksUnitsOf o store named s operand found =
    (follows : List ℕ → Effect) → on_object o named s operand (λ it. follows it.units) ≡ asked o operand found (λ text. follows (units_in store text))

-- an array of chars was asked for at an operand, and this is what was found
abbrev pub AsksChars : Outline → Store → List Sight → ℕ → Result Text OperandRefusal → Type 0
AsksChars o store s operand found =
    (follows : List ℕ → Effect) → on_chars o s operand follows ≡ asked o operand found (λ text. follows (units_in store text))

-- a text was asked for at an operand, and this is what was found
abbrev pub AsksText : Outline → Store → List Sight → ℕ → Result Text OperandRefusal → Type 0
AsksText o store s operand found = AsksUnitsOf o store (text_type o) s operand found

-- a class literal was asked for at an operand, and this is what was found
abbrev pub AsksClass : Outline → Store → List Sight → ℕ → Result Text OperandRefusal → Type 0
AsksClass o store s operand found = AsksUnitsOf o store (class_type o) s operand found

-- the same where null is read as the word null
abbrev pub AsksTextOrNull : Outline → Store → List Sight → ℕ → Result (Option Text) OperandRefusal → Type 0
AsksTextOrNull o store s operand found =
    (follows : List ℕ → Effect)
    → on_text_or_null o s operand follows ≡ passed_by (follows (codes "null")) o operand found (λ text. follows (units_in store text))

-- the units of a text are those of another one, if there is one
abbrev pub equals_other : Store → Text → Option Text → Bool
equals_other store text None = false
equals_other store text (Some other) = bytes_eq (units_in store other) (units_in store text)

-- a text that may be equal to another one was asked for, and this is what was found
abbrev pub AsksOther : Outline → Store → List Sight → Result (Option Text) OperandRefusal → Type 0
AsksOther o store s found =
    (text : Text)
    → equal_to o (units_in store text) s ≡ asked o 0 found (λ other. words 2 (int_word (if equals_other store text other then pos 1 else pos 0)))

-- what is known of a text that was found
pub record IsTextAt (store : Store) (text : Text) : Type 0 where
  pub len : length (units_in store text) ≡ text.len
  pub within : text.len < 2 ^ 31
  pub units : All (λ unit. unit < 2 ^ 16) (units_in store text)

-- ---- numbers

-- the part of a text from a place up to the one on top of the stack
abbrev pub part_up_to : Outline → List Sight → List ℕ → ℤ → Effect
part_up_to o s units begin = on_int s 0 (λ end. part_of o units begin end)

-- an int was asked for at an operand, and this is what was found
abbrev pub AsksInt : Outline → List Sight → ℕ → Result ℤ OperandRefusal → Type 0
AsksInt o s operand found = (follows : ℤ → Effect) → on_int s operand follows ≡ asked o operand found follows

-- the same of a long
abbrev pub AsksLong : Outline → List Sight → ℕ → Result ℤ OperandRefusal → Type 0
AsksLong o s operand found = (follows : ℤ → Effect) → on_long s operand follows ≡ asked o operand found follows
