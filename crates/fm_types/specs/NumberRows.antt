-- The rows of constants, locals, moves of the stack, numbers and switches (JVMS 6.5).
use Rattle.std.specs.Prelude.{ℕ, Bool, true, false, List, [], ◌∷◌, codes, Option, Some, None, option_and_then, if◌then◌else◌, slice_get}
use Rattle.std.specs.Option.{option_map}
use Rattle.fm_code.specs.StackWords.{gives_long, takes_long}
use Rattle.fm_code.specs.declared.instructions.Insn.{Insn}
use Rattle.fm_code.specs.declared.operations.Conv.{Conv}
use Rattle.fm_code.specs.declared.operations.Reg.{Reg}
use Rattle.fm_code.specs.declared.operations.Reg.TheVariants as reg
use Rattle.fm_types.specs.Moves.{moved, moves_of}
use Rattle.fm_types.specs.Named.{built_in_type}
use Rattle.fm_types.specs.States.{int_word, is_long, is_reference, is_whole, local_at, long_words, pushed, stored, TypeState, worked}
use Rattle.fm_types.specs.declared.slots.Slot.{Slot}
use Rattle.fm_types.specs.declared.slots.Slot.TheVariants as slot
use Rattle.fm_world.specs.BuiltIns.{class_literal_name}
use Rattle.fm_world.specs.Programs.{Outline}
use Rattle.fm_world.specs.declared.uses.Use.{Use}
use Rattle.fm_world.specs.declared.uses.Use.TheVariants as resolved

-- ---- constants

-- ldc, ldc_w and ldc2_w: a type gives its class literal
unfoldable pub constant_row : Outline → Use → TypeState → Option TypeState
constant_row o (resolved.OfType t) s = Some (pushed (slot.Ref (built_in_type o class_literal_name) ∷ []) s)
constant_row o (resolved.OfField f t) s = None
constant_row o (resolved.OfMethod m t) s = None
constant_row o (resolved.OfInt value) s = Some (pushed int_word s)
constant_row o (resolved.OfLong value) s = Some (pushed long_words s)
constant_row o (resolved.OfText text) s = Some (pushed (slot.Ref (built_in_type o (codes "java/lang/String")) ∷ []) s)
constant_row o resolved.Unused s = None

-- ---- locals

-- an int
abbrev pub is_int : Slot → Bool
is_int slot.Top = false
is_int slot.Int = true
is_int slot.Long = false
is_int slot.Null = false
is_int (slot.Ref t) = false
is_int (slot.Uninit item) = false
is_int slot.UninitThis = false

-- what a local or a word of that kind may hold: a reference, null or an object that isn't initialised is loaded and stored alike
abbrev pub suits : Reg → Slot → Bool
suits reg.Int s = is_int s
suits reg.Long s = is_long s
suits reg.Ref s = is_reference s

-- a long beside its second half
abbrev pub loaded : Reg → Slot → List Slot
loaded reg.Int s = s ∷ []
loaded reg.Long s = slot.Top ∷ s ∷ []
loaded reg.Ref s = s ∷ []

-- the value of a local is put on the stack (JVMS 6.5, iload, lload and aload)
unfoldable pub load_row : Reg → ℕ → TypeState → Option TypeState
load_row r k s = option_and_then of_local (slice_get s.locals k) where
  of_local : Slot → Option TypeState
  of_local found = if suits r found then Some (pushed (loaded r found) s) else None

-- the value's slots in the order of the locals, and what is left of the stack
abbrev pub stored_from : ℕ → List Slot → List Slot → TypeState → Option TypeState
stored_from k slots stack s = option_map (λ locals. record s { locals = locals; stack = stack }) (stored k slots s.locals)

-- the topmost value is put into a local (JVMS 6.5, istore, lstore and astore)
unfoldable pub store_row : Outline → Reg → ℕ → TypeState → Option TypeState
store_row o r k s = by_kind r s.stack where
  by_kind : Reg → List Slot → Option TypeState
  by_kind r [] = None
  by_kind reg.Int (found ∷ stack) = if is_int found then stored_from k (found ∷ []) stack s else None
  by_kind reg.Ref (found ∷ stack) = if is_reference found then stored_from k (found ∷ []) stack s else None
  by_kind reg.Long (half ∷ []) = None
  by_kind reg.Long (half ∷ found ∷ stack) = if is_long found then stored_from k (found ∷ slot.Top ∷ []) stack s else None

-- a local is an int and stays one (JVMS 6.5, iinc)
unfoldable pub increment_row : ℕ → TypeState → Option TypeState
increment_row k s = if is_int (local_at s.locals k) then Some s else None

-- ---- moves

-- no long is split: what is left is whole
unfoldable pub move_row : Insn → TypeState → Option TypeState
move_row i s = option_and_then (λ m. option_and_then of_stack (moved m s.stack)) (moves_of i) where
  of_stack : List Slot → Option TypeState
  of_stack stack = if is_whole stack then Some (record s { stack = stack }) else None

-- ---- numbers

-- the words of a long, or of an int
abbrev pub number_slots : (is_long : Bool) → List Slot
number_slots true = long_words
number_slots false = int_word

-- a number becomes one of another kind (JVMS 6.5, i2l to i2s)
unfoldable pub convert_row : Outline → Conv → TypeState → Option TypeState
convert_row o to s = worked o (number_slots (takes_long to)) (number_slots (gives_long to)) s
