-- What each instruction takes off the stack, and which of the references that it takes, gives, loads and stores it joins.
use Rattle.std.specs.Prelude.{ℕ, ◌+◌, Bool, true, false, List, [], ◌∷◌, length, Option, Some, None, if◌then◌else◌}
use Rattle.fm_base.specs.declared.kinds.Kind.{Kind}
use Rattle.fm_base.specs.declared.kinds.Kind.TheVariants as kind
use Rattle.fm_code.specs.AccessFlags.{is_static}
use Rattle.fm_code.specs.StackWords as insns
use Rattle.fm_code.specs.declared.instructions.Insn.{Insn}
use Rattle.fm_code.specs.declared.instructions.Insn.TheVariants as insn
use Rattle.fm_code.specs.declared.operations.Elem.{Elem}
use Rattle.fm_code.specs.declared.operations.Elem.TheVariants as elem
use Rattle.fm_code.specs.declared.operations.Reg.{Reg}
use Rattle.fm_code.specs.declared.operations.Reg.TheVariants as reg
use Rattle.fm_types.specs.Moves.{Moves, moves_of}
use Rattle.fm_types.specs.Named.{kind_of_field}
use Rattle.fm_base.specs.Kinds.{kind_words}
use Rattle.fm_world.specs.Descriptors.{argument_word_count}
use Rattle.fm_world.specs.Members.{method_at}
use Rattle.fm_world.specs.Programs.{Outline}
use Rattle.fm_world.specs.declared.uses.Use.{Use}
use Rattle.fm_world.specs.declared.uses.Use.TheVariants as resolved

-- ---- fields and methods that an instruction names

-- values of the kind are references
abbrev pub is_reference_kind : Kind → Bool
is_reference_kind (kind.Ref t) = true
is_reference_kind kind.Boolean = false
is_reference_kind kind.Byte = false
is_reference_kind kind.Char = false
is_reference_kind kind.Short = false
is_reference_kind kind.Int = false
is_reference_kind kind.Long = false

-- the field that a use is
abbrev pub field_in : Use → Option ℕ
field_in (resolved.OfField f t) = Some f.0
field_in u = None

-- the method that a use is
abbrev pub method_in : Use → Option ℕ
method_in (resolved.OfMethod m t) = Some m.0
method_in u = None

-- the words of a field's value
abbrev pub field_word_count : Outline → Use → ℕ
field_word_count o u = of_field (field_in u) where
  of_field : Option ℕ → ℕ
  of_field None = 0
  of_field (Some f) = kind_words (kind_of_field o f)

-- whether the field holds references
abbrev pub is_reference_field : Outline → Use → Bool
is_reference_field o u = of_field (field_in u) where
  of_field : Option ℕ → Bool
  of_field None = false
  of_field (Some f) = is_reference_kind (kind_of_field o f)

-- the words of a method's arguments, with its receiver
abbrev pub words_of_call : Outline → ℕ → ℕ
words_of_call o method =
    let m = (method_at o.classes method).method in
    (if is_static m.flags then 0 else 1) + argument_word_count o.classes m.descriptor

-- the words that a call of what is named takes
abbrev pub call_words : Outline → Use → ℕ
call_words o u = of_method (method_in u) where
  of_method : Option ℕ → ℕ
  of_method None = 0
  of_method (Some m) = words_of_call o m

-- ---- the words that are taken: those below them stay

-- the words that an instruction takes, by what its index names
unfoldable pub words_taken : Outline → Use → Insn → ℕ
words_taken o u i = insns.words_taken (field_word_count o u) (call_words o u) i

-- ---- what is joined, but for calls

-- a word that is taken, counted from the top; one that is given, by how many given words lie below it; a local; the result; static fields and
-- thrown objects
pub data RowPlace : Type 0 where
  Taken : ℕ → RowPlace
  Given : ℕ → RowPlace
  InLocal : ℕ → RowPlace
  AsResult : RowPlace
  Outside : RowPlace

-- each word that is moved with its copies
abbrev pub moved_words : List ℕ → List (RowPlace × RowPlace)
moved_words [] = []
moved_words (place ∷ places) = (Taken place, Given (length places)) ∷ moved_words places

-- the places that a stack move joins
abbrev pub joined_by_move : Option Moves → List (RowPlace × RowPlace)
joined_by_move None = []
joined_by_move (Some m) = moved_words m.gives

-- the places that a load joins
abbrev pub joined_to_load : Reg → ℕ → List (RowPlace × RowPlace)
joined_to_load reg.Int k = []
joined_to_load reg.Long k = []
joined_to_load reg.Ref k = (InLocal k, Given 0) ∷ []

-- the places that a store joins
abbrev pub joined_to_store : Reg → ℕ → List (RowPlace × RowPlace)
joined_to_store reg.Int k = []
joined_to_store reg.Long k = []
joined_to_store reg.Ref k = (Taken 0, InLocal k) ∷ []

-- the places that a return joins
abbrev pub joined_to_return : Option Reg → List (RowPlace × RowPlace)
joined_to_return (Some reg.Ref) = (Taken 0, AsResult) ∷ []
joined_to_return (Some reg.Int) = []
joined_to_return (Some reg.Long) = []
joined_to_return None = []

-- of an array of references
abbrev pub of_references : Elem → List (RowPlace × RowPlace) → List (RowPlace × RowPlace)
of_references elem.Ref places = places
of_references elem.Boolean places = []
of_references elem.Byte places = []
of_references elem.Char places = []
of_references elem.Short places = []
of_references elem.Int places = []
of_references elem.Long places = []

-- where the field that is named holds references
abbrev pub of_reference_field : Outline → Use → List (RowPlace × RowPlace) → List (RowPlace × RowPlace)
of_reference_field o u places = if is_reference_field o u then places else []

-- an object with what is read from it or put into it; what static fields and throwing lead to is Outside; a new object is joined with nothing yet
unfoldable pub joined_by : Outline → Use → Insn → List (RowPlace × RowPlace)
joined_by o u insn.Pop = joined_by_move (moves_of insn.Pop)
joined_by o u insn.Pop2 = joined_by_move (moves_of insn.Pop2)
joined_by o u insn.Dup = joined_by_move (moves_of insn.Dup)
joined_by o u insn.DupX1 = joined_by_move (moves_of insn.DupX1)
joined_by o u insn.DupX2 = joined_by_move (moves_of insn.DupX2)
joined_by o u insn.Dup2 = joined_by_move (moves_of insn.Dup2)
joined_by o u insn.Dup2X1 = joined_by_move (moves_of insn.Dup2X1)
joined_by o u insn.Dup2X2 = joined_by_move (moves_of insn.Dup2X2)
joined_by o u insn.Swap = joined_by_move (moves_of insn.Swap)
joined_by o u (insn.Load kind local) = joined_to_load kind local
joined_by o u (insn.Store kind local) = joined_to_store kind local
joined_by o u (insn.Cast index) = (Taken 0, Given 0) ∷ []
joined_by o u (insn.GetField index) = of_reference_field o u ((Taken 0, Given 0) ∷ [])
joined_by o u (insn.PutField index) = of_reference_field o u ((Taken 1, Taken 0) ∷ [])
joined_by o u (insn.ArrayLoad e) = of_references e ((Taken 1, Given 0) ∷ [])
joined_by o u (insn.ArrayStore e) = of_references e ((Taken 2, Taken 0) ∷ [])
joined_by o u (insn.GetStatic index) = of_reference_field o u ((Given 0, Outside) ∷ [])
joined_by o u (insn.PutStatic index) = of_reference_field o u ((Taken 0, Outside) ∷ [])
joined_by o u insn.Throw = (Taken 0, Outside) ∷ []
joined_by o u (insn.Return value) = joined_to_return value
-- other instructions join nothing; calls do by what the methods that are called link
joined_by o u i = []
