-- What rows require of objects that have a text in a hidden field, as the code finds it out.
use Rattle.std.specs.Prelude.{◌≡◌, ℕ, ◌^◌, ◌<◌, ◌||◌, Bool, true, codes, List, [], Option, Some, None, Result, IfSome, option_map}
use Rattle.std.specs.List.{slice_index_or}
use Rattle.fm_base.specs.declared.kinds.TypeRef.{TypeRef}
use Rattle.fm_cells.specs.Answers.{head_of}
use Rattle.fm_cells.specs.Objects.{Object}
use Rattle.fm_cells.specs.Stores.{object_at, Store}
use Rattle.fm_frames.specs.Effects.{Effect}
use Rattle.fm_frames.specs.NativeRows.{on_built}
use Rattle.fm_frames.specs.Operands.{on_inner, on_passing}
use Rattle.fm_frames.specs.Sights.{has_hidden_field, Looks, Sight, type_numbered}
use Rattle.fm_frames.specs.States.{State}
use Rattle.fm_native.specs.declared.asked.Held.{Held}
use Rattle.fm_native.specs.declared.asked.OperandRefusal.{OperandRefusal}
use Rattle.fm_native.specs.declared.asked.Text.{Text}
use Rattle.fm_native.specs.declared.hidden.Built.{Built}
use Rattle.fm_native.specs.inner.Asked.{asked, IsHeldAt, IsTextAt, on_cell, units_in}
use Rattle.fm_types.specs.Fits.{fits_type}
use Rattle.fm_types.specs.Named.{built_in_type, throwable_type}
use Rattle.fm_world.specs.Programs.{Outline}

-- an object that passes a test was asked for at an operand, and this is what was found
abbrev pub AsksFitting : (Looks → Bool) → Outline → Store → List Sight → ℕ → Result Held OperandRefusal → Type 0
AsksFitting test o store s operand found =
    (follows : Looks → Effect) → on_passing o test s operand follows ≡ asked o operand found (on_cell o store follows)

-- objects of the type build texts
abbrev pub builds_text : Outline → TypeRef → Bool
builds_text o t =
    fits_type o.classes t (built_in_type o (codes "java/lang/StringBuilder"))
    || fits_type o.classes t (built_in_type o (codes "java/lang/StringBuffer"))

-- the test of throwables
abbrev pub is_throwable : Outline → Looks → Bool
is_throwable o it = fits_type o.classes it.type (throwable_type o)

-- the object that was found has a hidden field, in which a cell lies
pub record HidesText (o : Outline) (store : Store) (held : Held) : Type 0 where
  pub object : Object
  pub at : object_at store held.cell.0 ≡ Some object
  pub head_is : head_of object ≡ held.head
  pub field : has_hidden_field o (type_numbered o object.class) ≡ true
  pub wide : object.pack ≡ 1
  pub cell : slice_index_or object.elements 0 0 < 2 ^ 32

-- it was asked what the hidden field of an object leads to, and this is what was found
abbrev pub AsksInner : Outline → Store → Held → Result (Option Text) OperandRefusal → Type 0
AsksInner o store held found =
    (operand : ℕ) (follows : Option (List ℕ) → Effect)
    → on_cell o store (λ it. on_inner o operand it follows) held ≡ asked o operand found (λ text. follows (option_map (units_in store) text))

-- the units that were built so far: none where there is no text
abbrev pub units_so_far : Store → Option Text → List ℕ
units_so_far store None = []
units_so_far store (Some text) = units_in store text

-- a text that is built was asked for at an operand, and this is what was found
abbrev pub AsksBuilt : Outline → Store → List Sight → ℕ → Result Built OperandRefusal → Type 0
AsksBuilt o store s operand found =
    (follows : List ℕ → Effect) → on_built o s operand follows ≡ asked o operand found (λ built. follows (units_so_far store built.text))

-- what is known of a text that is built
pub record KnownBuilt (o : Outline) (store : Store) (x : State) (operand : ℕ) (built : Built) : Type 0 where
  pub held : IsHeldAt store x operand built.held
  pub hides : HidesText o store built.held
  pub text : IfSome built.text (IsTextAt store)
