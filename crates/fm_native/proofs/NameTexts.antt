-- The texts of objects.
use Rattle.std.proofs.Common.{◌≡◌, ℕ, ◌<◌, ◌^◌, false, List, ◌∷◌, ◌++◌, Option, Ok, Err, ap, ◌∙◌, subst}
use Rattle.std.specs.List.{All}
use Rattle.fm_cells.specs.declared.answers.Head.{Head}
use Rattle.fm_frames.specs.Effects.{making}
use Rattle.fm_frames.specs.Operands.{thrown_null}
use Rattle.fm_frames.specs.NativeRows.{at_sign, native_effect, object_native, object_text, text_made, type_name}
use Rattle.fm_frames.specs.declared.natives.Native.TheVariants.{ObjectToString}
use Rattle.fm_frames.specs.Sights.{looks, Sight, type_numbered}
use Rattle.fm_native.specs.declared.asked.Held.{Held}
use Rattle.fm_native.specs.declared.asked.OperandRefusal.{OperandRefusal}
use Rattle.fm_native.specs.inner.Asked.{AsksHeld, IsHeldAt, on_found, refused}
use Rattle.fm_native.specs.inner.Names.{type_name_of}
use Rattle.fm_native.specs.Serving.{HoldsNames}
use Rattle.fm_cells.specs.Stores.{Store}
use Rattle.fm_frames.specs.States.{State}
use Rattle.fm_world.specs.Programs.{Outline}
use Rattle.std.specs.Fmt.{digits}

-- ---- the text of an object

pub object-refused : (o : Outline) (store : Store) (byte : Option ℕ) (s : List Sight) (r : OperandRefusal) → AsksHeld o store s 0 (Err r)
    → native_effect o ObjectToString byte s ≡ refused o 0 r
unfolding native_effect object_native
object-refused o store byte s r asks = asks (thrown_null o) (λ it. making 1 (text_made o (object_text o it)))

-- the text of an object that was found
abbrev pub text_of_held : Outline → Held → List ℕ
text_of_held o held = type_name_of o held ++ at_sign ∷ digits 16 false held.head.birth

pub object-is : (o : Outline) (store : Store) (x : State) (byte : Option ℕ) (s : List Sight) (held : Held) → AsksHeld o store s 0 (Ok held)
    → IsHeldAt store x 0 held → native_effect o ObjectToString byte s ≡ making 1 (text_made o (text_of_held o held))
unfolding native_effect object_native looks
object-is o store x byte s held asks known =
    asks (thrown_null o) (λ it. making 1 (text_made o (object_text o it)))
    ∙ ap (on_found o store (λ it. making 1 (text_made o (object_text o it)))) known.at
    ∙ ap (λ (h : Head). making 1 (text_made o (type_name o (type_numbered o h.class) ++ at_sign ∷ digits 16 false h.birth))) known.head_is

-- the units of its name
pub name-fits : (o : Outline) (store : Store) (x : State) (operand : ℕ) (held : Held) → HoldsNames o store → IsHeldAt store x operand held
    → All (λ unit. unit < 2 ^ 16) (type_name_of o held)
name-fits o store x operand held names known =
    subst (λ (h : Head). All (λ unit. unit < 2 ^ 16) (type_name o (type_numbered o h.class))) known.head_is (names.units held.cell.0 known.object known.at)
