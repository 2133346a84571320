-- What rows require of what is shown, as the code finds it out.
use Rattle.std.specs.Prelude.{◌≡◌, ℕ, Bool, false, true, List, [], ◌∷◌, ◌++◌, Result}
use Rattle.std.specs.Global.{Vec}
use Rattle.fm_base.specs.Texts.{utf8}
use Rattle.fm_base.specs.declared.characters.TheConstants.{LINE_FEED}
use Rattle.fm_frames.specs.Effects.{Effect}
use Rattle.fm_frames.specs.NativeRows.{on_shown}
use Rattle.fm_frames.specs.declared.natives.Native.{Native}
use Rattle.fm_frames.specs.declared.natives.Shown.{Shown}
use Rattle.fm_frames.specs.declared.natives.Native.TheVariants.{Print, Println}
use Rattle.fm_frames.specs.declared.natives.Shown.TheVariants.{Long as ShownLong}
use Rattle.fm_frames.specs.Sights.{Sight}
use Rattle.fm_native.specs.declared.asked.OperandRefusal.{OperandRefusal}
use Rattle.fm_native.specs.inner.Asked.{asked}
use Rattle.fm_world.specs.Programs.{Outline}

-- the operand that is looked at: of a long its first half, which lies below the second one
abbrev pub operand_of : Shown → ℕ
operand_of ShownLong = 1
operand_of shown = 0

-- the units of what is shown were asked for, and this is what was found
abbrev pub AsksUnits : Outline → List Sight → Shown → ℕ → Result (Vec ℕ) OperandRefusal → Type 0
AsksUnits o s shown operand found =
    (follows : List ℕ → Effect) → on_shown o shown s follows ≡ asked o operand found (λ units. follows units.items)

-- the units as they are printed, and the end of the line where it is asked for
abbrev pub shown_bytes : List ℕ → (ends_line : Bool) → List ℕ
shown_bytes units false = utf8 units
shown_bytes units true = utf8 units ++ LINE_FEED ∷ []

-- the row of print or println
abbrev pub print_row : Shown → (ends_line : Bool) → Native
print_row shown false = Print shown
print_row shown true = Println shown
