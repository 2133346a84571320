-- The effect of the row that shows a value as a text.
use Rattle.std.proofs.Common.{◌≡◌, ℕ, List, Option, Result}
use Rattle.std.specs.Global.{Vec}
use Rattle.fm_frames.specs.Effects.{making}
use Rattle.fm_frames.specs.NativeRows.{native_effect, shown_words, string_native, text_made}
use Rattle.fm_frames.specs.declared.natives.Shown.{Shown}
use Rattle.fm_frames.specs.declared.natives.Native.TheVariants.{ValueOf}
use Rattle.fm_frames.specs.Sights.{Sight}
use Rattle.fm_native.specs.declared.asked.OperandRefusal.{OperandRefusal}
use Rattle.fm_native.specs.inner.Asked.{asked}
use Rattle.fm_native.specs.inner.Shown.{AsksUnits}
use Rattle.fm_world.specs.Programs.{Outline}

pub value-is : (o : Outline) (byte : Option ℕ) (s : List Sight) (shown : Shown) (operand : ℕ) (found : Result (Vec ℕ) OperandRefusal) → AsksUnits o s shown operand found
    → native_effect o (ValueOf shown) byte s ≡ asked o operand found (λ units. making (shown_words shown) (text_made o units.items))
unfolding native_effect string_native
value-is o byte s shown operand found asks = asks (λ units. making (shown_words shown) (text_made o units))
