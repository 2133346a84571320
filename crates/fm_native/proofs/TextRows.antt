-- The effects of the rows of texts that look at another object or at a part, and of what is printed.
use Rattle.std.proofs.Common.{◌≡◌, ℕ, ◌+◌, ℤ, pos, Bool, true, false, if◌then◌else◌, List, [], ◌∷◌, Option, Result, Ok, Err, refl, ◌∙◌}
use Rattle.std.specs.Char.Utf16.{utf16_chars}
use Rattle.std.specs.Global.{Vec}
use Rattle.fm_base.specs.Texts.{utf8}
use Rattle.fm_base.specs.declared.characters.TheConstants.{LINE_FEED}
use Rattle.fm_cells.specs.Stores.{Store}
use Rattle.fm_frames.specs.Effects.{Effect, int_word, making, printing, words}
use Rattle.fm_frames.specs.NativeRows.{equal_to, native_effect, shown_words, stream_native, string_native, text_made}
use Rattle.fm_frames.specs.declared.natives.Shown.{Shown}
use Rattle.fm_frames.specs.declared.natives.Native.TheVariants.{PrintlnNothing, StringEquals, Substring, ValueOfChars}
use Rattle.fm_frames.specs.Operands.{on_int}
use Rattle.fm_frames.specs.Sights.{Sight}
use Rattle.fm_native.specs.declared.asked.OperandRefusal.{OperandRefusal}
use Rattle.fm_native.specs.declared.asked.Text.{Text}
use Rattle.fm_native.specs.inner.Asked.{asked, AsksChars, AsksInt, AsksOther, AsksText, equals_other, part_up_to, refused, units_in}
use Rattle.fm_native.specs.inner.Shown.{AsksUnits, print_row, shown_bytes}
use Rattle.fm_world.specs.Programs.{Outline}

-- ---- equals

pub equal-refused : (o : Outline) (store : Store) (byte : Option ℕ) (s : List Sight) (r : OperandRefusal) → AsksText o store s 1 (Err r)
    → native_effect o StringEquals byte s ≡ refused o 1 r
unfolding native_effect string_native
equal-refused o store byte s r asks = asks (λ units. equal_to o units s)

-- 1 for true
abbrev pub told_equal : Bool → Effect
told_equal equal = words 2 (int_word (if equal then pos 1 else pos 0))

pub equal-is : (o : Outline) (store : Store) (byte : Option ℕ) (s : List Sight) (text : Text) (found : Result (Option Text) OperandRefusal) → AsksText o store s 1 (Ok text)
    → AsksOther o store s found → native_effect o StringEquals byte s ≡ asked o 0 found (λ other. told_equal (equals_other store text other))
unfolding native_effect string_native
equal-is o store byte s text found asks asks-other = asks (λ units. equal_to o units s) ∙ asks-other text

-- ---- substring

-- what follows of the beginning
abbrev from_begin : Outline → List Sight → List ℕ → Effect
from_begin o s units = on_int s 1 (λ begin. part_up_to o s units begin)

pub part-refused : (o : Outline) (store : Store) (byte : Option ℕ) (s : List Sight) (r : OperandRefusal) → AsksText o store s 2 (Err r)
    → native_effect o Substring byte s ≡ refused o 2 r
unfolding native_effect string_native
part-refused o store byte s r asks = asks (λ units. from_begin o s units)

pub part-begun : (o : Outline) (store : Store) (byte : Option ℕ) (s : List Sight) (text : Text) (found : Result ℤ OperandRefusal) → AsksText o store s 2 (Ok text)
    → AsksInt o s 1 found → native_effect o Substring byte s ≡ asked o 1 found (λ begin. part_up_to o s (units_in store text) begin)
unfolding native_effect string_native
part-begun o store byte s text found asks asks-begin =
    asks (λ units. from_begin o s units) ∙ asks-begin (λ begin. part_up_to o s (units_in store text) begin)

-- ---- valueOf of chars

pub chars-text : (o : Outline) (store : Store) (byte : Option ℕ) (s : List Sight) (found : Result Text OperandRefusal) → AsksChars o store s 0 found
    → native_effect o ValueOfChars byte s ≡ asked o 0 found (λ chars. making 1 (text_made o (units_in store chars)))
unfolding native_effect string_native
chars-text o store byte s found asks = asks (λ units. making 1 (text_made o units))

-- ---- what is printed

pub print-is : (o : Outline) (byte : Option ℕ) (s : List Sight) (shown : Shown) (ends_line : Bool) (operand : ℕ) (found : Result (Vec ℕ) OperandRefusal)
    → AsksUnits o s shown operand found
    → native_effect o (print_row shown ends_line) byte s
    ≡ asked o operand found (λ units. printing (shown_words shown + 1) (shown_bytes units.items ends_line))
unfolding native_effect stream_native
print-is o byte s shown false operand found asks = asks (λ units. printing (shown_words shown + 1) (shown_bytes units false))
print-is o byte s shown true operand found asks = asks (λ units. printing (shown_words shown + 1) (shown_bytes units true))

pub line-end-is : (o : Outline) (byte : Option ℕ) (s : List Sight) → native_effect o PrintlnNothing byte s ≡ printing 1 (LINE_FEED ∷ [])
unfolding native_effect stream_native utf8 utf16_chars
line-end-is o byte s = refl
