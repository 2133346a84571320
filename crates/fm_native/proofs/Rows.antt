-- The effects of the rows of built-in methods, by what their operands are; and how a row's step follows from its effect.
use Rattle.std.proofs.Common.{◌≡◌, ℕ, ℤ, pos, List, [], ◌∷◌, length, Option, Result, Ok, Err, refl, ap, sym, ◌∙◌, subst}
use Rattle.fm_cells.specs.Stores.{Store}
use Rattle.fm_cells.specs.declared.answers.Head.{Head}
use Rattle.fm_frames.specs.Acts.{Choose}
use Rattle.fm_frames.specs.Effects.{Effect, Exits, OfOperand, SameOperands, going, int_word, making, words}
use Rattle.fm_frames.specs.NativeRows.{byte_read, char_at, class_native, compared, hash_from, hash_of, native_effect, object_native, stream_native, string_native, text_made}
use Rattle.fm_frames.specs.declared.natives.Native.{Native}
use Rattle.fm_frames.specs.declared.natives.Native.TheVariants.{CharAt, ClassGetName, CompareTo, Exit, ObjectEquals, ObjectHashCode, ObjectInit, Read, StringHashCode, StringLength, StringToString}
use Rattle.fm_frames.specs.Operands.{on_int, on_text, thrown_null}
use Rattle.fm_frames.specs.Sights.{looks, Looks, Sight}
use Rattle.fm_frames.specs.States.{State}
use Rattle.fm_frames.specs.inner.Doings.{DoesIn, seen}
use Rattle.fm_native.specs.Doing.{DoesRow}
use Rattle.fm_native.specs.declared.asked.Held.{Held}
use Rattle.fm_native.specs.declared.asked.OperandRefusal.{OperandRefusal}
use Rattle.fm_native.specs.declared.asked.Text.{Text}
use Rattle.fm_native.specs.inner.Asked.{asked, AsksClass, AsksHeld, AsksInt, AsksText, IsHeldAt, on_cell, on_found, refused, units_in}
use Rattle.fm_world.specs.Programs.{Outline, Program}

-- ---- rows

-- a row does what its effect says, where it did what an equal one says
pub carried : (p : Program) (choose : Choose) (x y : State) (n : Native) (f : Effect) → ((byte : Option ℕ) → native_effect p.outline n byte (seen p x) ≡ f)
    → DoesIn p choose x y f → DoesRow p choose x y n
carried p choose x y n f same does byte = subst (DoesIn p choose x y) (sym (same byte)) does

-- ---- Object

pub init-is : (o : Outline) (byte : Option ℕ) (s : List Sight) → native_effect o ObjectInit byte s ≡ words 1 []
unfolding native_effect object_native
init-is o byte s = refl

pub equals-is : (o : Outline) (byte : Option ℕ) (s : List Sight) → native_effect o ObjectEquals byte s ≡ words 2 (SameOperands ∷ [])
unfolding native_effect object_native
equals-is o byte s = refl

abbrev pub hashed : Looks → Effect
hashed it = words 1 (int_word (hash_of it.birth))

pub hash_code-is : (o : Outline) (store : Store) (byte : Option ℕ) (s : List Sight) (found : Result Held OperandRefusal) → AsksHeld o store s 0 found
    → native_effect o ObjectHashCode byte s ≡ asked o 0 found (on_cell o store hashed)
unfolding native_effect object_native
hash_code-is o store byte s found asks = asks (thrown_null o) hashed

-- the hash of an object that was found
pub hashed-at : (o : Outline) (store : Store) (x : State) (operand : ℕ) (held : Held) → IsHeldAt store x operand held
    → on_cell o store hashed held ≡ words 1 (int_word (hash_of held.head.birth))
unfolding looks
hashed-at o store x operand held known =
    ap (on_found o store hashed) known.at ∙ ap (λ (h : Head). words 1 (int_word (hash_of h.birth))) known.head_is

-- ---- Class

pub name-is : (o : Outline) (store : Store) (byte : Option ℕ) (s : List Sight) (found : Result Text OperandRefusal) → AsksClass o store s 0 found
    → native_effect o ClassGetName byte s ≡ asked o 0 found (λ text. making 1 (text_made o (units_in store text)))
unfolding native_effect class_native
name-is o store byte s found asks = asks (λ units. making 1 (text_made o units))

-- ---- String

pub length-is : (o : Outline) (store : Store) (byte : Option ℕ) (s : List Sight) (found : Result Text OperandRefusal) → AsksText o store s 0 found
    → native_effect o StringLength byte s ≡ asked o 0 found (λ text. words 1 (int_word (pos (length (units_in store text)))))
unfolding native_effect string_native
length-is o store byte s found asks = asks (λ units. words 1 (int_word (pos (length units))))

pub hash-is : (o : Outline) (store : Store) (byte : Option ℕ) (s : List Sight) (found : Result Text OperandRefusal) → AsksText o store s 0 found
    → native_effect o StringHashCode byte s ≡ asked o 0 found (λ text. words 1 (int_word (hash_from (pos 0) (units_in store text))))
unfolding native_effect string_native
hash-is o store byte s found asks = asks (λ units. words 1 (int_word (hash_from (pos 0) units)))

pub itself-is : (o : Outline) (store : Store) (byte : Option ℕ) (s : List Sight) (found : Result Text OperandRefusal) → AsksText o store s 0 found
    → native_effect o StringToString byte s ≡ asked o 0 found (λ text. words 1 (OfOperand 0 ∷ []))
unfolding native_effect string_native
itself-is o store byte s found asks = asks (λ units. words 1 (OfOperand 0 ∷ []))

-- what follows of the two texts that are compared
abbrev on_others : Outline → List Sight → List ℕ → Effect
on_others o s units = on_text o s 0 (λ others. words 2 (int_word (compared units others)))

pub compared-refused : (o : Outline) (store : Store) (byte : Option ℕ) (s : List Sight) (r : OperandRefusal) → AsksText o store s 1 (Err r)
    → native_effect o CompareTo byte s ≡ refused o 1 r
unfolding native_effect string_native
compared-refused o store byte s r asks = asks (on_others o s)

pub compared-is : (o : Outline) (store : Store) (byte : Option ℕ) (s : List Sight) (text : Text) (found : Result Text OperandRefusal) → AsksText o store s 1 (Ok text)
    → AsksText o store s 0 found
    → native_effect o CompareTo byte s ≡ asked o 0 found (λ other. words 2 (int_word (compared (units_in store text) (units_in store other))))
unfolding native_effect string_native
compared-is o store byte s text found asks asks-other =
    asks (on_others o s) ∙ asks-other (λ others. words 2 (int_word (compared (units_in store text) others)))

-- what follows of a text and a place in it
abbrev pub on_place : Outline → List Sight → List ℕ → Effect
on_place o s units = on_int s 0 (λ i. char_at o units i)

pub char-refused : (o : Outline) (store : Store) (byte : Option ℕ) (s : List Sight) (r : OperandRefusal) → AsksText o store s 1 (Err r)
    → native_effect o CharAt byte s ≡ refused o 1 r
unfolding native_effect string_native
char-refused o store byte s r asks = asks (on_place o s)

pub char-is : (o : Outline) (store : Store) (byte : Option ℕ) (s : List Sight) (text : Text) (found : Result ℤ OperandRefusal) → AsksText o store s 1 (Ok text)
    → AsksInt o s 0 found → native_effect o CharAt byte s ≡ asked o 0 found (λ i. char_at o (units_in store text) i)
unfolding native_effect string_native
char-is o store byte s text found asks asks-int = asks (on_place o s) ∙ asks-int (λ i. char_at o (units_in store text) i)

-- ---- the end of the run, and the input

pub exit-is : (o : Outline) (byte : Option ℕ) (s : List Sight) (found : Result ℤ OperandRefusal) → AsksInt o s 0 found
    → native_effect o Exit byte s ≡ asked o 0 found (λ n. going 1 (Exits n))
unfolding native_effect stream_native
exit-is o byte s found asks = asks (λ n. going 1 (Exits n))

pub read-is : (o : Outline) (byte told : Option ℕ) (s : List Sight) → told ≡ byte → native_effect o Read byte s ≡ byte_read told
unfolding native_effect stream_native
read-is o byte told s is = ap byte_read (sym is)

-- the same of one input
pub carried-one : (p : Program) (choose : Choose) (x y : State) (e f : Effect) → e ≡ f → DoesIn p choose x y f → DoesIn p choose x y e
carried-one p choose x y e f same does = subst (DoesIn p choose x y) (sym same) does
