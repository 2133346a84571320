-- The effects of the rows of objects that have a text in a hidden field, by what their operands are.
use Rattle.std.proofs.Common.{◌≡◌, ℕ, ℤ, ◌+◌, int_lt, pos, unsigned_abs, if◌then◌else◌, Bool, List, [], ◌∷◌, ◌++◌, length, Option, Result, Ok, Err, IfOk, option_map, ap, sym, ◌∙◌}
use Rattle.std.specs.Global.{Vec}
use Rattle.std.specs.List.{slice_index_or}
use Rattle.std.proofs.Math.Bool.{or-not_self}
use Rattle.fm_base.specs.declared.kinds.TypeRef.{TypeRef}
use Rattle.fm_cells.specs.Stores.{Store}
use Rattle.fm_cells.specs.declared.answers.Head.{Head}
use Rattle.fm_frames.specs.Effects.{Effect, OfOperand, OfPlace, Plain, Put, acting, int_word, making, words}
use Rattle.fm_frames.specs.NativeRows.{builder_native, char_at, has_text, is_builder, native_effect, on_shown, shown_words, text_kind, text_made, throwable_native, throwable_text, thrown_outside, with_length}
use Rattle.fm_frames.specs.declared.natives.Shown.{Shown}
use Rattle.fm_frames.specs.declared.natives.Native.TheVariants.{Append, BufferInitOf, BuilderCharAt, BuilderInit, BuilderLength, BuilderSetLength, BuilderToString, GetMessage, ThrowableInit, ThrowableInitOf, ThrowableToString}
use Rattle.fm_frames.specs.Operands.{on_inner, on_inner_of, on_int, on_passing, on_text}
use Rattle.fm_frames.specs.Sights.{inner_of, looks, Looks, Sight, type_numbered}
use Rattle.fm_frames.specs.States.{null, State}
use Rattle.fm_native.proofs.Rows.{on_place}
use Rattle.fm_native.specs.declared.asked.Held.{Held}
use Rattle.fm_native.specs.declared.asked.OperandRefusal.{OperandRefusal}
use Rattle.fm_native.specs.declared.asked.Text.{Text}
use Rattle.fm_native.specs.declared.hidden.Built.{Built}
use Rattle.fm_native.specs.inner.Asked.{asked, AsksInt, AsksText, IsHeldAt, on_cell, on_found, refused, units_in}
use Rattle.fm_native.specs.inner.Hidden.{AsksBuilt, AsksFitting, AsksInner, HidesText, is_throwable, units_so_far}
use Rattle.fm_native.specs.inner.Shown.{AsksUnits}
use Rattle.fm_world.specs.Programs.{Outline}

-- what follows whatever the object is
pub whole-is : (test : Looks → Bool) (o : Outline) (store : Store) (x : State) (s : List Sight) (operand : ℕ) (e : Effect) (found : Result Held OperandRefusal)
    → AsksFitting test o store s operand found → IfOk found (IsHeldAt store x operand) → on_passing o test s operand (λ it. e) ≡ asked o operand found (λ held. e)
whole-is test o store x s operand e (Ok held) asks known = asks (λ it. e) ∙ ap (on_found o store (λ it. e)) known.at
whole-is test o store x s operand e (Err r) asks known = asks (λ it. e)

-- ---- constructors and messages

-- null is put into the hidden field
abbrev pub cleared : Outline → Effect
cleared o = acting 1 (Put (OfOperand 0) 0 (text_kind o) (Plain null) ∷ [])

pub builder-init : (o : Outline) (store : Store) (x : State) (byte : Option ℕ) (s : List Sight) (found : Result Held OperandRefusal)
    → AsksFitting (is_builder o) o store s 0 found → IfOk found (IsHeldAt store x 0)
    → native_effect o BuilderInit byte s ≡ asked o 0 found (λ held. cleared o)
unfolding native_effect builder_native
builder-init o store x byte s found asks known = whole-is (is_builder o) o store x s 0 (cleared o) found asks known

pub throwable-init : (o : Outline) (store : Store) (x : State) (byte : Option ℕ) (s : List Sight) (found : Result Held OperandRefusal)
    → AsksFitting (is_throwable o) o store s 0 found → IfOk found (IsHeldAt store x 0)
    → native_effect o ThrowableInit byte s ≡ asked o 0 found (λ held. cleared o)
unfolding native_effect throwable_native
throwable-init o store x byte s found asks known = whole-is (is_throwable o) o store x s 0 (cleared o) found asks known

abbrev pub kept_message : Outline → Effect
kept_message o = acting 2 (Put (OfOperand 1) 0 (text_kind o) (OfOperand 0) ∷ [])

pub throwable-init-of : (o : Outline) (store : Store) (x : State) (byte : Option ℕ) (s : List Sight) (found : Result Held OperandRefusal)
    → AsksFitting (is_throwable o) o store s 1 found → IfOk found (IsHeldAt store x 1)
    → native_effect o ThrowableInitOf byte s ≡ asked o 1 found (λ held. kept_message o)
unfolding native_effect throwable_native
throwable-init-of o store x byte s found asks known = whole-is (is_throwable o) o store x s 1 (kept_message o) found asks known

abbrev pub told_message : Outline → Effect
told_message o = words 1 (OfPlace 0 0 (text_kind o) ∷ [])

pub message-is : (o : Outline) (store : Store) (x : State) (byte : Option ℕ) (s : List Sight) (found : Result Held OperandRefusal)
    → AsksFitting (is_throwable o) o store s 0 found → IfOk found (IsHeldAt store x 0)
    → native_effect o GetMessage byte s ≡ asked o 0 found (λ held. told_message o)
unfolding native_effect throwable_native
message-is o store x byte s found asks known = whole-is (is_throwable o) o store x s 0 (told_message o) found asks known

-- ---- texts that are built

-- the units that are appended, and the object is given
abbrev pub appended : Outline → (operand : ℕ) → List ℕ → Effect
appended o operand units = record (acting (operand + 1) (has_text o operand units)) { gives = OfOperand operand ∷ [] }

pub append-refused : (o : Outline) (store : Store) (byte : Option ℕ) (s : List Sight) (shown : Shown) (r : OperandRefusal) → AsksBuilt o store s (shown_words shown) (Err r)
    → native_effect o (Append shown) byte s ≡ refused o (shown_words shown) r
unfolding native_effect builder_native
append-refused o store byte s shown r asks =
    asks (λ units. on_shown o shown s (λ added. appended o (shown_words shown) (units ++ added)))

pub append-is : (o : Outline) (store : Store) (byte : Option ℕ) (s : List Sight) (shown : Shown) (built : Built) (operand : ℕ) (found : Result (Vec ℕ) OperandRefusal)
    → AsksBuilt o store s (shown_words shown) (Ok built) → AsksUnits o s shown operand found
    → native_effect o (Append shown) byte s
    ≡ asked o operand found (λ added. appended o (shown_words shown) (units_so_far store built.text ++ added.items))
unfolding native_effect builder_native
append-is o store byte s shown built operand found asks asks-units =
    asks (λ units. on_shown o shown s (λ added. appended o (shown_words shown) (units ++ added)))
    ∙ asks-units (λ added. appended o (shown_words shown) (units_so_far store built.text ++ added))

pub built-length : (o : Outline) (store : Store) (byte : Option ℕ) (s : List Sight) (found : Result Built OperandRefusal) → AsksBuilt o store s 0 found
    → native_effect o BuilderLength byte s ≡ asked o 0 found (λ built. words 1 (int_word (pos (length (units_so_far store built.text)))))
unfolding native_effect builder_native
built-length o store byte s found asks = asks (λ units. words 1 (int_word (pos (length units))))

pub built-text : (o : Outline) (store : Store) (byte : Option ℕ) (s : List Sight) (found : Result Built OperandRefusal) → AsksBuilt o store s 0 found
    → native_effect o BuilderToString byte s ≡ asked o 0 found (λ built. making 1 (text_made o (units_so_far store built.text)))
unfolding native_effect builder_native
built-text o store byte s found asks = asks (λ units. making 1 (text_made o units))

pub built-char-refused : (o : Outline) (store : Store) (byte : Option ℕ) (s : List Sight) (r : OperandRefusal) → AsksBuilt o store s 1 (Err r)
    → native_effect o BuilderCharAt byte s ≡ refused o 1 r
unfolding native_effect builder_native
built-char-refused o store byte s r asks = asks (on_place o s)

pub built-char : (o : Outline) (store : Store) (byte : Option ℕ) (s : List Sight) (built : Built) (found : Result ℤ OperandRefusal) → AsksBuilt o store s 1 (Ok built)
    → AsksInt o s 0 found → native_effect o BuilderCharAt byte s ≡ asked o 0 found (λ i. char_at o (units_so_far store built.text) i)
unfolding native_effect builder_native
built-char o store byte s built found asks asks-int = asks (on_place o s) ∙ asks-int (λ i. char_at o (units_so_far store built.text) i)

-- what follows of what is built and a length
abbrev on_length : Outline → List Sight → List ℕ → Effect
on_length o s units = on_int s 0 (λ len. with_length o units len)

pub resize-refused : (o : Outline) (store : Store) (byte : Option ℕ) (s : List Sight) (r : OperandRefusal) → AsksBuilt o store s 1 (Err r)
    → native_effect o BuilderSetLength byte s ≡ refused o 1 r
unfolding native_effect builder_native
resize-refused o store byte s r asks = asks (on_length o s)

pub resize-is : (o : Outline) (store : Store) (byte : Option ℕ) (s : List Sight) (built : Built) (found : Result ℤ OperandRefusal) → AsksBuilt o store s 1 (Ok built)
    → AsksInt o s 0 found → native_effect o BuilderSetLength byte s ≡ asked o 0 found (λ len. with_length o (units_so_far store built.text) len)
unfolding native_effect builder_native
resize-is o store byte s built found asks asks-int = asks (on_length o s) ∙ asks-int (λ len. with_length o (units_so_far store built.text) len)

-- each index lies outside where there is no unit
pub none-there : (o : Outline) (i : ℤ) → char_at o [] i ≡ thrown_outside o
none-there o i =
    ap (λ b. if b then thrown_outside o else words 2 (int_word (pos (slice_index_or [] (unsigned_abs i) 0)))) (or-not_self (int_lt i (pos 0)))

-- what follows of the text with which a StringBuffer begins
abbrev begun_with : Outline → List Sight → Effect
begun_with o s = on_text o s 0 (λ units. acting 2 (has_text o 1 units))

pub buffer-refused : (o : Outline) (store : Store) (byte : Option ℕ) (s : List Sight) (r : OperandRefusal) → AsksFitting (is_builder o) o store s 1 (Err r)
    → native_effect o BufferInitOf byte s ≡ refused o 1 r
unfolding native_effect builder_native
buffer-refused o store byte s r asks = asks (λ it. begun_with o s)

pub buffer-is : (o : Outline) (store : Store) (x : State) (byte : Option ℕ) (s : List Sight) (held : Held) (found : Result Text OperandRefusal)
    → AsksFitting (is_builder o) o store s 1 (Ok held) → IsHeldAt store x 1 held → AsksText o store s 0 found
    → native_effect o BufferInitOf byte s ≡ asked o 0 found (λ text. acting 2 (has_text o 1 (units_in store text)))
unfolding native_effect builder_native
buffer-is o store x byte s held found asks known asks-text =
    asks (λ it. begun_with o s) ∙ ap (on_found o store (λ it. begun_with o s)) known.at ∙ asks-text (λ units. acting 2 (has_text o 1 units))

-- ---- the text of a throwable

abbrev text_of_throwable : Outline → TypeRef → Option (List ℕ) → Effect
text_of_throwable o t message = making 1 (text_made o (throwable_text o t message))

pub shown-refused : (o : Outline) (store : Store) (byte : Option ℕ) (s : List Sight) (r : OperandRefusal) → AsksFitting (is_throwable o) o store s 0 (Err r)
    → native_effect o ThrowableToString byte s ≡ refused o 0 r
unfolding native_effect throwable_native
shown-refused o store byte s r asks = asks (λ it. on_inner o 0 it (λ message. text_of_throwable o it.type message))

-- the type is that of the object that was found
typed-at : (o : Outline) (store : Store) (held : Held) → HidesText o store held
    → on_cell o store (λ it. on_inner o 0 it (λ message. text_of_throwable o it.type message)) held
    ≡ on_cell o store (λ it. on_inner o 0 it (λ message. text_of_throwable o (type_numbered o held.head.class) message)) held
unfolding looks
typed-at o store held hides =
    ap (on_found o store (λ it. on_inner o 0 it (λ message. text_of_throwable o it.type message))) hides.at
    ∙ ap (λ (h : Head). on_inner_of o 0 (inner_of o store hides.object) (λ message. text_of_throwable o (type_numbered o h.class) message)) hides.head_is
    ∙ sym (ap (on_found o store (λ it. on_inner o 0 it (λ message. text_of_throwable o (type_numbered o held.head.class) message))) hides.at)

pub shown-is : (o : Outline) (store : Store) (byte : Option ℕ) (s : List Sight) (held : Held) (found : Result (Option Text) OperandRefusal)
    → AsksFitting (is_throwable o) o store s 0 (Ok held) → HidesText o store held → AsksInner o store held found
    → native_effect o ThrowableToString byte s
    ≡ asked o 0 found (λ message. making 1 (text_made o (throwable_text o (type_numbered o held.head.class) (option_map (units_in store) message))))
unfolding native_effect throwable_native
shown-is o store byte s held found asks hides inner =
    asks (λ it. on_inner o 0 it (λ message. text_of_throwable o it.type message)) ∙ typed-at o store held hides
    ∙ inner 0 (λ message. text_of_throwable o (type_numbered o held.head.class) message)
