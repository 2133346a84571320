-- What holds of all that the rows of built-in methods can lead to holds of each of these rows: the only proof that goes through them one by one.
-- A law over all of them gives what it has for each way in which rows ask for operands, and for each sort of effect that they end with.
use Rattle.std.proofs.Common.{◌≡◌, ◌⊎◌, inl, inr, ℕ, ℤ, pos, ◌+◌, ◌-◌, ◌<◌, ◌||◌, not, int_lt, unsigned_abs, Bool, true, false, List, [], ◌∷◌, ◌++◌, codes, length, drop, take, replicate, Option, Some, None, refl, slice_get, slice_index_or}
use Rattle.std.proofs.lemmas.Bool.{cond_both}
use Rattle.std.specs.Fmt.{digits}
use Rattle.fm_types.specs.Fits.{fits_type}
use Rattle.fm_types.specs.Named.{throwable_type}
use Rattle.fm_world.specs.Programs.{Outline}
use Rattle.fm_frames.specs.Effects.{acting, Copy, Effect, Exits, Free, FreeChain, giving_literal, going, int_word, making, OfOperand, OfPlace, Plain, printing, Put, SameOperands, SetChain, stuck, words}
use Rattle.fm_frames.specs.NativeRows.{arguments_words, at_sign, builder_native, class_given_by, class_native, char_at, copy_of, free_native, has_text, is_builder, is_copied, linked, native_effect, native_words, object_native, on_builder, on_built, on_shown, resized, shown_words, stream_native, string_native, text_kind, text_made, throwable_native, throwable_text, thrown_outside, type_name, with_length}
use Rattle.fm_frames.specs.Natives.{a_boolean, a_char, a_text, AGiven, an_int, AnObject, AnyReceiver, AShown, BuilderReceiver, ClassReceiver, Given, native_type, Nothing, Receiver, Returned, SomeChars, TextReceiver, ThrowableReceiver}
use Rattle.fm_frames.specs.declared.natives.Shown.{Shown}
use Rattle.fm_frames.specs.declared.natives.Native.{Native}
use Rattle.fm_frames.specs.declared.natives.Native.TheVariants.{ObjectInit, ObjectHashCode, ObjectEquals, ObjectToString, ObjectClone, ObjectGetClass, StringLength, CharAt, StringEquals, StringHashCode, CompareTo, StringToString, Substring, ValueOf, ValueOfChars, BuilderInit, Append, BuilderLength, BuilderToString, BuilderCharAt, BuilderSetLength, BufferInitOf, Exit, Print, Println, PrintlnNothing, Read, ThrowableInit, ThrowableInitOf, GetMessage, ThrowableToString, FreeMeFree, FreeMeLink, FreeMeFreeChain, ClassGetName}
use Rattle.fm_frames.specs.Literals.{class_literal}
use Rattle.fm_frames.specs.declared.natives.Shown.TheVariants.{Int as ShownInt, Char as ShownChar, Boolean as ShownBoolean}
use Rattle.fm_frames.specs.Operands.{on_any, on_class, on_chars, on_held, on_inner, on_int, on_object, on_text, thrown}
use Rattle.fm_frames.specs.Sights.{Looks, Sight, Thing}
use Rattle.fm_frames.specs.States.{null}
use Rattle.fm_world.specs.Chains.{same_type}
use Rattle.fm_world.specs.Numbers.{type_number}
use Rattle.std.proofs.lemmas.List.Quantifiers.{position-Some}

-- ---- what is known of operands and results

-- the operand is the row's receiver, of this sort
abbrev pub IsReceiver : Native → Receiver → ℕ → Type 0
IsReceiver native receiver n = ((native_type native).receiver ≡ receiver) × (n ≡ arguments_words (native_type native).arguments)

-- the topmost word of an argument of this type is the operand
abbrev pub IsAmong : List Given → ℕ → Given → Type 0
IsAmong [] n given = ⊥
IsAmong (argument ∷ []) n given = (argument ≡ given) × (n ≡ 0)
IsAmong (argument ∷ next ∷ arguments) n given =
    ((argument ≡ given) × (n ≡ arguments_words (next ∷ arguments))) ⊎ IsAmong (next ∷ arguments) n given

-- the same of the row's arguments
abbrev pub IsArgument : Native → ℕ → Given → Type 0
IsArgument native n given = IsAmong (native_type native).arguments n given

-- the words are those of the row
abbrev pub Takes : Native → ℕ → Type 0
Takes native n = n ≡ native_words native

-- this is what the row returns
abbrev pub Returns : Native → Returned → Type 0
Returns native result = (native_type native).result ≡ result

-- whether a value is an int on a stack
abbrev pub is_int : Shown → Bool
is_int ShownInt = true
is_int ShownChar = true
is_int ShownBoolean = true
is_int shown = false

-- the operand leads to this object
abbrev pub IsAt : List Sight → ℕ → Looks → Type 0
IsAt s n it = slice_get s n ≡ Some (Thing it)

-- the object may be thrown
abbrev pub IsThrowable : Outline → Looks → Type 0
IsThrowable o it = fits_type o.classes it.type (throwable_type o) ≡ true

-- the object has a hidden field for a text
abbrev pub HidesText : Outline → Looks → Type 0
HidesText o it = (is_builder o it ≡ true) ⊎ IsThrowable o it

-- ---- what a law gives

-- what holds of texts that are seen, and is kept as rows put them together
pub record KeepsUnits (o : Outline) (s : List Sight) (Units : List ℕ → Type 0) : Type 0 where
  pub empty : Units []
  pub append : (units others : List ℕ) → Units units → Units others → Units (units ++ others)
  pub take : (count : ℕ) (units : List ℕ) → Units units → Units (take count units)
  pub drop : (count : ℕ) (units : List ℕ) → Units units → Units (drop count units)
  pub zeros : (count : ℕ) → Units (replicate count 0)
  pub name : (n : ℕ) (it : Looks) → IsAt s n it → Units (type_name o it.type)
  pub colon : Units (codes ": ")
  pub hash : (birth : ℕ) → Units (at_sign ∷ digits 16 false birth)

-- where nothing is asked of texts
pub any_units : (o : Outline) (s : List Sight) → KeepsUnits o s (λ units. Unit {0})
any_units o s = record {
  empty = tt;
  append = λ units others fit fit_others. tt;
  take = λ count units fit. tt;
  drop = λ count units fit. tt;
  zeros = λ count. tt;
  name = λ n it seen. tt;
  colon = tt;
  hash = λ birth. tt;
}

-- what holds of an effect that asks for an operand of the row, where it holds of what follows
pub record NativeAsks (o : Outline) (s : List Sight) (native : Native) (Units : List ℕ → Type 0) (A : Effect → Type 0) : Type 0 where
  -- the receiver, and what a hidden field of it leads to
  pub receiver_any : (n : ℕ) → IsReceiver native AnyReceiver n → (k : Looks → Effect) → ((it : Looks) → IsAt s n it → A (k it)) → A (on_any o s n k)
  pub receiver_text : (n : ℕ) → IsReceiver native TextReceiver n → (k : List ℕ → Effect) → ((units : List ℕ) → Units units → A (k units)) → A (on_text o s n k)
  pub receiver_class : (n : ℕ) → IsReceiver native ClassReceiver n → (k : List ℕ → Effect) → ((units : List ℕ) → Units units → A (k units)) → A (on_class o s n k)
  pub builder : (n : ℕ) → IsReceiver native BuilderReceiver n → (k : Looks → Effect)
      → ((it : Looks) → IsAt s n it → is_builder o it ≡ true → A (k it)) → A (on_builder o s n k)
  pub built : (n : ℕ) → IsReceiver native BuilderReceiver n → (k : List ℕ → Effect)
      → ((it : Looks) → IsAt s n it → is_builder o it ≡ true → (units : List ℕ) → Units units → A (k units)) → A (on_built o s n k)
  pub throwable : (n : ℕ) → IsReceiver native ThrowableReceiver n → (k : Looks → Effect)
      → ((it : Looks) → IsAt s n it → IsThrowable o it → A (k it)) → A (on_object o (throwable_type o) s n k)
  pub message : (n : ℕ) (it : Looks) → IsAt s n it → IsThrowable o it → (k : Option (List ℕ) → Effect) → A (k None)
      → ((units : List ℕ) → Units units → A (k (Some units))) → A (on_inner o n it k)
  -- the arguments
  pub int : (n : ℕ) → IsArgument native n an_int → (k : ℤ → Effect) → ((z : ℤ) → A (k z)) → A (on_int s n k)
  pub text : (n : ℕ) → IsArgument native n a_text → (k : List ℕ → Effect) → ((units : List ℕ) → Units units → A (k units)) → A (on_text o s n k)
  pub chars : (n : ℕ) → IsArgument native n SomeChars → (k : List ℕ → Effect) → ((units : List ℕ) → Units units → A (k units)) → A (on_chars o s n k)
  pub object : (n : ℕ) → IsArgument native n AnObject → (none : Effect) (k : Looks → Effect) → A none → ((it : Looks) → IsAt s n it → A (k it))
      → A (on_held none s n k)
  pub shown : (shown : Shown) → (native_type native).arguments ≡ AShown shown ∷ [] → (k : List ℕ → Effect)
      → ((units : List ℕ) → Units units → A (k units)) → A (on_shown o shown s k)

-- what holds of the effects that end a row
pub record NativeLeaves (o : Outline) (s : List Sight) (native : Native) (Units : List ℕ → Type 0) (A : Effect → Type 0) : Type 0 where
  -- its words are taken, and its result is given
  pub nothing : (n : ℕ) → Takes native n → Returns native Nothing → A (words n [])
  pub number : (n : ℕ) (shown : Shown) → is_int shown ≡ true → Takes native n → Returns native (AGiven (AShown shown)) → (z : ℤ) → A (words n (int_word z))
  pub same : (n : ℕ) → Takes native n → Returns native (AGiven a_boolean) → A (words n (SameOperands ∷ []))
  pub text_given : (n : ℕ) → Takes native n → Returns native (AGiven a_text) → (units : List ℕ) → Units units → A (making n (text_made o units))
  -- input, output, the end of the run, and an index outside
  pub byte : (n : ℕ) → Takes native n → Returns native (AGiven an_int) → (z : ℤ) → A (record (words n (int_word z)) { reads = true })
  pub printed : (n : ℕ) → Takes native n → Returns native Nothing → (bytes : List ℕ) → A (printing n bytes)
  pub exits : (n : ℕ) → Takes native n → (z : ℤ) → A (going n (Exits z))
  pub outside : A (thrown_outside o)
  -- the hidden field of the receiver is set to null, or to a new text
  pub begun : (it : Looks) → IsAt s 0 it → HidesText o it → Takes native 1 → Returns native Nothing
      → A (acting 1 (Put (OfOperand 0) 0 (text_kind o) (Plain null) ∷ []))
  pub text_put : (n operand : ℕ) (it : Looks) → IsAt s operand it → HidesText o it → Takes native n → Returns native Nothing → (units : List ℕ) → Units units
      → A (acting n (has_text o operand units))
  -- what only one row does: where ends are linked
  pub itself : native ≡ StringToString → A (words 1 (OfOperand 0 ∷ []))
  pub appended : (shown : Shown) → native ≡ Append shown → (it : Looks) → IsAt s (shown_words shown) it → is_builder o it ≡ true → (units : List ℕ) → Units units
      → A (record (acting (shown_words shown + 1) (has_text o (shown_words shown) units)) { gives = OfOperand (shown_words shown) ∷ [] })
  pub message_put : native ≡ ThrowableInitOf → (it : Looks) → IsAt s 1 it → IsThrowable o it
      → A (acting 2 (Put (OfOperand 1) 0 (text_kind o) (OfOperand 0) ∷ []))
  pub message_given : native ≡ GetMessage → (it : Looks) → IsAt s 0 it → IsThrowable o it → A (words 1 (OfPlace 0 0 (text_kind o) ∷ []))
  -- the class literal of the receiver's type, where that has a number
  pub class_given : native ≡ ObjectGetClass → (it : Looks) → IsAt s 0 it → (type : ℕ) → type < length o.types
      → A (giving_literal 1 (class_literal o type))
  pub unnumbered : native ≡ ObjectGetClass → (it : Looks) → IsAt s 0 it → type_number o.types it.type ≡ None → A stuck
  -- and what FreeMe does
  pub freed : native ≡ FreeMeFree → (it : Looks) → IsAt s 0 it → A (acting 1 (Free 0 ∷ []))
  pub unlinked : native ≡ FreeMeLink → A (words 2 (OfOperand 0 ∷ []))
  pub linked : native ≡ FreeMeLink → (it : Looks) → IsAt s 1 it → it.fixed ≡ false → A (record (acting 2 (SetChain 1 0 ∷ [])) { gives = OfOperand 1 ∷ [] })
  pub chain_freed : native ≡ FreeMeFreeChain → A (acting 1 (FreeChain 0 ∷ []))
  -- a copy of the receiver, or that it may not be copied
  pub copied : native ≡ ObjectClone → (it : Looks) → IsAt s 0 it → is_copied o it.type ≡ true → A (making 1 (Copy it.type it.len 0))
  pub uncopied : native ≡ ObjectClone → A (thrown o (codes "java/lang/CloneNotSupportedException"))

-- ---- all rows

module _ (o : Outline) (s : List Sight) where
  -- the unit at an index, or that it lies outside
  char_leaves : (native : Native) (Units : List ℕ → Type 0) (A : Effect → Type 0) → NativeLeaves o s native Units A → Takes native 2 → Returns native (AGiven a_char)
      → (units : List ℕ) (i : ℤ) → A (char_at o units i)
  char_leaves native Units A l takes returns units i =
      cond_both (int_lt i (pos 0) || not (int_lt i (pos (length units)))) (thrown_outside o) (words 2 (int_word (pos (slice_index_or units (unsigned_abs i) 0)))) A
      (λ out. l.outside) (λ inside. l.number 2 ShownChar refl takes returns _)

  -- a type has a number, or it has none
  class_cases : (Units : List ℕ → Type 0) (A : Effect → Type 0) → NativeLeaves o s ObjectGetClass Units A → (it : Looks) → IsAt s 0 it
      → (number : Option ℕ) → type_number o.types it.type ≡ number → A (class_given_by o number)
  class_cases Units A l it seen None is = l.unnumbered refl it seen is
  class_cases Units A l it seen (Some type) is =
      l.class_given refl it seen type (position-Some (same_type it.type) o.types type it.type is).0

  pub native_cases : (native : Native) (Units : List ℕ → Type 0) (A : Effect → Type 0) → KeepsUnits o s Units → NativeAsks o s native Units A
      → NativeLeaves o s native Units A → (byte : Option ℕ) → A (native_effect o native byte s)
  unfolding native_effect object_native string_native builder_native stream_native throwable_native free_native class_native
  native_cases ObjectInit Units A keeps a l byte = l.nothing 1 refl refl
  native_cases ObjectHashCode Units A keeps a l byte = a.receiver_any 0 (refl, refl) _ (λ it seen. l.number 1 ShownInt refl refl refl _)
  native_cases ObjectEquals Units A keeps a l byte = l.same 2 refl refl
  native_cases ObjectToString Units A keeps a l byte =
      a.receiver_any 0 (refl, refl) _ (λ it seen. l.text_given 1 refl refl _ (keeps.append _ _ (keeps.name 0 it seen) (keeps.hash it.birth)))
  native_cases ObjectGetClass Units A keeps a l byte = a.receiver_any 0 (refl, refl) _ (λ it seen. class_cases Units A l it seen (type_number o.types it.type) refl)
  native_cases ObjectClone Units A keeps a l byte =
      a.receiver_any 0 (refl, refl) (copy_of o) (λ it seen.
      cond_both (is_copied o it.type) (making 1 (Copy it.type it.len 0)) (thrown o (codes "java/lang/CloneNotSupportedException")) A
      (λ may. l.copied refl it seen may) (λ lacks. l.uncopied refl))
  native_cases StringLength Units A keeps a l byte = a.receiver_text 0 (refl, refl) _ (λ units fit. l.number 1 ShownInt refl refl refl _)
  native_cases CharAt Units A keeps a l byte =
      a.receiver_text 1 (refl, refl) _ (λ units fit. a.int 0 (refl, refl) _ (char_leaves CharAt Units A l refl refl units))
  native_cases StringEquals Units A keeps a l byte =
      a.receiver_text 1 (refl, refl) _ (λ units fit. a.object 0 (refl, refl) _ _ (l.number 2 ShownBoolean refl refl refl _)
      (λ it seen. l.number 2 ShownBoolean refl refl refl _))
  native_cases StringHashCode Units A keeps a l byte = a.receiver_text 0 (refl, refl) _ (λ units fit. l.number 1 ShownInt refl refl refl _)
  native_cases CompareTo Units A keeps a l byte =
      a.receiver_text 1 (refl, refl) _ (λ units fit. a.text 0 (refl, refl) _ (λ others fit_others. l.number 2 ShownInt refl refl refl _))
  native_cases StringToString Units A keeps a l byte = a.receiver_text 0 (refl, refl) _ (λ units fit. l.itself refl)
  native_cases Substring Units A keeps a l byte =
      a.receiver_text 2 (refl, refl) _ (λ units fit. a.int 1 (inl (refl, refl)) _ (λ begin. a.int 0 (inr (refl, refl)) _ (λ end.
      cond_both (int_lt begin (pos 0) || int_lt end begin || int_lt (pos (length units)) end) (thrown_outside o)
      (making 3 (text_made o (take (unsigned_abs end - unsigned_abs begin) (drop (unsigned_abs begin) units)))) A
      (λ out. l.outside) (λ inside. l.text_given 3 refl refl _
      (keeps.take (unsigned_abs end - unsigned_abs begin) (drop (unsigned_abs begin) units) (keeps.drop (unsigned_abs begin) units fit))))))
  native_cases (ValueOf shown) Units A keeps a l byte = a.shown shown refl _ (λ units fit. l.text_given (shown_words shown) refl refl units fit)
  native_cases ValueOfChars Units A keeps a l byte = a.chars 0 (refl, refl) _ (λ units fit. l.text_given 1 refl refl units fit)
  native_cases BuilderInit Units A keeps a l byte = a.builder 0 (refl, refl) _ (λ it seen is. l.begun it seen (inl is) refl refl)
  native_cases (Append shown) Units A keeps a l byte =
      a.built (shown_words shown) (refl, refl)
      (λ units. on_shown o shown s
      (λ added. record (acting (shown_words shown + 1) (has_text o (shown_words shown) (units ++ added))) { gives = OfOperand (shown_words shown) ∷ [] }))
      (λ it seen is units fit. a.shown shown refl
      (λ added. record (acting (shown_words shown + 1) (has_text o (shown_words shown) (units ++ added))) { gives = OfOperand (shown_words shown) ∷ [] })
      (λ added fit_added. l.appended shown refl it seen is (units ++ added) (keeps.append units added fit fit_added)))
  native_cases BuilderLength Units A keeps a l byte =
      a.built 0 (refl, refl) (λ units. words 1 (int_word (pos (length units)))) (λ it seen is units fit. l.number 1 ShownInt refl refl refl _)
  native_cases BuilderToString Units A keeps a l byte =
      a.built 0 (refl, refl) (λ units. making 1 (text_made o units)) (λ it seen is units fit. l.text_given 1 refl refl units fit)
  native_cases BuilderCharAt Units A keeps a l byte =
      a.built 1 (refl, refl) (λ units. on_int s 0 (λ i. char_at o units i))
      (λ it seen is units fit. a.int 0 (refl, refl) (λ i. char_at o units i) (char_leaves BuilderCharAt Units A l refl refl units))
  native_cases BuilderSetLength Units A keeps a l byte =
      a.built 1 (refl, refl) (λ units. on_int s 0 (λ len. with_length o units len)) (λ it seen is units fit.
      a.int 0 (refl, refl) (λ len. with_length o units len) (λ len.
      cond_both (int_lt len (pos 0)) (thrown_outside o) (acting 2 (has_text o 1 (resized units (unsigned_abs len)))) A
      (λ negative. l.outside) (λ whole. l.text_put 2 1 it seen (inl is) refl refl (resized units (unsigned_abs len))
      (keeps.append _ _ (keeps.take (unsigned_abs len) units fit) (keeps.zeros (unsigned_abs len - length units))))))
  native_cases BufferInitOf Units A keeps a l byte =
      a.builder 1 (refl, refl) _ (λ it seen is. a.text 0 (refl, refl) (λ units. acting 2 (has_text o 1 units))
      (λ units fit. l.text_put 2 1 it seen (inl is) refl refl units fit))
  native_cases Exit Units A keeps a l byte = a.int 0 (refl, refl) _ (λ n. l.exits 1 refl n)
  native_cases (Print shown) Units A keeps a l byte = a.shown shown refl _ (λ units fit. l.printed (shown_words shown + 1) refl refl _)
  native_cases (Println shown) Units A keeps a l byte = a.shown shown refl _ (λ units fit. l.printed (shown_words shown + 1) refl refl _)
  native_cases PrintlnNothing Units A keeps a l byte = l.printed 1 refl refl _
  native_cases Read Units A keeps a l None = l.number 1 ShownInt refl refl refl _
  native_cases Read Units A keeps a l (Some byte) = l.byte 1 refl refl _
  native_cases ThrowableInit Units A keeps a l byte = a.throwable 0 (refl, refl) _ (λ it seen is. l.begun it seen (inr is) refl refl)
  native_cases ThrowableInitOf Units A keeps a l byte = a.throwable 1 (refl, refl) _ (λ it seen is. l.message_put refl it seen is)
  native_cases GetMessage Units A keeps a l byte = a.throwable 0 (refl, refl) _ (λ it seen is. l.message_given refl it seen is)
  native_cases ThrowableToString Units A keeps a l byte =
      a.throwable 0 (refl, refl) _ (λ it seen is. a.message 0 it seen is (λ message. making 1 (text_made o (throwable_text o it.type message)))
      (l.text_given 1 refl refl _ (keeps.name 0 it seen))
      (λ message fit. l.text_given 1 refl refl _ (keeps.append _ _ (keeps.append _ _ (keeps.name 0 it seen) keeps.colon) fit)))
  native_cases FreeMeFree Units A keeps a l byte = a.object 0 (refl, refl) _ _ (l.nothing 1 refl refl) (λ it seen. l.freed refl it seen)
  native_cases FreeMeLink Units A keeps a l byte =
      a.object 1 (inl (refl, refl)) _ linked (l.unlinked refl)
      (λ it seen. cond_both it.fixed (words 2 (OfOperand 0 ∷ [])) (record (acting 2 (SetChain 1 0 ∷ [])) { gives = OfOperand 1 ∷ [] }) A
      (λ fixed. l.unlinked refl) (λ loose. l.linked refl it seen loose))
  native_cases FreeMeFreeChain Units A keeps a l byte = l.chain_freed refl
  native_cases ClassGetName Units A keeps a l byte = a.receiver_class 0 (refl, refl) _ (λ units fit. l.text_given 1 refl refl units fit)
