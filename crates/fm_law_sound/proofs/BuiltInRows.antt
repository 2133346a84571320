-- The rows of the built-in methods take their words and give their results.
use Rattle.std.proofs.Common.{◌≡◌, ℕ, ℤ, ◌+◌, Bool, true, false, List, [], ◌∷◌, ◌++◌, length, take, Option, refl, sym, ◌∙◌, subst, arith}
use Rattle.std.specs.Prelude.{if◌then◌else◌}
use Rattle.std.proofs.lemmas.Bool.{false≢true}
use Rattle.std.proofs.lemmas.List.{length-append}
use Rattle.fm_types.specs.declared.slots.Slot.{Slot}
use Rattle.fm_types.specs.declared.slots.Slot.TheVariants as slot
use Rattle.fm_world.specs.Programs.{Outline}
use Rattle.fm_frames.specs.Effects.{acting, Copy, Effect, Free, FreeChain, giving_literal, int_word, making, OfMade, OfOperand, OfPlace, Put, SameOperands, SetChain, Source, words}
use Rattle.fm_frames.specs.NativeRows.{arguments_words, given_words, has_text, native_effect, native_words, shown_words, text_kind}
use Rattle.fm_frames.specs.Natives.{a_boolean, a_text, AGiven, AnObject, AShown, from_top, Given, has_receiver, native_type, Nothing, Returned, SomeChars}
use Rattle.fm_frames.specs.declared.natives.Native.{Native}
use Rattle.fm_frames.specs.declared.natives.Shown.{Shown}
use Rattle.fm_frames.specs.declared.natives.Native.TheVariants.{Append, FreeMeFree, FreeMeFreeChain, FreeMeLink, GetMessage, ObjectClone, ObjectGetClass, StringToString, ThrowableInitOf}
use Rattle.fm_frames.specs.declared.natives.Shown.TheVariants.{Boolean as ShownBoolean, Char as ShownChar, Int as ShownInt, Long as ShownLong, Text as ShownText}
use Rattle.fm_frames.specs.Sights.{Sight}
use Rattle.fm_frames.specs.States.{Frame, word_at}
use Rattle.fm_frames.specs.declared.values.Value.{Value}
use Rattle.fm_frames.proofs.Failures.{Failures}
use Rattle.fm_frames.proofs.NativeCases.{is_int, NativeLeaves, Returns, Takes}
use Rattle.fm_frames.proofs.NativeWords.{arguments_count}
use Rattle.fm_frames.proofs.UsualAsks.{Any, each_native}
use Rattle.fm_frames.specs.Literals.{class_literal}
use Rattle.fm_law_sound.specs.BuiltIns.{above_receiver, given_slots, GivesSlots, native_slots, NativeLeads, reference, returned_slots, shown_slots}
use Rattle.fm_law_sound.specs.Sound.{HaveKinds, IsReference}
use Rattle.fm_law_sound.proofs.Leaving.{read_kind}

-- ---- words

given_count : (given : Given) → length (given_slots given) ≡ given_words given
given_count (AShown ShownInt) = refl
given_count (AShown ShownLong) = refl
given_count (AShown ShownChar) = refl
given_count (AShown ShownBoolean) = refl
given_count (AShown ShownText) = refl
given_count SomeChars = refl
given_count AnObject = refl

receiver_count : (has : Bool) (arguments : List Given)
    → (if has then arguments_words arguments + 1 else arguments_words arguments) ≡ length (above_receiver has (from_top given_slots arguments))
receiver_count true arguments =
    let others = arguments_count Slot given_slots given_count arguments in
    let all = length-append (from_top given_slots arguments) (reference ∷ []) in
    omega (arith, others, all)
receiver_count false arguments = sym (arguments_count Slot given_slots given_count arguments)

-- a row takes as many words as it has slots
words_count : (native : Native) → native_words native ≡ length (native_slots native)
words_count native = receiver_count (has_receiver native) (native_type native).arguments

-- an int is one word
pub int_slots : (shown : Shown) → is_int shown ≡ true → shown_slots shown ≡ slot.Int ∷ []
int_slots ShownInt is = refl
int_slots ShownLong is = absurd (false≢true is)
int_slots ShownChar is = refl
int_slots ShownBoolean is = refl
int_slots ShownText is = absurd (false≢true is)

-- words that are taken
pub one_reference : (values : List Value) → HaveKinds (reference ∷ []) (take 1 values) → IsReference (word_at values 0)
one_reference [] h = absurd h
one_reference (v ∷ values) h = h.0

pub two_references : (values : List Value) → HaveKinds (reference ∷ reference ∷ []) (take 2 values)
    → IsReference (word_at values 0) × IsReference (word_at values 1)
two_references [] h = absurd h
two_references (v ∷ []) h = absurd h.1
two_references (v ∷ w ∷ values) h = (h.0, h.1.0)

below_int : (values : List Value) → HaveKinds (slot.Int ∷ reference ∷ []) (take 2 values) → IsReference (word_at values 1)
below_int [] h = absurd h
below_int (v ∷ []) h = absurd h.1
below_int (v ∷ w ∷ values) h = h.1.0

below_long : (values : List Value) → HaveKinds (slot.Top ∷ slot.Long ∷ reference ∷ []) (take 3 values) → IsReference (word_at values 2)
below_long [] h = absurd h
below_long (v ∷ []) h = absurd h.1
below_long (v ∷ w ∷ []) h = absurd h.1.1
below_long (v ∷ w ∷ u ∷ values) h = h.1.1.0

receiver_reference : (shown : Shown) (values : List Value)
    → HaveKinds (shown_slots shown ++ reference ∷ []) (take (length (shown_slots shown ++ reference ∷ [])) values)
    → IsReference (word_at values (shown_words shown))
receiver_reference ShownInt values h = below_int values h
receiver_reference ShownLong values h = below_long values h
receiver_reference ShownChar values h = below_int values h
receiver_reference ShownBoolean values h = below_int values h
receiver_reference ShownText values h = (two_references values h).1

-- ---- rows

module _ (o : Outline) (f : Frame) where
  abbrev Leads : Native → Effect → Type 0
  Leads native e = NativeLeads o f native e e.next

  -- the words of a row are on the stack
  abbrev Has : Native → Type 0
  Has native = HaveKinds (native_slots native) (take (length (native_slots native)) f.stack)

  failures : (native : Native) → Failures o (Leads native)
  failures native = record { raised = λ name areas made. tt; none = tt; lost = λ n. tt }

  gives : (native : Native) (n : ℕ) (result : Returned) (given : List Source) → Takes native n → Returns native result → GivesSlots o f (returned_slots result) given
      → Leads native (words n given)
  gives native n result given takes returns slots =
      (takes ∙ words_count native, refl, subst (λ r. GivesSlots o f (returned_slots r) given) (sym returns) slots)

  gives_none : (native : Native) (n : ℕ) → Takes native n → Returns native Nothing → Leads native (words n [])
  gives_none native n takes returns = gives native n Nothing [] takes returns (λ areas made statics. tt)

  gives_int : (native : Native) (n : ℕ) (shown : Shown) → is_int shown ≡ true → Takes native n → Returns native (AGiven (AShown shown)) → (z : ℤ)
      → Leads native (words n (int_word z))
  gives_int native n shown is takes returns z =
      gives native n (AGiven (AShown shown)) (int_word z) takes returns
      (subst (λ slots. GivesSlots o f slots (int_word z)) (sym (int_slots shown is)) (λ areas made statics. ((z, refl), tt)))

  -- what only one row does
  as_row : (native one : Native) (e : Effect) → native ≡ one → Has native → (Has one → Leads one e) → Leads native e
  as_row native one e is have leads = subst (λ r. Has r → Leads r e) (sym is) leads have

  leaves : (s : List Sight) (native : Native) → Has native → NativeLeaves o s native Any (Leads native)
  leaves s native have = record {
    nothing = λ n takes returns. gives_none native n takes returns;
    number = λ n shown is takes returns z. gives_int native n shown is takes returns z;
    same = λ n takes returns. gives native n (AGiven a_boolean) (SameOperands ∷ []) takes returns (λ areas made statics. ((_, refl), tt));
    text_given = λ n takes returns units fit. gives native n (AGiven a_text) (OfMade 0 ∷ []) takes returns (λ areas made statics. (tt, tt));
    byte = λ n takes returns z. gives_int native n ShownInt refl takes returns z;
    printed = λ n takes returns bytes. gives_none native n takes returns;
    exits = λ n takes z. tt;
    outside = λ areas made. tt;
    begun = λ it seen hides takes returns. gives_none native 1 takes returns;
    text_put = λ n operand it seen hides takes returns units fit. gives_none native n takes returns;
    itself = λ is. as_row native StringToString (words 1 (OfOperand 0 ∷ [])) is have
        (λ has. (refl, refl, λ areas made statics. (one_reference f.stack has, tt)));
    appended = λ shown is it seen builds units fit.
        as_row native (Append shown) (record (acting (shown_words shown + 1) (has_text o (shown_words shown) units)) { gives = OfOperand (shown_words shown) ∷ [] }) is have
        (λ has. (words_count (Append shown), refl, λ areas made statics. (receiver_reference shown f.stack has, tt)));
    message_put = λ is it seen may. as_row native ThrowableInitOf (acting 2 (Put (OfOperand 1) 0 (text_kind o) (OfOperand 0) ∷ [])) is have
        (λ has. (refl, refl, λ areas made statics. tt));
    message_given = λ is it seen may. as_row native GetMessage (words 1 (OfPlace 0 0 (text_kind o) ∷ [])) is have
        (λ has. (refl, refl, λ areas made statics. (read_kind (text_kind o) _, tt)));
    class_given = λ is it seen type inside. as_row native ObjectGetClass (giving_literal 1 (class_literal o type)) is have
        (λ has. (refl, refl, λ areas made statics. (tt, tt)));
    unnumbered = λ is it seen none. tt;
    freed = λ is it seen. as_row native FreeMeFree (acting 1 (Free 0 ∷ [])) is have (λ has. (refl, refl, λ areas made statics. tt));
    unlinked = λ is. as_row native FreeMeLink (words 2 (OfOperand 0 ∷ [])) is have
        (λ has. (refl, refl, λ areas made statics. ((two_references f.stack has).0, tt)));
    linked = λ is it seen loose. as_row native FreeMeLink (record (acting 2 (SetChain 1 0 ∷ [])) { gives = OfOperand 1 ∷ [] }) is have
        (λ has. (refl, refl, λ areas made statics. ((two_references f.stack has).1, tt)));
    chain_freed = λ is. as_row native FreeMeFreeChain (acting 1 (FreeChain 0 ∷ [])) is have (λ has. (refl, refl, λ areas made statics. tt));
    copied = λ is it seen may. as_row native ObjectClone (making 1 (Copy it.type it.len 0)) is have (λ has. (refl, refl, λ areas made statics. (tt, tt)));
    uncopied = λ is areas made. tt;
  }

  pub native_leads : (native : Native) (byte : Option ℕ) (s : List Sight) → HaveKinds (native_slots native) (take (length (native_slots native)) f.stack)
      → Leads native (native_effect o native byte s)
  native_leads native byte s have = each_native o s (Leads native) (failures native) (λ n it seen hides. tt) native (leaves s native have) byte
