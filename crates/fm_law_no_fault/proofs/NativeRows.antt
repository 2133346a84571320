-- The rows of the built-in methods, but for those of FreeMe: where the words of a call fit what they ask, none is a fault, and what they put and give fits.
use Rattle.std.proofs.Common.{arith, ◌≡◌, ℕ, zero, suc, ℤ, ◌+◌, ◌⊎◌, cond, Bool, true, false, List, [], ◌∷◌, length, codes, Option, Some, None, refl, sym, ◌∙◌, ap, subst, inl, inr, slice_get, slice_index_or}
use Rattle.std.specs.Prelude.{if◌then◌else◌}
use Rattle.std.proofs.lemmas.Bool.{false≢true, or_left}
use Rattle.fm_base.specs.declared.kinds.TypeRef.{TypeRef}
use Rattle.fm_cells.specs.Objects.{Object}
use Rattle.fm_cells.specs.Stores.{object_at}
use Rattle.fm_frames.proofs.LiteralSteps.{class-literal}
use Rattle.fm_types.specs.Fits.{fits_type, object_of}
use Rattle.fm_types.specs.Named.{built_in_type, object_slot, throwable_type}
use Rattle.fm_types.specs.States.{taken}
use Rattle.fm_types.specs.declared.slots.Slot.{Slot}
use Rattle.fm_types.specs.declared.slots.Slot.TheVariants as slot
use Rattle.fm_types.proofs.ClassTree.{seen-object}
use Rattle.fm_types.proofs.Order.{below_objects-fits, type-refl}
use Rattle.fm_world.specs.Numbers.{type_of_class}
use Rattle.fm_world.specs.Programs.{Outline}
use Rattle.fm_frames.specs.Acts.{cell_of, literal_type}
use Rattle.fm_frames.specs.Effects.{acting, Copy, Effect, Exits, Falls, faulty, giving_literal, int_word, making, Next, OfLiteral, OfMade, OfOperand, OfPlace, Put, SameOperands, Source, Throws, words}
use Rattle.fm_frames.specs.Elements.{is_string_type, chars_type}
use Rattle.fm_frames.specs.NativeRows.{arguments_words, class_type, given_words, native_words, has_text, native_effect, on_shown, shown_words, text_kind, text_type, thrown_outside}
use Rattle.fm_frames.specs.Natives.{a_boolean, a_text, AGiven, an_int, AnObject, AnyReceiver, AShown, BuilderReceiver, ClassReceiver, from_top, Given, has_one, has_receiver, native_type, Nothing, Receiver, Returned, SomeChars, TextReceiver, ThrowableReceiver}
use Rattle.fm_frames.specs.declared.natives.Native.{Native}
use Rattle.fm_frames.specs.declared.natives.Shown.{Shown}
use Rattle.fm_frames.specs.declared.natives.Native.TheVariants.{Append, GetMessage, ObjectClone, ObjectGetClass, StringToString, ThrowableInitOf}
use Rattle.fm_frames.specs.declared.natives.Shown.TheVariants.{Boolean as ShownBoolean, Char as ShownChar, Int as ShownInt, Long as ShownLong, Text as ShownText}
use Rattle.fm_frames.specs.Operands.{on_any, on_inner, on_inner_of, on_int, on_object, on_passing, on_text_or_null, thrown}
use Rattle.fm_frames.specs.Sights.{has_hidden_field, inner_of, Inner, led_to, Looks, looks, Lost, Missing, NoField, Sight, sights, Text, text_in, Thing, type_numbered}
use Rattle.fm_frames.specs.States.{Areas, word_at}
use Rattle.fm_frames.proofs.NativeCases.{any_units, is_int, IsArgument, IsReceiver, native_cases, NativeAsks, NativeLeaves, Returns, Takes}
use Rattle.fm_frames.proofs.NativeWords.{argument_found, arguments_count}
use Rattle.fm_frames.proofs.UsualAsks.{Any}
use Rattle.fm_frames.specs.Literals.{class_literal}
use Rattle.fm_same.specs.Covering.{is_free_me}
use Rattle.fm_law_sound.specs.Sound.{IsObjectIn, IsReference}
use Rattle.fm_law_sound.proofs.SeenObjects.{IsSeen, seen_at}
use Rattle.fm_law_no_fault.specs.CellsResolved.{arguments_asked, given_asked, result_given, returned_asked, shown_asked, suits, suits_row}
use Rattle.fm_law_no_fault.specs.Doing.{SourceLeadsTo}
use Rattle.fm_law_no_fault.specs.Whole.{LeadsToA, ObjectIsWhole}
use Rattle.fm_law_no_fault.proofs.ActsKeep.{types_after, Went}
use Rattle.fm_law_no_fault.proofs.ActsSuits.{leads_weaker}
use Rattle.fm_law_no_fault.proofs.ObjectRows.{made_is, place_leads}
use Rattle.fm_law_no_fault.proofs.Owing.{ActsSuit, GivesCells, SourceIsA}
use Rattle.fm_law_no_fault.proofs.RowCases.{Row}
use Rattle.fm_law_no_fault.proofs.StoresKeep.{leads-later}
use Rattle.fm_law_no_fault.proofs.Wanted.{slot_held, slot_passing, wanted_held, wanted_int, wanted_leads, wanted_long, wanted_object}
use Rattle.fm_law_sound.proofs.MadeObjects.{numbered}
use Rattle.fm_types.proofs.LeastJoins.{same_type-eq}
use Rattle.fm_world.specs.Chains.{same_type}
use Rattle.fm_world.specs.Numbers.{type_number, type_of_class}
use Rattle.std.proofs.lemmas.Option.{none-some, slice_get-get_or}

-- the words of a receiver
abbrev pub receiver_count : Native → ℕ
receiver_count row = cond (has_receiver row) 1 0

-- ---- words

asked_count : (o : Outline) (given : Given) → length (given_asked o given) ≡ given_words given
asked_count o (AShown ShownInt) = refl
asked_count o (AShown ShownLong) = refl
asked_count o (AShown ShownChar) = refl
asked_count o (AShown ShownBoolean) = refl
asked_count o (AShown ShownText) = refl
asked_count o SomeChars = refl
asked_count o AnObject = refl

receiver_asked : (o : Outline) (has : Bool) (arguments : List Given)
    → (if has then arguments_words arguments + 1 else arguments_words arguments) ≡ length (from_top (given_asked o) arguments) + cond has 1 0
receiver_asked o true arguments = let count = arguments_count Slot (given_asked o) (asked_count o) arguments in omega (arith, count)
receiver_asked o false arguments = let count = arguments_count Slot (given_asked o) (asked_count o) arguments in omega (arith, count)

-- a row takes as many words as it asks for
words_asked : (o : Outline) (row : Native) → native_words row ≡ length (arguments_asked o row) + receiver_count row
words_asked o row = receiver_asked o (has_receiver row) (native_type row).arguments

int_asked : (o : Outline) (shown : Shown) → is_int shown ≡ true → shown_asked o shown ≡ slot.Int ∷ []
int_asked o ShownInt is = refl
int_asked o ShownLong is = absurd (false≢true is)
int_asked o ShownChar is = refl
int_asked o ShownBoolean is = refl
int_asked o ShownText is = absurd (false≢true is)

-- ---- operands

-- an operand that leads to null or to an object of a type that passes a test
pub record Receives (r : Row) (n : ℕ) (test : TypeRef → Bool) : Type 0 where
  pub slot_there : Slot
  pub at : slice_get r.before.stack n ≡ Some slot_there
  pub reference : IsReference (word_at r.frame.stack n)
  pub leads : LeadsToA r.program.outline r.areas.store test (cell_of (word_at r.frame.stack n))

-- The words of a call of a built-in method of a class: the arguments fit what its row looks at, and below them the receiver fits the class.
pub record HasOperands (r : Row) (row : Native) (t : TypeRef) : Type 0 where
  pub rest : List Slot
  pub taken_is : taken r.program.outline (arguments_asked r.program.outline row) r.before.stack ≡ Some rest
  pub receiver : has_receiver row ≡ true → Receives r (length (arguments_asked r.program.outline row)) (λ u. fits_type r.program.outline.classes u t)
  pub suits : has_receiver row ≡ true → (u : TypeRef) → fits_type r.program.outline.classes u t ≡ true → suits_row r.program.outline row u ≡ true

-- what comes next after a built-in method: its words are off, and its result is given
abbrev pub NativeNext : Row → Native → TypeRef → Effect → Next → Type 0
NativeNext r row t e Falls =
    (e.takes ≡ length (arguments_asked r.program.outline row) + receiver_count row) × (e.writes ≡ [])
    × GivesCells r.program.outline r.areas.store r.own r.news r.frame (types_after [] e.actions) (result_given r.program.outline t row) e.gives
NativeNext r row t e (Throws s) =
    SourceIsA r.program.outline r.areas.store r.frame.stack (types_after [] e.actions)
    (λ u. fits_type r.program.outline.classes u (throwable_type r.program.outline)) s
NativeNext r row t e (Exits n) = Unit {0}
NativeNext r row t e next = ⊥

-- what the effect of a built-in method owes
pub record NativeIsWhole (r : Row) (row : Native) (t : TypeRef) (e : Effect) : Type 0 where
  pub acts : ActsSuit r.program.outline r.areas.store r.frame.stack [] e.actions
  pub next : NativeNext r row t e e.next

module _ (r : Row) (t : TypeRef) where
  abbrev o : Outline
  o = r.program.outline

  abbrev seen : List Sight
  seen = sights o r.areas.store r.frame.stack

  abbrev N : Native → Effect → Type 0
  N row e = NativeIsWhole r row t e

  thrown_native : (row : Native) (name : List ℕ) → fits_type o.classes (built_in_type o name) (throwable_type o) ≡ true → N row (thrown o name)
  thrown_native row name is = record { acts = (inl refl, tt); next = (built_in_type o name, refl, is) }

  null_native : (row : Native) → N row (thrown o (codes "java/lang/NullPointerException"))
  null_native row = thrown_native row (codes "java/lang/NullPointerException") r.cells.built_in.thrown.0

  outside_native : (row : Native) → N row (thrown_outside o)
  outside_native row = thrown_native row (codes "java/lang/StringIndexOutOfBoundsException") r.cells.built_in.thrown.1.1.1.1.1.1.1.0

  uncopied_native : (row : Native) → N row (thrown o (codes "java/lang/CloneNotSupportedException"))
  uncopied_native row = thrown_native row (codes "java/lang/CloneNotSupportedException") r.cells.built_in.thrown.1.1.1.1.1.1.1.1.0

  -- ---- operands

  module _ (row : Native) (h : HasOperands r row t) where
    ask_int : (n : ℕ) → slice_get (arguments_asked o row) n ≡ Some slot.Int → (k : ℤ → Effect) → ((i : ℤ) → N row (k i)) → N row (on_int seen n k)
    ask_int n at k each =
        wanted_int o r.areas.store r.own r.news r.steps.tree (N row) (arguments_asked o row) r.before.stack h.rest h.taken_is r.frame.stack r.stack n at k each

    -- the receiver, where it passes a test
    ask_receiver : (sort : Receiver) → has_one sort ≡ true → (n : ℕ) → IsReceiver row sort n → Receives r n (λ u. fits_type o.classes u t)
    ask_receiver sort has n is =
        subst (λ k. Receives r k (λ u. fits_type o.classes u t)) (arguments_count Slot (given_asked o) (asked_count o) (native_type row).arguments ∙ sym is.1)
        (h.receiver (ap has_one is.0 ∙ has))

    ask_any : (n : ℕ) → IsReceiver row AnyReceiver n → (k : Looks → Effect)
        → ((it : Looks) → slice_get seen n ≡ Some (Thing it) → fits_type o.classes it.type t ≡ true → N row (k it)) → N row (on_any o seen n k)
    ask_any n is k each =
        let w : Receives r n (λ u. fits_type o.classes u t) = ask_receiver AnyReceiver refl n is in
        slot_held o r.areas.store r.own r.news (N row) r.before.stack r.frame.stack r.stack n w.slot_there w.at _ k (λ u. fits_type o.classes u t) w.reference
        w.leads (λ none. null_native row) each

    ask_passing : (sort : Receiver) → has_one sort ≡ true → (n : ℕ) → IsReceiver row sort n → (k : Looks → Effect)
        → ((it : Looks) → slice_get seen n ≡ Some (Thing it) → suits o sort it.type ≡ true → N row (k it))
        → N row (on_passing o (λ it. suits o sort it.type) seen n k)
    ask_passing sort has n is k each =
        let w : Receives r n (λ u. fits_type o.classes u t) = ask_receiver sort has n is in
        slot_passing o r.areas.store r.own r.news (N row) r.before.stack r.frame.stack r.stack n w.slot_there w.at k (suits o sort) w.reference
        (leads_weaker o r.areas.store (λ u. fits_type o.classes u t) (suits o sort)
        (λ u f. sym (ap (λ other. suits o other u) is.0) ∙ h.suits (ap has_one is.0 ∙ has) u f) _ w.leads) (null_native row) each

    -- an argument of one word
    asked : (n : ℕ) (given : Given) (w : Slot) → IsArgument row n given → given_asked o given ≡ w ∷ [] → slice_get (arguments_asked o row) n ≡ Some w
    asked n given w is one = argument_found Slot (given_asked o) (asked_count o) (native_type row).arguments n given w is one

    -- an argument whose units are seen: a text, or an array of chars
    ask_argument : (named : TypeRef) (n : ℕ) → slice_get (arguments_asked o row) n ≡ Some (slot.Ref named) → (k : List ℕ → Effect)
        → ((units : List ℕ) → N row (k units)) → N row (on_object o named seen n (λ it. k it.units))
    ask_argument named n at k each =
        wanted_object o r.areas.store r.own r.news r.steps.tree (N row) (arguments_asked o row) r.before.stack h.rest h.taken_is r.frame.stack r.stack n
        named at (λ it. k it.units) (null_native row) (λ it found fits_it. each it.units)

    ask_text_or_null : (n : ℕ) → slice_get (arguments_asked o row) n ≡ Some (slot.Ref (text_type o)) → (k : List ℕ → Effect)
        → ((units : List ℕ) → N row (k units)) → N row (on_text_or_null o seen n k)
    ask_text_or_null n at k each =
        wanted_held o r.areas.store r.own r.news r.steps.tree (N row) (arguments_asked o row) r.before.stack h.rest h.taken_is r.frame.stack r.stack n
        (text_type o) at (k (codes "null")) _ (λ none. each (codes "null"))
        (λ it found fits_it. subst (λ b. N row (cond b (k it.units) (faulty n))) (sym fits_it) (each it.units))

    ask_shown : (shown : Shown) → ((n : ℕ) (w : Slot) → slice_get (shown_asked o shown) n ≡ Some w → slice_get (arguments_asked o row) n ≡ Some w)
        → (k : List ℕ → Effect) → ((units : List ℕ) → N row (k units)) → N row (on_shown o shown seen k)
    ask_shown ShownInt here k each = ask_int 0 (here 0 slot.Int refl) _ (λ n. each _)
    ask_shown ShownLong here k each =
        wanted_long o r.areas.store r.own r.news r.steps.tree (N row) (arguments_asked o row) r.before.stack h.rest h.taken_is r.frame.stack r.stack 1
        (here 1 slot.Long refl) _ (λ n. each _)
    ask_shown ShownChar here k each = ask_int 0 (here 0 slot.Int refl) _ (λ n. each _)
    ask_shown ShownBoolean here k each = ask_int 0 (here 0 slot.Int refl) _ (λ n. each _)
    ask_shown ShownText here k each = ask_text_or_null 0 (here 0 (slot.Ref (text_type o)) refl) k each

  -- ---- hidden fields

  -- the hidden field of what is seen leads to null or to a text
  abbrev LeadsInside : Inner → Type 0
  LeadsInside inner = (inner ≡ Missing) ⊎ ((units : List ℕ) × (inner ≡ Text units))

  text_inside : (found : Option Object) (object : Object) → found ≡ Some object → is_string_type o (type_numbered o object.class) ≡ true
      → (units : List ℕ) × (text_in o found ≡ Text units)
  text_inside found object is text =
      let t : TypeRef = type_numbered o object.class in (
        object.elements,
        ap (text_in o) is ∙ ap (λ b. cond b (Text object.elements) Lost) (or_left (is_string_type o t) (same_type (class_type o) t) text),
      )

  cell_inside : (cell : ℕ) → LeadsToA o r.areas.store (is_string_type o) cell → LeadsInside (led_to o r.areas.store cell)
  cell_inside zero leads = inl refl
  cell_inside (suc cell) (inl none) = absurd (cc)
  cell_inside (suc cell) (inr holds) = inr (text_inside (object_at r.areas.store (suc cell)) holds.object holds.held holds.passes)

  inner_looks : (object : Object) → (looks o r.areas.store object).inner ≡ inner_of o r.areas.store object
  unfolding looks
  inner_looks object = refl

  inside : (n : ℕ) (it : Looks) → slice_get seen n ≡ Some (Thing it) → has_hidden_field o it.type ≡ true → LeadsInside it.inner
  inside n it found has =
      let saw : IsSeen o r.areas.store (cell_of (word_at r.frame.stack n)) it = seen_at o r.areas.store r.frame.stack n it found in
      let whole : ObjectIsWhole o r.areas.store saw.object = r.whole.heap (cell_of (word_at r.frame.stack n)) saw.object saw.held in
      let has_it : has_hidden_field o (type_numbered o saw.object.class) ≡ true = ap (λ u. has_hidden_field o u) (sym saw.type_is) ∙ has in
      let is : led_to o r.areas.store (slice_index_or saw.object.elements 0 0) ≡ it.inner =
      sym (ap (λ b. cond b (led_to o r.areas.store (slice_index_or saw.object.elements 0 0)) NoField) has_it)
      ∙ sym (inner_looks saw.object) ∙ ap (λ (l : Looks). l.inner) saw.looks_so in
      subst LeadsInside is (cell_inside (slice_index_or saw.object.elements 0 0) (whole.hidden has_it))

  ask_inner : (row : Native) (n : ℕ) (it : Looks) → slice_get seen n ≡ Some (Thing it) → has_hidden_field o it.type ≡ true
      → (k : Option (List ℕ) → Effect) → ((units : Option (List ℕ)) → N row (k units)) → N row (on_inner o n it k)
  ask_inner row n it found has k each = by_inner (inside n it found has) where
    by_inner : LeadsInside it.inner → N row (on_inner_of o n it.inner k)
    by_inner (inl missing) = subst (λ inner. N row (on_inner_of o n inner k)) (sym missing) (each None)
    by_inner (inr there) = subst (λ inner. N row (on_inner_of o n inner k)) (sym there.1) (each (Some there.0))

  -- ---- what is given

  abbrev Gives : List TypeRef → List Slot → List Source → Type 0
  Gives types slots gives = GivesCells o r.areas.store r.own r.news r.frame types slots gives

  -- a new text
  text_given : Gives (text_type o ∷ []) (slot.Ref (text_type o) ∷ []) (OfMade 0 ∷ [])
  text_given y made went =
      (inr (made_is r (text_type o ∷ []) y made went 0 (text_type o) (λ u. fits_type o.classes u (text_type o)) refl (type-refl o.classes r.steps.tree (text_type o))), tt)

  -- the text that was made is put
  text_put : SourceLeadsTo o r.areas.store r.frame.stack (text_type o ∷ []) (λ u. fits_type o.classes u (text_type o)) (OfMade 0)
  text_put = (text_type o, refl, type-refl o.classes r.steps.tree (text_type o))

  -- a class literal
  literal_given : (type : ℕ) → Gives [] (slot.Ref (class_type o) ∷ []) (OfLiteral (class_literal o type) ∷ [])
  literal_given type y made went =
      let literal : TypeRef = literal_type o (class_literal o type) in (
        leads_weaker o y.store (same_type literal) (λ u. fits_type o.classes u (class_type o))
            (λ u same. subst (λ w. fits_type o.classes w (class_type o) ≡ true) (sym (class-literal o type) ∙ same_type-eq literal u same)
            (type-refl o.classes r.steps.tree (class_type o))) _ (went.areas.literals (class_literal o type)),
        tt,
      )

  -- the type of what is seen has a number
  is_numbered : (n : ℕ) (it : Looks) → slice_get seen n ≡ Some (Thing it) → type_number o.types it.type ≡ None → ⊥
  is_numbered n it found none =
      let saw : IsSeen o r.areas.store (cell_of (word_at r.frame.stack n)) it = seen_at o r.areas.store r.frame.stack n it found in
      let held : IsObjectIn o saw.object = r.sound.heap (cell_of (word_at r.frame.stack n)) saw.object saw.held in
      let at : slice_get o.types saw.object.class ≡ Some it.type =
      slice_get-get_or o.types saw.object.class (type_of_class 0) held.numbered ∙ ap Some (sym saw.type_is) in
      let number = numbered o saw.object.class it.type at in
      none-some number.0 (sym none ∙ number.1)

  -- a copy, of whatever type, fits Object
  copy_given : (u : TypeRef) → Gives (u ∷ []) (object_slot o ∷ []) (OfMade 0 ∷ [])
  copy_given u y made went =
      let object : TypeRef = type_of_class (object_of o.classes) in (
        inr
            (made_is r (u ∷ []) y made went 0 u (λ v. fits_type o.classes v object) refl
            (below_objects-fits o.classes u object (omega arith) (seen-object o.classes))),
        tt,
      )

  -- ---- the receiver, later

  receiver_given : (row : Native) (h : HasOperands r row t) (sort : Receiver) → has_one sort ≡ true → (n : ℕ) → IsReceiver row sort n
      → (test : TypeRef → Bool) → ((u : TypeRef) → fits_type o.classes u t ≡ true → test u ≡ true) → (types : List TypeRef) (y : Areas) (made : List ℕ)
      → Went o r.areas.store types y made → LeadsToA o y.store test (cell_of (word_at r.frame.stack n))
  receiver_given row h sort has n is test along types y made went =
      let w : Receives r n (λ u. fits_type o.classes u t) = ask_receiver row h sort has n is in
      leads-later o r.areas.store y.store went.extends test (cell_of (word_at r.frame.stack n))
      (leads_weaker o r.areas.store (λ u. fits_type o.classes u t) test along _ w.leads)

  -- ---- all rows

  module _ (row : Native) (h : HasOperands r row t) where
    by_message : (k : Option (List ℕ) → Effect) → N row (k None) → ((units : List ℕ) → Any units → N row (k (Some units))) → (message : Option (List ℕ))
        → N row (k message)
    by_message k no_text some None = no_text
    by_message k no_text some (Some units) = some units tt

    asks : NativeAsks o seen row Any (N row)
    asks = record {
      receiver_any = λ n is k each. ask_any row h n is k (λ it found fits_it. each it found);
      receiver_text = λ n is k each. ask_passing row h TextReceiver refl n is (λ it. k it.units) (λ it found fits_it. each it.units tt);
      receiver_class = λ n is k each. ask_passing row h ClassReceiver refl n is (λ it. k it.units) (λ it found fits_it. each it.units tt);
      builder = λ n is k each. ask_passing row h BuilderReceiver refl n is k each;
      built = λ n is k each. ask_passing row h BuilderReceiver refl n is _
          (λ it found built. ask_inner row n it found (r.cells.built_in.builders it.type built) _ (λ units. each it found built _ tt));
      throwable = λ n is k each. ask_passing row h ThrowableReceiver refl n is k each;
      message = λ n it found may k no_text some. ask_inner row n it found (r.cells.built_in.throwables it.type may) k (by_message k no_text some);
      int = λ n is k each. ask_int row h n (asked row h n an_int slot.Int is refl) k each;
      text = λ n is k each. ask_argument row h (text_type o) n (asked row h n a_text (slot.Ref (text_type o)) is refl) k (λ units. each units tt);
      chars = λ n is k each. ask_argument row h chars_type n (asked row h n SomeChars (slot.Ref chars_type) is refl) k (λ units. each units tt);
      object = λ n is none k of_null each.
          wanted_held o r.areas.store r.own r.news r.steps.tree (N row) (arguments_asked o row) r.before.stack h.rest h.taken_is r.frame.stack r.stack n _
          (asked row h n AnObject (object_slot o) is refl) none k (λ is_null. of_null) (λ it found fits_it. each it found);
      shown = λ shown is k each.
          ask_shown row h shown (λ n w at. subst (λ arguments. slice_get (from_top (given_asked o) arguments) n ≡ Some w) (sym is) at) k (λ units. each units tt);
    }

    -- nothing is written to locals
    abbrev unwritten : List (ℕ × Source)
    unwritten = []

    abbrev Left : ℕ → List TypeRef → List Source → Type 0
    Left n types given =
        (n ≡ length (arguments_asked o row) + receiver_count row) × (unwritten ≡ []) × Gives types (result_given o t row) given

    left : (n : ℕ) (result : Returned) (types : List TypeRef) (given : List Source) → Takes row n → Returns row result
        → Gives types (returned_asked o t result) given → Left n types given
    left n result types given takes returns cells =
        (takes ∙ words_asked o row, refl, subst (λ q. Gives types (returned_asked o t q) given) (sym returns) cells)

    left_none : (n : ℕ) (types : List TypeRef) → Takes row n → Returns row Nothing → Left n types []
    left_none n types takes returns = left n Nothing types [] takes returns (λ y made went. tt)

    left_int : (n : ℕ) (shown : Shown) → is_int shown ≡ true → Takes row n → Returns row (AGiven (AShown shown)) → (z : ℤ) → Left n [] (int_word z)
    left_int n shown is takes returns z =
        left n (AGiven (AShown shown)) [] (int_word z) takes returns
        (subst (λ slots. Gives [] slots (int_word z)) (sym (int_asked o shown is)) (λ y made went. (tt, tt)))

    -- what only one row does
    as_row : (one : Native) (e : Effect) → row ≡ one → (HasOperands r one t → N one e) → N row e
    as_row one e is whole = subst (λ q. HasOperands r q t → N q e) (sym is) whole h

    leaves : is_free_me row ≡ false → NativeLeaves o seen row Any (N row)
    leaves other = record {
      nothing = λ n takes returns. record { acts = tt; next = left_none n [] takes returns };
      number = λ n shown is takes returns z. record { acts = tt; next = left_int n shown is takes returns z };
      same = λ n takes returns. record {
        acts = tt;
        next = left n (AGiven a_boolean) [] (SameOperands ∷ []) takes returns (λ y made went. (tt, tt));
      };
      text_given = λ n takes returns units fit. record {
        acts = (inr refl, tt);
        next = left n (AGiven a_text) (text_type o ∷ []) (OfMade 0 ∷ []) takes returns text_given;
      };
      byte = λ n takes returns z. record { acts = tt; next = left_int n ShownInt refl takes returns z };
      printed = λ n takes returns bytes. record { acts = tt; next = left_none n [] takes returns };
      exits = λ n takes z. record { acts = tt; next = tt };
      outside = outside_native row;
      begun = λ it found hides takes returns. record { acts = (refl, tt); next = left_none 1 [] takes returns };
      text_put = λ n operand it found hides takes returns units fit. record {
        acts = (inr refl, (text_put, tt));
        next = left_none n (text_type o ∷ []) takes returns;
      };
      itself = λ is. as_row StringToString (words 1 (OfOperand 0 ∷ [])) is (λ operands. record {
        acts = tt;
        next = (
          refl,
          refl,
          λ y made went. (
            receiver_given StringToString operands TextReceiver refl 0 (refl, refl) (λ u. fits_type o.classes u (text_type o)) (operands.suits refl) [] y made
                went,
            tt,
          ),
        );
      });
      appended = λ shown is it found builds units fit.
          as_row (Append shown) (record (acting (shown_words shown + 1) (has_text o (shown_words shown) units)) { gives = OfOperand (shown_words shown) ∷ [] }) is
          (λ operands. record {
            acts = (inr refl, (text_put, tt));
            next = (
              words_asked o (Append shown),
              refl,
              λ y made went. (
                receiver_given (Append shown) operands BuilderReceiver refl (shown_words shown) (refl, refl) (λ u. fits_type o.classes u t) (λ u f. f)
                    (text_type o ∷ []) y made went,
                tt,
              ),
            );
          });
      message_put = λ is it found may. as_row ThrowableInitOf (acting 2 (Put (OfOperand 1) 0 (text_kind o) (OfOperand 0) ∷ [])) is (λ operands. record {
        acts = (
          wanted_leads o r.areas.store r.own r.news r.steps.tree (N ThrowableInitOf) (arguments_asked o ThrowableInitOf) r.before.stack operands.rest
              operands.taken_is r.frame.stack r.stack 0 (text_type o) refl,
          tt,
        );
        next = (refl, refl, λ y made went. tt);
      });
      message_given = λ is it found may. as_row GetMessage (words 1 (OfPlace 0 0 (text_kind o) ∷ [])) is (λ operands. record {
        acts = tt;
        next = (
          refl,
          refl,
          λ y made went. (
            place_leads r 0 it found 0 (text_kind o) (r.cells.places.hidden it.type (r.cells.built_in.throwables it.type may)) [] y made went (text_type o) refl,
            tt,
          ),
        );
      });
      class_given = λ is it found type inside. as_row ObjectGetClass (giving_literal 1 (class_literal o type)) is (λ operands. record {
        acts = tt;
        next = (refl, refl, literal_given type);
      });
      unnumbered = λ is it found none. absurd (is_numbered 0 it found none);
      freed = λ is it found. absurd (false≢true (sym other ∙ ap is_free_me is));
      unlinked = λ is. absurd (false≢true (sym other ∙ ap is_free_me is));
      linked = λ is it found loose. absurd (false≢true (sym other ∙ ap is_free_me is));
      chain_freed = λ is. absurd (false≢true (sym other ∙ ap is_free_me is));
      copied = λ is it found may. as_row ObjectClone (making 1 (Copy it.type it.len 0)) is
          (λ operands. record { acts = tt; next = (refl, refl, copy_given it.type) });
      uncopied = λ is. uncopied_native row;
    }

  pub native_whole : (row : Native) → HasOperands r row t → is_free_me row ≡ false → (byte : Option ℕ) → N row (native_effect o row byte seen)
  native_whole row h other byte = native_cases o seen row Any (N row) (any_units o seen) (asks row h) (leaves row h other) byte
