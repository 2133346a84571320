-- What holds of each effect that a call can have holds of the effect of the call: it leads to a
-- method that has code, or to the row of a built-in one.
use Rattle.std.proofs.Common.{◌≡◌, ℕ, ◌+◌, ◌<◌, cond, Bool, true, false, List, [], ◌∷◌, ◌++◌, length, map, take, Option, Some, None, codes, option_to_list, refl, sym, ◌∙◌, ap, subst, slice_get, arith, ⊎_elim}
use Rattle.std.specs.Str.{bytes_eq}
use Rattle.std.proofs.lemmas.Bool.{false≢true}
use Rattle.std.proofs.lemmas.List.{length-append, length-map, map-append}
use Rattle.std.proofs.lemmas.Option.{same_Some}
use Rattle.std.proofs.lemmas.Slice.Eq.{bytes_eq-Decides}
use Rattle.fm_base.proofs.OptionFacts.{cond-some_else}
use Rattle.fm_base.proofs.TestFacts.{or_right_fails}
use Rattle.fm_base.specs.declared.ids.MethodId.{MethodId}
use Rattle.fm_base.specs.declared.ids.TypeId.{TypeId}
use Rattle.fm_base.specs.declared.kinds.TypeRef.{TypeRef}
use Rattle.fm_code.specs.AccessFlags.{is_static}
use Rattle.fm_code.specs.declared.instructions.Insn.{Insn}
use Rattle.fm_code.specs.declared.instructions.Insn.TheVariants as insn
use Rattle.fm_types.specs.CallRows.{constructor_called, has_name, instance_call_row, is_constructor, is_initializer, names_own_or_above, special_call_row, static_call_row}
use Rattle.fm_types.specs.Named.{argument_words, class_of_method, result_words, this_class}
use Rattle.fm_types.specs.Rows.{row_after}
use Rattle.fm_types.specs.States.{is_reference, is_whole, stack_slots, TypeState, worked}
use Rattle.fm_types.specs.Typed.{made_at, use_by, use_in}
use Rattle.fm_types.specs.declared.slots.Slot.{Slot}
use Rattle.fm_types.specs.declared.slots.Slot.TheVariants as slot
use Rattle.fm_world.specs.Causes.{static_method_wanted}
use Rattle.fm_world.specs.Chains.{is_sub}
use Rattle.fm_world.specs.Descriptors.{parameter_kinds, result_kind}
use Rattle.fm_world.specs.Lookups.{is_abstract_method, select, special_target}
use Rattle.fm_world.specs.Members.{method_at, methods_of}
use Rattle.fm_world.specs.Numbers.{type_of_class}
use Rattle.fm_world.specs.Programs.{class_of_type, Outline, Program}
use Rattle.fm_code.specs.Operands.{pool_index}
use Rattle.fm_world.specs.declared.uses.Use.{Use}
use Rattle.fm_world.specs.declared.uses.Use.TheVariants as resolved
use Rattle.fm_frames.specs.Acts.{cell_of}
use Rattle.fm_frames.specs.CallRows.{entered, entered_as, interface_effect, native_of, receiver_class, special_effect, static_effect, virtual_effect, words_of_arguments}
use Rattle.fm_frames.specs.Effects.{Calls, Effect, faulty, going, stuck}
use Rattle.fm_frames.specs.NativeRows.{native_effect}
use Rattle.fm_frames.specs.declared.natives.Native.{Native}
use Rattle.fm_frames.specs.ObjectRows.{starting}
use Rattle.fm_frames.specs.Operands.{thrown, thrown_null}
use Rattle.fm_frames.specs.Rows.{effect_of}
use Rattle.fm_frames.specs.Runnable.{IsUseIn}
use Rattle.fm_frames.specs.Sights.{Looks, Sight, sights, Thing}
use Rattle.fm_frames.specs.States.{Areas, Frame, word_at}
use Rattle.fm_law_sound.specs.BuiltIns.{native_result, native_slots, reference}
use Rattle.fm_law_sound.specs.Going.{is_static_call, IsCalled, StandsAtRow}
use Rattle.fm_law_sound.specs.Leading.{is_call}
use Rattle.fm_law_sound.specs.Resolved.{CallsAreResolved}
use Rattle.fm_law_sound.specs.Sound.{AreasAreSound, FrameHasKinds, HasObjects, HaveKinds, method_named, Typings, words_of_call}
use Rattle.fm_law_sound.proofs.BuiltInMethods.{has_row, HasRow, plain, receiver_slot, to_plain}
use Rattle.fm_law_sound.proofs.CallsLeft.{arguments_count, method_in, row_of_method}
use Rattle.fm_law_sound.proofs.CallsStand.{call_takes, IsReceiver, Takes}
use Rattle.fm_law_sound.proofs.Cases.{by_any, by_if, by_object, by_on_method, by_reference}
use Rattle.fm_law_sound.proofs.ClassStarts.{not_start}
use Rattle.fm_law_sound.proofs.FoundMethods.{IsAlike, select_alike, select_inside, special_alike, special_inside}
use Rattle.fm_law_sound.proofs.SeenObjects.{IsSeen, seen_at}

-- ---- the name of the method that is named

constructor_no_start : (name : List ℕ) → bytes_eq name (codes "<init>") ≡ true → bytes_eq name (codes "<clinit>") ≡ false
constructor_no_start name is = ap (λ n. bytes_eq n (codes "<clinit>")) ((bytes_eq-Decides name (codes "<init>")).0 is)

module _ (o : Outline) (s : TypeState) (named : ℕ) where
  special_names : (method : ℕ) (news : ℕ → Option TypeRef) (t : TypeRef) (b : Bool) (after : TypeState) → is_constructor o named ≡ b
      → cond b (constructor_called o method news named t s) (cond (is_initializer o named) None
      (cond (names_own_or_above o (this_class o method) t)
      (worked o (argument_words o named ++ slot.Ref (type_of_class (this_class o method)) ∷ []) (result_words o named) s) None)) ≡ Some after
      → has_name o named (codes "<clinit>") ≡ false
  special_names method news t true after is row = constructor_no_start (method_at o.classes named).method.name is
  special_names method news t false after is row =
      or_right_fails (is_constructor o named) (has_name o named (codes "<clinit>")) (cond-some_else (is_initializer o named) _ after row).0

  -- none that starts a class is named
  row_names : (i : Insn) (method item : ℕ) (news : ℕ → Option TypeRef) (u : Use) (after : TypeState) → is_call i ≡ true
      → method_in u ≡ Some named → row_after o method item news u i s ≡ Some after → has_name o named (codes "<clinit>") ≡ false
  unfolding row_after instance_call_row static_call_row special_call_row
  row_names (insn.Virtual index) method item news u after is names row =
      let found = row_of_method o u _ named after names row in
      or_right_fails (is_constructor o named) (has_name o named (codes "<clinit>")) (cond-some_else (is_initializer o named) _ after found.1).0
  row_names (insn.Interface index) method item news u after is names row =
      let found = row_of_method o u _ named after names row in
      or_right_fails (is_constructor o named) (has_name o named (codes "<clinit>")) (cond-some_else (is_initializer o named) _ after found.1).0
  row_names (insn.Special index) method item news u after is names row =
      let found = row_of_method o u _ named after names row in special_names method news found.0 (is_constructor o named) after refl found.1
  row_names (insn.Static index) method item news u after is names row =
      let found = row_of_method o u _ named after names row in
      or_right_fails (is_constructor o named) (has_name o named (codes "<clinit>")) (cond-some_else (is_initializer o named) _ after found.1).0
  row_names i method item news u after is names row = absurd (false≢true is)

-- ---- the words of a call

words_count : (o : Outline) (i : Insn) (named words : ℕ) → words_of_call o i named ≡ Some words
    → words_of_arguments o named + length (receiver_slot (is_static_call i)) ≡ words
words_count o (insn.Virtual index) named words is = same_Some (words_of_arguments o named + 1) words is
words_count o (insn.Interface index) named words is = same_Some (words_of_arguments o named + 1) words is
words_count o (insn.Special index) named words is = same_Some (words_of_arguments o named + 1) words is
words_count o (insn.Static index) named words is =
    let same : words_of_arguments o named ≡ words = same_Some (words_of_arguments o named) words is in
    let none : words_of_arguments o named + 0 ≡ words_of_arguments o named = omega arith in none ∙ same
words_count o i named words is = absurd (cc)

plain_reference : (r : Slot) → is_reference r ≡ true → plain r ≡ reference
plain_reference slot.Top is = absurd (false≢true is)
plain_reference slot.Int is = absurd (false≢true is)
plain_reference slot.Long is = absurd (false≢true is)
plain_reference slot.Null is = refl
plain_reference (slot.Ref t) is = refl
plain_reference (slot.Uninit item) is = refl
plain_reference slot.UninitThis is = refl

plain_receiver : (b : Bool) (receiver : List Slot) → IsReceiver b receiver → map plain receiver ≡ receiver_slot b
plain_receiver true receiver is = ap (map plain) is
plain_receiver false receiver is = ap (map plain) is.1 ∙ ap (λ s. s ∷ []) (plain_reference is.0 is.2)

-- ---- what is called

-- a method that is as the named one, and isn't abstract
pub record IsTarget (o : Outline) (i : Insn) (named target : ℕ) : Type 0 where
  pub same_name : (method_at o.classes target).method.name ≡ (method_at o.classes named).method.name
  pub same_descriptor : (method_at o.classes target).method.descriptor ≡ (method_at o.classes named).method.descriptor
  pub no_receiver : is_static (method_at o.classes target).method.flags ≡ is_static_call i
  pub inside : target < length (methods_of o.classes)
  pub concrete : is_abstract_method o.classes target ≡ false

-- a built-in method takes the words of the call, which are as its row wants them, and gives the result of the method that is named
pub record CallsRow (p : Program) (f : Frame) (i : Insn) (row : Native) : Type 0 where
  pub named : ℕ
  pub names : method_named p f i ≡ Some named
  pub takes : words_of_call p.outline i named ≡ Some (length (native_slots row))
  pub have : HaveKinds (native_slots row) (take (length (native_slots row)) f.stack)
  pub result : map plain (result_words p.outline named) ≡ native_result row

-- what has to hold of each effect that a call can have
pub record HoldsOfCalls (p : Program) (f : Frame) (i : Insn) (byte : Option ℕ) (s : List Sight) (P : Effect → Type 0) : Type 0 where
  pub none : P stuck
  pub gone : (operand : ℕ) → P (faulty operand)
  pub null : P (thrown_null p.outline)
  pub unlike : P (thrown p.outline (codes "java/lang/IncompatibleClassChangeError"))
  pub first : (class : ℕ) (e : Effect) → P e → P (starting class e)
  pub called : (target words : ℕ) → IsCalled p f i target words → P (going words (Calls target))
  pub of_row : (row : Native) → CallsRow p f i row → P (native_effect p.outline row byte s)

abbrev pub used_at : Program → ℕ → Option ℕ → Use
used_at p method None = resolved.Unused
used_at p method (Some index) = use_in p method index

use_there : (p : Program) → CallsAreResolved p → (method : ℕ) (i : Insn) → IsUseIn p.outline (use_by p method i)
use_there p ready method i = by_index (pool_index i) where
  by_index : (o : Option ℕ) → IsUseIn p.outline (used_at p method o)
  by_index None = tt
  by_index (Some index) = ready.runnable.uses (class_of_method p.outline method) index

module _ (p : Program) (ready : CallsAreResolved p) (x : Areas) (sound : AreasAreSound p.outline x) (typings : Typings) (f : Frame) (byte : Option ℕ) (P : Effect → Type 0) where
  abbrev o : Outline
  o = p.outline

  abbrev s : List Sight
  s = sights p.outline x.store f.stack

  -- objects are made of the type of a receiver
  seen_made : (n : ℕ) (it : Looks) → slice_get s n ≡ Some (Thing it) → HasObjects o it.type
  seen_made n it seen =
      let found : IsSeen o x.store (cell_of (word_at f.stack n)) it = seen_at o x.store f.stack n it seen in
      subst (HasObjects o) (sym found.type_is) (sound.heap (cell_of (word_at f.stack n)) found.object found.held).of_type.made

  module _ (i : Insn) (after : TypeState) (h : StandsAtRow p typings f i after) (kinds : FrameHasKinds h.known f.locals f.stack) (whole : is_whole h.known.stack ≡ true) (call : is_call i ≡ true) (all : HoldsOfCalls p f i byte s P) where
    abbrev u : Use
    u = use_by p f.method i

    row_called : (named words target : ℕ) → method_in u ≡ Some named → words_of_call o i named ≡ Some words → IsTarget o i named target
        → (row : Native) → native_of o target ≡ Some row → CallsRow p f i row
    row_called named words target names takes is row native =
        let own : HasRow o target row = has_row p ready target row native in
        let taken : Takes o named words (is_static_call i) f.stack =
        call_takes o h.known f.stack kinds.in_stack whole named i f.method f.item words (made_at p f.method h.code) u after takes names h.row in
        let same_arguments : argument_words o named ≡ argument_words o target =
        ap (λ d. stack_slots (parameter_kinds o.classes d)) (sym is.same_descriptor) in
        let level : map plain (argument_words o named) ++ receiver_slot (is_static_call i) ≡ native_slots row =
        ap (λ xs. map plain xs ++ receiver_slot (is_static_call i)) same_arguments
        ∙ ap (λ b. map plain (argument_words o target) ++ receiver_slot b) (sym is.no_receiver) ∙ own.arguments in
        let slots : map plain (argument_words o named ++ taken.receiver) ≡ native_slots row =
        map-append plain (argument_words o named) taken.receiver
        ∙ ap (λ xs. map plain (argument_words o named) ++ xs) (plain_receiver (is_static_call i) taken.receiver taken.is_receiver) ∙ level in
        let count : words ≡ length (native_slots row) =
        sym (words_count o i named words takes)
        ∙ ap (λ n. n + length (receiver_slot (is_static_call i))) (sym (length-map (argument_words o named) plain ∙ arguments_count o named))
        ∙ sym (length-append (map plain (argument_words o named)) (receiver_slot (is_static_call i))) ∙ ap length level in
        record {
          named = named;
          names = names;
          takes = takes ∙ ap Some count;
          have = subst (λ n. HaveKinds (native_slots row) (take n f.stack)) count
              (subst (λ xs. HaveKinds xs (take words f.stack)) slots (to_plain (argument_words o named ++ taken.receiver) (take words f.stack) taken.have));
          result = ap (λ d. map plain (stack_slots (option_to_list (result_kind o.classes d)))) (sym is.same_descriptor) ∙ own.result;
        }

    by_native : (named words target : ℕ) → method_in u ≡ Some named → words_of_call o i named ≡ Some words → IsTarget o i named target
        → (found : Option Native) → native_of o target ≡ found → P (entered_as o words target byte s found)
    by_native named words target names takes is None native =
        let coded = ready.coded target is.inside is.concrete native in
        all.called target words (record {
          named = named;
          names = names;
          takes = takes;
          code = coded.0;
          code_is = coded.1;
          same_name = is.same_name;
          same_descriptor = is.same_descriptor;
          no_receiver = is.no_receiver;
          is_no_start = not_start o target
              (ap (λ n. bytes_eq n (codes "<clinit>")) is.same_name
              ∙ row_names o h.known named i f.method f.item (made_at p f.method h.code) u after call names h.row);
        })
    by_native named words target names takes is (Some row) native = all.of_row row (row_called named words target names takes is row native)

    by_entered : (named words : ℕ) → method_in u ≡ Some named → words_of_call o i named ≡ Some words → (found : Option ℕ)
        → ((target : ℕ) → found ≡ Some target → IsTarget o i named target) → P (entered o words found byte s)
    by_entered named words names takes None each = all.none
    by_entered named words names takes (Some target) each =
        by_native named words target names takes (each target refl) (native_of o target) refl

    named_static : (m : MethodId) (t : TypeId) (b : Bool) → u ≡ resolved.OfMethod m t → static_method_wanted i ≡ Some b
        → is_static (method_at o.classes m.0).method.flags ≡ b
    named_static m t b is wanted =
        ready.calls f.method i m t b (record { code = h.code; code_is = h.code_is; item = f.item; insn_is = h.insn_is; use_is = is }) wanted

    named_inside : (m : MethodId) (t : TypeId) → u ≡ resolved.OfMethod m t → m.0 < length (methods_of o.classes)
    named_inside m t is = (subst (IsUseIn o) is (use_there p ready f.method i)).0

    instance_target : (m : MethodId) (t : TypeId) (target : ℕ) → u ≡ resolved.OfMethod m t → static_method_wanted i ≡ Some false
        → is_static_call i ≡ false → IsAlike o.classes m.0 target → target < length (methods_of o.classes)
        → is_abstract_method o.classes target ≡ false → IsTarget o i m.0 target
    instance_target m t target is wanted receiver alike inside concrete = record {
      same_name = alike.name;
      same_descriptor = alike.descriptor;
      no_receiver = ⊎_elim (λ same. ap (λ n. is_static (method_at o.classes n).method.flags) same ∙ named_static m t false is wanted) (λ instance. instance) alike.flags
          ∙ sym receiver;
      inside = inside;
      concrete = concrete;
    }

    selected_target : (m : MethodId) (t : TypeId) → u ≡ resolved.OfMethod m t → static_method_wanted i ≡ Some false → is_static_call i ≡ false
        → (n : ℕ) (it : Looks) → slice_get s n ≡ Some (Thing it) → (target : ℕ) → select o.classes (receiver_class o it) m.0 ≡ Some target
        → IsTarget o i m.0 target
    selected_target m t is wanted receiver n it seen target found =
        instance_target m t target is wanted receiver (select_alike o.classes (receiver_class o it) m.0 target found)
        (select_inside o.classes (receiver_class o it) m.0 target (named_inside m t is) found)
        (ready.selected it.type m.0 target (seen_made n it seen) found)

  by_virtual : (index : ℕ) (after : TypeState) (h : StandsAtRow p typings f (insn.Virtual index) after) → FrameHasKinds h.known f.locals f.stack
      → is_whole h.known.stack ≡ true → HoldsOfCalls p f (insn.Virtual index) byte s P
      → P (virtual_effect o (use_by p f.method (insn.Virtual index)) byte s)
  unfolding virtual_effect
  by_virtual index after h kinds whole all =
      by_on_method P o (use_by p f.method (insn.Virtual index)) _ all.none (λ m t named is there.
      by_object P o named s (words_of_arguments o m.0) _ all.null all.none (all.gone (words_of_arguments o m.0)) (λ it seen passes.
      by_entered (insn.Virtual index) after h kinds whole refl all m.0 (words_of_arguments o m.0 + 1) (ap method_in is) refl
      (select o.classes (receiver_class o it) m.0)
      (selected_target (insn.Virtual index) after h kinds whole refl all m t is refl refl (words_of_arguments o m.0) it seen)))

  by_interface : (index : ℕ) (after : TypeState) (h : StandsAtRow p typings f (insn.Interface index) after) → FrameHasKinds h.known f.locals f.stack
      → is_whole h.known.stack ≡ true → HoldsOfCalls p f (insn.Interface index) byte s P
      → P (interface_effect o (use_by p f.method (insn.Interface index)) byte s)
  unfolding interface_effect
  by_interface index after h kinds whole all =
      by_on_method P o (use_by p f.method (insn.Interface index)) _ all.none (λ m t named is there.
      by_any P o s (words_of_arguments o m.0) _ all.null all.none (all.gone (words_of_arguments o m.0)) (λ it seen.
      by_if P (is_sub o.classes it.type named)
      (entered o (words_of_arguments o m.0 + 1) (select o.classes (receiver_class o it) m.0) byte s)
      (thrown o (codes "java/lang/IncompatibleClassChangeError"))
      (λ passes. by_entered (insn.Interface index) after h kinds whole refl all m.0 (words_of_arguments o m.0 + 1) (ap method_in is) refl
      (select o.classes (receiver_class o it) m.0)
      (selected_target (insn.Interface index) after h kinds whole refl all m t is refl refl (words_of_arguments o m.0) it seen))
      (λ fails. all.unlike)))

  by_special : (index : ℕ) (after : TypeState) (h : StandsAtRow p typings f (insn.Special index) after) → FrameHasKinds h.known f.locals f.stack
      → is_whole h.known.stack ≡ true → HoldsOfCalls p f (insn.Special index) byte s P
      → P (special_effect o f.method (use_by p f.method (insn.Special index)) byte s)
  unfolding special_effect
  by_special index after h kinds whole all =
      by_on_method P o (use_by p f.method (insn.Special index)) _ all.none (λ m t named is there.
      let target : ℕ = special_target o.classes (class_of_method o f.method) (class_of_type named) m.0 in
      let entering : Effect = entered o (words_of_arguments o m.0 + 1) (Some target) byte s in
      by_reference P s (words_of_arguments o m.0) (λ is_null. cond is_null (thrown_null o) entering) all.none (λ is_null.
      by_if P is_null (thrown_null o) entering (λ missing. all.null) (λ present.
      by_native (insn.Special index) after h kinds whole refl all m.0 (words_of_arguments o m.0 + 1) target (ap method_in is) refl
      (instance_target (insn.Special index) after h kinds whole refl all m t target is refl refl
      (special_alike o.classes (class_of_method o f.method) (class_of_type named) m.0)
      (special_inside o.classes (class_of_method o f.method) (class_of_type named) m.0
      (named_inside (insn.Special index) after h kinds whole refl all m t is))
      (ready.special f.method index m t named
      (record { code = h.code; code_is = h.code_is; item = f.item; insn_is = h.insn_is; use_is = is }) there))
      (native_of o target) refl)))

  by_static : (index : ℕ) (after : TypeState) (h : StandsAtRow p typings f (insn.Static index) after) → FrameHasKinds h.known f.locals f.stack
      → is_whole h.known.stack ≡ true → HoldsOfCalls p f (insn.Static index) byte s P
      → P (static_effect o (use_by p f.method (insn.Static index)) byte s)
  unfolding static_effect
  by_static index after h kinds whole all =
      by_on_method P o (use_by p f.method (insn.Static index)) _ all.none (λ m t named is there.
      let static : is_static (method_at o.classes m.0).method.flags ≡ true =
      named_static (insn.Static index) after h kinds whole refl all m t true is refl in
      all.first (class_of_method o m.0) (entered o (words_of_arguments o m.0) (Some m.0) byte s)
      (by_native (insn.Static index) after h kinds whole refl all m.0 (words_of_arguments o m.0) m.0 (ap method_in is) refl
      (record {
        same_name = refl;
        same_descriptor = refl;
        no_receiver = static;
        inside = named_inside (insn.Static index) after h kinds whole refl all m t is;
        concrete = ready.concrete m.0 static;
      })
      (native_of o m.0) refl))

  pub by_call : (i : Insn) (after : TypeState) (h : StandsAtRow p typings f i after) → FrameHasKinds h.known f.locals f.stack
      → is_whole h.known.stack ≡ true → is_call i ≡ true → HoldsOfCalls p f i byte s P
      → P (effect_of o f.method (use_by p f.method i) i byte s)
  unfolding effect_of
  by_call (insn.Virtual index) after h kinds whole call all = by_virtual index after h kinds whole all
  by_call (insn.Interface index) after h kinds whole call all = by_interface index after h kinds whole all
  by_call (insn.Special index) after h kinds whole call all = by_special index after h kinds whole all
  by_call (insn.Static index) after h kinds whole call all = by_static index after h kinds whole all
  by_call i after h kinds whole call all = absurd (false≢true call)
