-- The rows of calls: a method that is called gets arguments and a receiver that fit its first locals, and a built-in one gets what its row looks at.
use Rattle.std.proofs.Common.{◌≡◌, ℕ, ◌+◌, cond, true, false, List, [], ◌∷◌, ◌++◌, codes, length, Option, Some, None, refl, sym, ◌∙◌, ap, subst, inr, slice_get, arith}
use Rattle.std.proofs.lemmas.Bool.{false≢true}
use Rattle.fm_base.proofs.OptionFacts.{cond-some_else, option_map-some}
use Rattle.fm_base.specs.declared.ids.MethodId.{MethodId}
use Rattle.fm_base.specs.declared.ids.TypeId.{TypeId}
use Rattle.fm_base.specs.declared.kinds.TypeRef.{TypeRef}
use Rattle.fm_code.specs.AccessFlags.{is_static}
use Rattle.fm_code.specs.declared.instructions.Insn.{Insn}
use Rattle.fm_code.specs.declared.instructions.Insn.TheVariants as insn
use Rattle.fm_types.specs.CallRows.{instance_call_row, is_constructor, is_initializer, static_call_row}
use Rattle.fm_types.specs.Fits.{fits, fits_type}
use Rattle.fm_types.specs.Named.{argument_words, class_of_method, result_words, this_class}
use Rattle.fm_types.specs.Rows.{row_after}
use Rattle.fm_types.specs.States.{taken, TypeState, worked}
use Rattle.fm_types.specs.Typed.{use_by}
use Rattle.fm_types.specs.declared.slots.Slot.{Slot}
use Rattle.fm_types.specs.declared.slots.Slot.TheVariants as slot
use Rattle.fm_world.specs.Chains.{is_sub}
use Rattle.fm_world.specs.Lookups.{select}
use Rattle.fm_world.specs.Members.{method_at}
use Rattle.fm_world.specs.Numbers.{type_of_class}
use Rattle.fm_world.specs.Programs.{Outline, Program}
use Rattle.fm_world.specs.declared.uses.Use.{Use}
use Rattle.fm_world.specs.declared.uses.Use.TheVariants as resolved
use Rattle.fm_frames.specs.CallRows.{entered, interface_effect, native_of, receiver_class, static_effect, virtual_effect, words_of_arguments}
use Rattle.fm_frames.specs.Effects.{Effect}
use Rattle.fm_frames.specs.Operands.{thrown, thrown_null}
use Rattle.fm_frames.specs.Rows.{effect_of}
use Rattle.fm_frames.specs.Sights.{Looks, Sight, sights, Thing}
use Rattle.fm_frames.specs.States.{Areas, Frame, word_at}
use Rattle.fm_same.specs.Resolved.{CallsNoFreeMe}
use Rattle.fm_law_sound.specs.Going.{CallLeads, is_static_call, StandsAtRow}
use Rattle.fm_law_sound.specs.Leading.{is_call}
use Rattle.fm_law_sound.specs.Resolved.{StepsAreResolved}
use Rattle.fm_law_sound.specs.Sound.{AreasAreSound, AreTyped, StandsWithout, Typings, words_of_call}
use Rattle.fm_law_sound.proofs.CallsLeft.{arguments_count, method_in}
use Rattle.fm_law_sound.proofs.Cases.{by_if}
use Rattle.fm_law_sound.proofs.FoundMethods.{IsAlike, select_alike}
use Rattle.fm_law_no_fault.specs.CellsResolved.{CellsAreResolved, IsMet, Selects}
use Rattle.fm_law_no_fault.specs.Whole.{AreasAreWhole, FrameIsWhole, WordFits}
use Rattle.fm_law_no_fault.proofs.CallLists.{by_row_method, taken_last}
use Rattle.fm_law_no_fault.proofs.CallTargets.{alike_static, CallAt, entered_owed, instance_owed, named_at, no_constructor, null_owed, Owed, receiver_place, row_at, same_constructor, seen_made, started_owed, thrown_owed}
use Rattle.fm_law_no_fault.proofs.FrameRows.{row_here}
use Rattle.fm_law_no_fault.proofs.Operands.{reference_kind}
use Rattle.fm_law_no_fault.proofs.RowCases.{Row, seen_holds, Whole}
use Rattle.fm_law_no_fault.proofs.SpecialCalls.{special_owed}
use Rattle.fm_law_no_fault.proofs.Wanted.{wanted_held, wanted_object, word_fits_at}

module _ (i : Insn) (c : CallAt i) where
  abbrev o : Outline
  o = c.program.outline

  abbrev r : Row
  r = row_at i c

  abbrev u : Use
  u = use_by c.program c.frame.method i

  abbrev seen : List Sight
  seen = sights o c.areas.store c.frame.stack

  abbrev Owes : Effect → Type 0
  Owes e = Owed i c e

  -- ---- calls of instances

  module _ (instance : is_static_call i ≡ false) (takes : (m : ℕ) → words_of_call o i m ≡ Some (words_of_arguments o m + 1)) (unstatic : (m : MethodId) (n : TypeId) → u ≡ resolved.OfMethod m n → is_static (method_at o.classes m.0).method.flags ≡ false) where
    selected_owed : (m : MethodId) (n : TypeId) (t : TypeRef) (is : u ≡ resolved.OfMethod m n) (rest : List Slot)
        → taken o (argument_words o m.0 ++ slot.Ref t ∷ []) r.before.stack ≡ Some rest → is_constructor o m.0 ≡ false
        → (it : Looks) → slice_get seen (words_of_arguments o m.0) ≡ Some (Thing it) → Selects c.program it.type m.0
        → Owes (entered o (words_of_arguments o m.0 + 1) (select o.classes (receiver_class o it) m.0) c.byte seen)
    selected_owed m n t is rest taken_is ordinary it found sel =
        let alike : IsAlike o.classes m.0 sel.target = select_alike o.classes (receiver_class o it) m.0 sel.target sel.selected in
        let last = taken_last o (argument_words o m.0) (slot.Ref t) r.before.stack rest taken_is in
        let k : ℕ = length (argument_words o m.0) in
        let here : slice_get seen k ≡ Some (Thing it) = ap (λ j. slice_get seen j) (arguments_count o m.0) ∙ found in
        let fits_it : WordFits o c.areas.store r.own r.news last.0 (word_at c.frame.stack k) =
        word_fits_at o c.areas.store r.own r.news r.before.stack c.frame.stack r.stack k last.0 last.2 in
        subst (λ target. Owes (entered o (words_of_arguments o m.0 + 1) target c.byte seen)) (sym sel.selected)
        (instance_owed i c m.0 sel.target (record {
          same_descriptor = alike.descriptor;
          static = alike_static i c instance m.0 sel.target (unstatic m n is) alike;
          rest = last.0 ∷ rest;
          taken_is = last.1;
          receiver = λ called. record {
            slot_there = last.0;
            at = last.2;
            reference = reference_kind o c.areas.store r.own r.news last.0 t (word_at c.frame.stack k) last.3 fits_it.kind;
            leads = inr (seen_holds r k it (λ w. fits_type o.classes w (type_of_class (this_class o sel.target))) here sel.receives);
            constructs = λ constructor. absurd (false≢true (sym (same_constructor i c m.0 sel.target alike.name ∙ ordinary) ∙ constructor));
          };
        }) instance (takes m.0) (ap method_in is))

    -- what is taken where the row of an instance call is met
    instance_taken : (m : ℕ) (t : TypeRef) → cond (is_initializer o m) None (worked o (argument_words o m ++ slot.Ref t ∷ []) (result_words o m) r.before) ≡ Some c.after
        → (is_constructor o m ≡ false) × (rest : List Slot) × (taken o (argument_words o m ++ slot.Ref t ∷ []) r.before.stack ≡ Some rest)
    instance_taken m t row =
        let parts = cond-some_else (is_initializer o m) (worked o (argument_words o m ++ slot.Ref t ∷ []) (result_words o m) r.before) c.after row in
        let found = option_map-some (λ stack. record r.before { stack = result_words o m ++ stack }) (taken o (argument_words o m ++ slot.Ref t ∷ []) r.before.stack)
        c.after parts.1 in
        (no_constructor i c m parts.0, found.0, found.1)

    named_plain : (m : ℕ) (t : TypeRef) → cond (is_initializer o m) None (worked o (argument_words o m ++ slot.Ref t ∷ []) (result_words o m) r.before) ≡ Some c.after
        → is_initializer o m ≡ false
    named_plain m t row =
        (cond-some_else (is_initializer o m) (worked o (argument_words o m ++ slot.Ref t ∷ []) (result_words o m) r.before) c.after row).0

    virtual_owed : ((m : MethodId) (n : TypeId) (t of : TypeRef) → u ≡ resolved.OfMethod m n → slice_get o.types n.0 ≡ Some t
        → is_initializer o m.0 ≡ false → IsMet o of → fits_type o.classes of t ≡ true → Selects c.program of m.0) → instance_call_row o u r.before ≡ Some c.after → Owes (virtual_effect o u c.byte seen)
    unfolding instance_call_row virtual_effect
    virtual_owed selects row =
        by_row_method Owes o u _ c.after row _ (λ m n t is at called.
        let found = instance_taken m.0 t called in
        wanted_object o c.areas.store r.own r.news c.steps.tree Owes (argument_words o m.0 ++ slot.Ref t ∷ []) r.before.stack found.1 found.2 c.frame.stack r.stack
        (words_of_arguments o m.0) t (receiver_place i c m.0 t) _ (null_owed i c)
        (λ it there fits_it. selected_owed m n t is found.1 found.2 found.0 it there
        (selects m n t it.type is at (named_plain m.0 t called) (seen_made i c (words_of_arguments o m.0) it there) fits_it)))

    interface_owed : ((m : MethodId) (n : TypeId) (t of : TypeRef) → u ≡ resolved.OfMethod m n → slice_get o.types n.0 ≡ Some t
        → is_initializer o m.0 ≡ false → IsMet o of → is_sub o.classes of t ≡ true → Selects c.program of m.0) → instance_call_row o u r.before ≡ Some c.after → Owes (interface_effect o u c.byte seen)
    unfolding instance_call_row interface_effect
    interface_owed selects row =
        by_row_method Owes o u _ c.after row _ (λ m n t is at called.
        let found = instance_taken m.0 t called in
        wanted_held o c.areas.store r.own r.news c.steps.tree Owes (argument_words o m.0 ++ slot.Ref t ∷ []) r.before.stack found.1 found.2 c.frame.stack r.stack
        (words_of_arguments o m.0) t (receiver_place i c m.0 t) (thrown_null o) _ (λ none. null_owed i c)
        (λ it there fits_it. by_if Owes (is_sub o.classes it.type t)
        (entered o (words_of_arguments o m.0 + 1) (select o.classes (receiver_class o it) m.0) c.byte seen)
        (thrown o (codes "java/lang/IncompatibleClassChangeError"))
        (λ sub. selected_owed m n t is found.1 found.2 found.0 it there
        (selects m n t it.type is at (named_plain m.0 t called) (seen_made i c (words_of_arguments o m.0) it there) sub))
        (λ fails. thrown_owed i c (codes "java/lang/IncompatibleClassChangeError") c.cells.built_in.thrown.1.1.1.1.1.1.0)))

  -- ---- invokestatic

  static_owed : is_static_call i ≡ true → ((m : ℕ) → words_of_call o i m ≡ Some (words_of_arguments o m))
      → ((m : MethodId) (n : TypeId) → u ≡ resolved.OfMethod m n → is_static (method_at o.classes m.0).method.flags ≡ true)
      → static_call_row o u r.before ≡ Some c.after → Owes (static_effect o u c.byte seen)
  unfolding static_call_row static_effect
  static_owed static takes flags row =
      by_row_method Owes o u _ c.after row _ (λ m n t is at called.
      let parts = cond-some_else (is_initializer o m.0) (worked o (argument_words o m.0) (result_words o m.0) r.before) c.after called in
      let found = option_map-some (λ stack. record r.before { stack = result_words o m.0 ++ stack }) (taken o (argument_words o m.0) r.before.stack) c.after parts.1 in
      let none : length (argument_words o m.0) + 0 ≡ length (argument_words o m.0) = omega arith in
      started_owed i c (class_of_method o m.0) (entered o (words_of_arguments o m.0) (Some m.0) c.byte seen)
      (entered_owed i c m.0 m.0 (record {
        same_descriptor = refl;
        static = flags m n is ∙ sym static;
        rest = found.0;
        taken_is = found.1;
        receiver = λ called. absurd (false≢true (sym called ∙ static));
      }) (words_of_arguments o m.0)
      (sym (arguments_count o m.0) ∙ sym none ∙ ap (λ b. length (argument_words o m.0) + cond b 0 1) (sym static)) (takes m.0) (ap method_in is)
      (λ row native. c.free c.frame.method i m n row (named_at i c m n is) native) (native_of o m.0) refl))

-- ---- all calls

each_owed : (i : Insn) (c : CallAt i) → is_call i ≡ true
    → Owed i c (effect_of c.program.outline c.frame.method (use_by c.program c.frame.method i) i c.byte (sights c.program.outline c.areas.store c.frame.stack))
unfolding row_after effect_of
each_owed (insn.Virtual index) c call =
    let i : Insn = insn.Virtual index in
    virtual_owed i c refl (λ m. refl) (λ m n is. c.steps.calls.calls c.frame.method i m n false (named_at i c m n is) refl)
    (λ m n t of is at plain made fits_it. c.cells.calls.virtual c.frame.method index m n t of (named_at i c m n is) at plain made fits_it) c.at.row
each_owed (insn.Interface index) c call =
    let i : Insn = insn.Interface index in
    interface_owed i c refl (λ m. refl) (λ m n is. c.steps.calls.calls c.frame.method i m n false (named_at i c m n is) refl)
    (λ m n t of is at plain made sub. c.cells.calls.interface c.frame.method index m n t of (named_at i c m n is) at plain made sub) c.at.row
each_owed (insn.Special index) c call =
    let i : Insn = insn.Special index in
    special_owed i c refl (λ m. refl) (λ m n is. c.steps.calls.calls c.frame.method i m n false (named_at i c m n is) refl)
    (λ m n t is at constructor. c.cells.calls.constructors c.frame.method index m n t (named_at i c m n is) at constructor)
    (λ m n t is at ordinary above. c.cells.calls.special c.frame.method index m n t (named_at i c m n is) at ordinary above) c.at.row
each_owed (insn.Static index) c call =
    let i : Insn = insn.Static index in
    static_owed i c refl (λ m. refl) (λ m n is. c.steps.calls.calls c.frame.method i m n true (named_at i c m n is) refl) c.at.row
each_owed i c call = absurd (false≢true call)

pub call_whole : (p : Program) (typings : Typings) (typed_all : AreTyped p typings) (steps : StepsAreResolved p) (cells : CellsAreResolved p) → CallsNoFreeMe p
    → (x : Areas) (sound : AreasAreSound p.outline x) (areas : AreasAreWhole p.outline x) (f : Frame) (i : Insn) (after : TypeState)
    (h : StandsAtRow p typings f i after) (stands : StandsWithout p typings 0 f) (whole : FrameIsWhole p typings x.store f) (byte : Option ℕ) → is_call i ≡ true
    → CallLeads p f i after (effect_of p.outline f.method (use_by p f.method i) i byte (sights p.outline x.store f.stack))
    (effect_of p.outline f.method (use_by p f.method i) i byte (sights p.outline x.store f.stack)).next
    → Whole (row_here p typings typed_all steps cells x sound areas f i after h stands whole)
    (effect_of p.outline f.method (use_by p f.method i) i byte (sights p.outline x.store f.stack))
call_whole p typings typed_all steps cells free x sound areas f i after h stands whole byte call leads =
    (each_owed i (record {
      program = p;
      typings = typings;
      typed = typed_all;
      steps = steps;
      cells = cells;
      free = free;
      areas = x;
      sound = sound;
      whole = areas;
      frame = f;
      after = after;
      at = h;
      stands = stands;
      fits = whole;
      byte = byte;
    }) call).owes leads
