-- The method that a call leads to gets arguments and a receiver that fit its first locals, and a built-in one gets what its row looks at.
use Rattle.std.proofs.Common.{◌≡◌, ℕ, suc, ◌+◌, ◌||◌, not, cond, Bool, true, false, List, [], ◌∷◌, ◌++◌, codes, drop, length, map, reverse, take, Option, Some, None, option_to_list, refl, sym, ◌∙◌, ap, subst, slice_get, arith, ⊎_elim}
use Rattle.std.specs.List.{AllZip, flat_map}
use Rattle.std.specs.Str.{bytes_eq}
use Rattle.std.proofs.lemmas.List.{reverse-append, reverse-reverse}
use Rattle.std.proofs.lemmas.Option.{slice_get-get_or}
use Rattle.std.proofs.lemmas.Slice.Zip.{AllZip-long}
use Rattle.fm_base.specs.declared.ids.MethodId.{MethodId}
use Rattle.fm_base.specs.declared.ids.TypeId.{TypeId}
use Rattle.fm_base.specs.declared.kinds.TypeRef.{TypeRef}
use Rattle.fm_code.specs.AccessFlags.{is_static}
use Rattle.fm_code.specs.declared.code_array.Code.{Code}
use Rattle.fm_code.specs.declared.instructions.Insn.{Insn}
use Rattle.fm_types.specs.CallRows.{is_constructor, is_initializer}
use Rattle.fm_types.specs.Fits.{fits, fits_type}
use Rattle.fm_types.specs.Named.{argument_words, built_in_type, parameters_of, result_words, this_class, throwable_type}
use Rattle.fm_types.specs.States.{local_slots, stack_slots, taken, TypeState}
use Rattle.fm_types.specs.Typed.{entry_slots, made_at, use_by}
use Rattle.fm_types.specs.declared.slots.Slot.{Slot}
use Rattle.fm_types.specs.declared.slots.Slot.TheVariants as slot
use Rattle.fm_types.proofs.Zips.{zip-append}
use Rattle.fm_world.specs.Descriptors.{parameter_kinds, result_kind}
use Rattle.fm_world.specs.Lookups.{constructor_name}
use Rattle.fm_world.specs.Members.{method_at}
use Rattle.fm_world.specs.Numbers.{type_of_class}
use Rattle.fm_world.specs.Programs.{Outline, Program}
use Rattle.fm_world.specs.declared.uses.Use.{Use}
use Rattle.fm_world.specs.declared.uses.Use.TheVariants as resolved
use Rattle.fm_frames.specs.Acts.{cell_of, value_of}
use Rattle.fm_frames.specs.CallRows.{entered_as, native_of, words_of_arguments}
use Rattle.fm_frames.specs.Effects.{Calls, Effect, Enters, Exits, Falls, Faults, Jumps, JumpsIfSame, Next, Returns, Throws}
use Rattle.fm_frames.specs.NativeRows.{native_effect}
use Rattle.fm_frames.specs.Natives.{has_receiver}
use Rattle.fm_frames.specs.declared.natives.Native.{Native}
use Rattle.fm_frames.specs.ObjectRows.{starting}
use Rattle.fm_frames.specs.Operands.{thrown, thrown_null}
use Rattle.fm_frames.specs.Sights.{Looks, Sight, sights, Thing, type_numbered}
use Rattle.fm_frames.specs.States.{Areas, Frame, word_at}
use Rattle.fm_frames.specs.Steps.{written}
use Rattle.fm_frames.specs.declared.values.Value.{Value}
use Rattle.fm_same.specs.Covering.{is_free_me}
use Rattle.fm_same.specs.Resolved.{CallsNoFreeMe}
use Rattle.fm_law_sound.specs.Going.{CallLeads, is_static_call, StandsAtRow}
use Rattle.fm_law_sound.specs.Leading.{sources_of}
use Rattle.fm_law_sound.specs.Resolved.{IsNamed, StepsAreResolved}
use Rattle.fm_law_sound.specs.Sound.{AreasAreSound, AreTyped, IsReference, StandsWithout, Typings, words_of_call}
use Rattle.fm_law_sound.proofs.CallsLeft.{arguments_count, method_in}
use Rattle.fm_law_sound.proofs.FoundMethods.{IsAlike}
use Rattle.fm_law_sound.proofs.SeenObjects.{IsSeen, seen_at}
use Rattle.fm_law_no_fault.specs.CellsResolved.{arguments_asked, CellsAreResolved, IsMet, result_given, TakesAsAsked}
use Rattle.fm_law_no_fault.specs.Whole.{AreasAreWhole, FrameIsWhole, HoldsA, is_below, LeadsToA, WordFits}
use Rattle.fm_law_no_fault.proofs.CallLists.{at_end, either_count, free_alone, from_not, locals_anyones, take_more, zip_reversed}
use Rattle.fm_law_no_fault.proofs.CellsLeave.{stack_left}
use Rattle.fm_law_no_fault.proofs.FrameRows.{row_here}
use Rattle.fm_law_no_fault.proofs.NativeRows.{HasOperands, native_whole, NativeNext, receiver_count, Receives}
use Rattle.fm_law_no_fault.proofs.Owing.{Cell, CellsFit, NextSuits}
use Rattle.fm_law_no_fault.proofs.ReturnsKeep.{call_cells, elsewhere}
use Rattle.fm_law_no_fault.proofs.RowCases.{locals_later, Row, taken_cells, thrown_whole, Whole}

-- a frame that is whole meets the row of a call
pub record CallAt (i : Insn) : Type 0 where
  pub program : Program
  pub typings : Typings
  pub typed : AreTyped program typings
  pub steps : StepsAreResolved program
  pub cells : CellsAreResolved program
  pub free : CallsNoFreeMe program
  pub areas : Areas
  pub sound : AreasAreSound program.outline areas
  pub whole : AreasAreWhole program.outline areas
  pub frame : Frame
  pub after : TypeState
  pub at : StandsAtRow program typings frame i after
  pub stands : StandsWithout program typings 0 frame
  pub fits : FrameIsWhole program typings areas.store frame
  pub byte : Option ℕ

abbrev pub row_at : (i : Insn) → CallAt i → Row
row_at i c = row_here c.program c.typings c.typed c.steps c.cells c.areas c.sound c.whole c.frame i c.after c.at c.stands c.fits

module _ (i : Insn) (c : CallAt i) where
  abbrev o : Outline
  o = c.program.outline

  abbrev r : Row
  r = row_at i c

  abbrev u : Use
  u = use_by c.program c.frame.method i

  abbrev seen : List Sight
  seen = sights o c.areas.store c.frame.stack

  -- what is to be shown of each effect that a call can have, where it leads as it may by its kinds
  pub record Owed (e : Effect) : Type 0 where
    pub owes : CallLeads c.program c.frame i c.after e e.next → Whole r e

  pub thrown_owed : (name : List ℕ) → fits_type o.classes (built_in_type o name) (throwable_type o) ≡ true → Owed (thrown o name)
  thrown_owed name is = record { owes = λ leads. thrown_whole r name is }

  pub null_owed : Owed (thrown_null o)
  null_owed = thrown_owed (codes "java/lang/NullPointerException") c.cells.built_in.thrown.0

  -- a class is started first
  unstarted : (class : ℕ) (e : Effect) (next : Next) → CallLeads c.program c.frame i c.after (starting class e) next → CallLeads c.program c.frame i c.after e next
  unstarted class e Falls leads = leads
  unstarted class e (Jumps n) leads = leads
  unstarted class e (JumpsIfSame same) leads = leads
  unstarted class e (Calls target) leads = leads
  unstarted class e (Returns n) leads = leads
  unstarted class e (Throws s) leads = leads
  unstarted class e (Enters methods) leads = leads
  unstarted class e (Exits n) leads = leads
  unstarted class e (Faults s) leads = leads

  started_suits : (class : ℕ) (e : Effect) (next : Next) → NextSuits c.program c.areas.store r.own r.news c.after c.frame e next
      → NextSuits c.program c.areas.store r.own r.news c.after c.frame (starting class e) next
  started_suits class e Falls suits = suits
  started_suits class e (Jumps n) suits = suits
  started_suits class e (JumpsIfSame same) suits = suits
  started_suits class e (Calls target) suits = suits
  started_suits class e (Returns n) suits = suits
  started_suits class e (Throws s) suits = suits
  started_suits class e (Enters methods) suits = suits
  started_suits class e (Exits n) suits = suits
  started_suits class e (Faults s) suits = suits

  pub started_owed : (class : ℕ) (e : Effect) → Owed e → Owed (starting class e)
  started_owed class e owed = record {
    owes = λ leads.
        let here = owed.owes (unstarted class e e.next leads) in
        record { acts = here.acts; next = started_suits class e e.next here.next };
  }

  -- ---- the method that is called

  -- a receiver that fits the class of the method; where that is a constructor, an object of that class or of one below it
  pub record Received (target n : ℕ) : Type 0 where
    pub slot_there : Slot
    pub at : slice_get r.before.stack n ≡ Some slot_there
    pub reference : IsReference (word_at c.frame.stack n)
    pub leads : LeadsToA o c.areas.store (λ w. fits_type o.classes w (type_of_class (this_class o target))) (cell_of (word_at c.frame.stack n))
    pub constructs : is_constructor o target ≡ true → HoldsA o c.areas.store (is_below o (this_class o target)) (cell_of (word_at c.frame.stack n))

  -- the method that a call leads to, with the words that it takes
  pub record Target (named target : ℕ) : Type 0 where
    pub same_descriptor : (method_at o.classes target).method.descriptor ≡ (method_at o.classes named).method.descriptor
    pub static : is_static (method_at o.classes target).method.flags ≡ is_static_call i
    pub rest : List Slot
    pub taken_is : taken o (argument_words o named) r.before.stack ≡ Some rest
    pub receiver : is_static_call i ≡ false → Received target (length (argument_words o named))

  module _ (named target : ℕ) (t : Target named target) where
    abbrev n : ℕ
    n = length (argument_words o named)

    same_parameters : parameters_of o named ≡ parameters_of o target
    same_parameters = ap (parameter_kinds o.classes) (sym t.same_descriptor)

    long : length r.before.stack ≡ length c.frame.stack
    long = sym (AllZip-long (WordFits o c.areas.store r.own r.news) r.before.stack c.frame.stack r.stack)

    module _ (code : Code) where
      abbrev There : List Slot → List Value → Type 0
      There slots words = AllZip (Cell o c.areas.store (this_class o target) (made_at c.program target code)) slots words

      arguments_there : There (flat_map local_slots (parameters_of o target)) (reverse (take n c.frame.stack))
      arguments_there =
          let here = zip_reversed (Cell o c.areas.store r.own r.news) (argument_words o named) (take n c.frame.stack) (taken_cells r (argument_words o named) t.rest t.taken_is) in
          let turned = subst (λ xs. AllZip (Cell o c.areas.store r.own r.news) xs (reverse (take n c.frame.stack)))
          (reverse-reverse (flat_map local_slots (parameters_of o named)) ∙ ap (flat_map local_slots) same_parameters) here in
          elsewhere o c.areas.store r.own (this_class o target) r.news (made_at c.program target code) (flat_map local_slots (parameters_of o target))
          (reverse (take n c.frame.stack))
          (locals_anyones o c.areas.store r.own (this_class o target) r.news (made_at c.program target code) (parameters_of o target)) turned

      receiver_there : (w : Received target n) (b : Bool) → is_constructor o target ≡ b
          → There (cond b (slot.UninitThis ∷ []) (slot.Ref (type_of_class (this_class o target)) ∷ [])) (word_at c.frame.stack n ∷ [])
      receiver_there w true is = (w.constructs is, tt)
      receiver_there w false is = (w.leads, tt)

      with_receiver : (w : Received target n) → is_static (method_at o.classes target).method.flags ≡ false
          → There (entry_slots o target) (reverse (take (suc n) c.frame.stack))
      with_receiver w instance =
          let one = receiver_there w (is_constructor o target) refl in
          let both = zip-append (Cell o c.areas.store (this_class o target) (made_at c.program target code)) _ (word_at c.frame.stack n ∷ [])
          (flat_map local_slots (parameters_of o target)) (reverse (take n c.frame.stack)) one arguments_there in
          let words : reverse (take (suc n) c.frame.stack) ≡ word_at c.frame.stack n ∷ reverse (take n c.frame.stack) =
          ap reverse (take_more n c.frame.stack r.before.stack w.slot_there long w.at) ∙ reverse-append (take n c.frame.stack) (word_at c.frame.stack n ∷ []) in
          subst (λ ws. There (entry_slots o target) ws) (sym words)
          (subst (λ b. There (cond b [] (cond (is_constructor o target) (slot.UninitThis ∷ []) (slot.Ref (type_of_class (this_class o target)) ∷ []))
          ++ flat_map local_slots (parameters_of o target)) (word_at c.frame.stack n ∷ reverse (take n c.frame.stack))) (sym instance) both)

      without_receiver : is_static (method_at o.classes target).method.flags ≡ true → There (entry_slots o target) (reverse (take n c.frame.stack))
      without_receiver static =
          subst (λ b. There (cond b [] (cond (is_constructor o target) (slot.UninitThis ∷ []) (slot.Ref (type_of_class (this_class o target)) ∷ []))
          ++ flat_map local_slots (parameters_of o target)) (reverse (take n c.frame.stack))) (sym static) arguments_there

      entry_there : (words : ℕ) (b : Bool) → is_static_call i ≡ b → words ≡ n + cond b 0 1 → There (entry_slots o target) (reverse (take words c.frame.stack))
      entry_there words true is count =
          let same : words ≡ n = omega (arith, count) in
          subst (λ k. There (entry_slots o target) (reverse (take k c.frame.stack))) (sym same) (without_receiver (t.static ∙ is))
      entry_there words false is count =
          let same : words ≡ suc n = omega (arith, count) in
          subst (λ k. There (entry_slots o target) (reverse (take k c.frame.stack))) (sym same) (with_receiver (t.receiver is) (t.static ∙ is))

    -- ---- a built-in method

    module _ (row : Native) (native : native_of o target ≡ Some row) where
      asked : TakesAsAsked o target row
      asked = c.cells.built_in.methods target row native

      same_arguments : argument_words o named ≡ arguments_asked o row
      same_arguments = ap (λ kinds. stack_slots kinds) same_parameters ∙ asked.arguments

      no_receiver : is_static_call i ≡ not (has_receiver row)
      no_receiver = sym t.static ∙ asked.static

      received : has_receiver row ≡ true → is_static_call i ≡ false
      received has = no_receiver ∙ ap not has

      operands : HasOperands r row (type_of_class (this_class o target))
      operands = record {
        rest = t.rest;
        taken_is = subst (λ xs. taken o xs r.before.stack ≡ Some t.rest) same_arguments t.taken_is;
        receiver = λ has.
            let w : Received target n = t.receiver (received has) in
            subst (λ k. Receives r k (λ v. fits_type o.classes v (type_of_class (this_class o target)))) (ap length same_arguments)
            (record { slot_there = w.slot_there; at = w.at; reference = w.reference; leads = w.leads });
        suits = λ has v fits_it. asked.receiver (t.static ∙ received has) v fits_it;
      }

      same_result : result_given o (type_of_class (this_class o target)) row ≡ result_words o named
      same_result = sym asked.result ∙ ap (λ d. stack_slots (option_to_list (result_kind o.classes d))) t.same_descriptor

      native_suits : (words : ℕ) → words ≡ n + cond (is_static_call i) 0 1 → words_of_call o i named ≡ Some words → method_in u ≡ Some named
          → (e : Effect) (next : Next) → NativeNext r row (type_of_class (this_class o target)) e next
          → NextSuits c.program c.areas.store r.own r.news c.after c.frame e next
      native_suits words count takes names e Falls owes = λ y made went.
          let taken_off : e.takes ≡ words =
          owes.0 ∙ ap (λ k. k + receiver_count row) (sym (ap length same_arguments))
          ∙ ap (λ k. n + k) (either_count (has_receiver row) (is_static_call i) (receiver_count row) no_receiver refl) ∙ sym count in
          let result = map (value_of (sources_of c.frame y made)) e.gives in
          let after_call = call_cells o c.steps.tree y.store r.own r.news c.steps.calls.constructors c.at.known named c.frame.locals (drop words c.frame.stack) result
          (locals_later r y went.extends)
          (subst (λ slots. AllZip (Cell o y.store r.own r.news) slots result) same_result (owes.2 y made went)) i c.frame.method c.frame.item words refl u c.after takes names
          (stack_left o c.areas.store r.own r.news c.at.known c.frame r.locals r.stack y went.extends words) c.at.row in
          subst (λ k. CellsFit o y.store r.own r.news c.after (written (sources_of c.frame y made) e.writes c.frame.locals) (result ++ drop k c.frame.stack)) (sym taken_off)
          (subst (λ ws. CellsFit o y.store r.own r.news c.after (written (sources_of c.frame y made) ws c.frame.locals) (result ++ drop words c.frame.stack)) (sym owes.1) after_call)
      native_suits words count takes names e (Throws s) owes = owes
      native_suits words count takes names e (Exits m) owes = tt
      native_suits words count takes names e next owes = absurd owes

      native_owed : (words : ℕ) → words ≡ n + cond (is_static_call i) 0 1 → words_of_call o i named ≡ Some words → method_in u ≡ Some named
          → is_free_me row ≡ false → Owed (native_effect o row c.byte seen)
      native_owed words count takes names other =
          let built = native_whole r (type_of_class (this_class o target)) row operands other c.byte in
          record {
            owes = λ leads. record {
              acts = built.acts;
              next = native_suits words count takes names (native_effect o row c.byte seen) (native_effect o row c.byte seen).next built.next;
            };
          }

    pub entered_owed : (words : ℕ) → words ≡ n + cond (is_static_call i) 0 1 → words_of_call o i named ≡ Some words → method_in u ≡ Some named
        → ((row : Native) → native_of o target ≡ Some row → is_free_me row ≡ false) → (found : Option Native) → native_of o target ≡ found
        → Owed (entered_as o words target c.byte seen found)
    entered_owed words count takes names other None is = record {
      owes = λ leads. record { acts = tt; next = λ code code_is. entry_there code words (is_static_call i) refl count };
    }
    entered_owed words count takes names other (Some row) is = native_owed row is words count takes names (other row is)

    -- where the call has a receiver
    pub instance_owed : is_static_call i ≡ false → words_of_call o i named ≡ Some (words_of_arguments o named + 1) → method_in u ≡ Some named
        → Owed (entered_as o (words_of_arguments o named + 1) target c.byte seen (native_of o target))
    instance_owed instance takes names =
        entered_owed (words_of_arguments o named + 1)
        (ap (λ k. k + 1) (sym (arguments_count o named)) ∙ ap (λ b. n + cond b 0 1) (sym instance)) takes names
        (λ row is. free_alone row (from_not (has_receiver row) (is_static_call i) (no_receiver row is) instance)) (native_of o target) refl

  -- ---- what is known of what the instruction names

  pub named_at : (m : MethodId) (n : TypeId) → u ≡ resolved.OfMethod m n → IsNamed c.program c.frame.method i (resolved.OfMethod m n)
  named_at m n is = record { code = c.at.code; code_is = c.at.code_is; item = c.frame.item; insn_is = c.at.insn_is; use_is = is }

  -- objects are made of the type that is seen
  pub seen_made : (n : ℕ) (it : Looks) → slice_get seen n ≡ Some (Thing it) → IsMet o it.type
  seen_made n it found =
      let saw : IsSeen o c.areas.store (cell_of (word_at c.frame.stack n)) it = seen_at o c.areas.store c.frame.stack n it found in
      let lies = c.sound.heap (cell_of (word_at c.frame.stack n)) saw.object saw.held in
      let inside = c.steps.calls.runnable.types saw.object.class (type_numbered o saw.object.class)
      (slice_get-get_or o.types saw.object.class (type_of_class 0) lies.numbered) in
      subst (IsMet o) (sym saw.type_is) (inside, lies.of_type.made)

  pub receiver_place : (m : ℕ) (t : TypeRef) → slice_get (argument_words o m ++ slot.Ref t ∷ []) (words_of_arguments o m) ≡ Some (slot.Ref t)
  receiver_place m t =
      ap (λ k. slice_get (argument_words o m ++ slot.Ref t ∷ []) k) (sym (arguments_count o m)) ∙ at_end (argument_words o m) (slot.Ref t)

  pub same_constructor : (named target : ℕ) → (method_at o.classes target).method.name ≡ (method_at o.classes named).method.name
      → is_constructor o target ≡ is_constructor o named
  same_constructor named target same = ap (λ name. bytes_eq name constructor_name) same

  pub no_constructor : (named : ℕ) → is_initializer o named ≡ false → is_constructor o named ≡ false
  no_constructor named is = first_false (is_constructor o named) _ is where
    first_false : (a b : Bool) → (a || b) ≡ false → a ≡ false
    first_false false b e = refl
    first_false true b e = e

  -- what is called of a receiver isn't static
  pub alike_static : is_static_call i ≡ false → (m target : ℕ) → is_static (method_at o.classes m).method.flags ≡ false → IsAlike o.classes m target
      → is_static (method_at o.classes target).method.flags ≡ is_static_call i
  alike_static instance m target is alike =
      ⊎_elim (λ same. ap (λ k. is_static (method_at o.classes k).method.flags) same ∙ is) (λ other. other) alike.flags ∙ sym instance
