-- The row of invokespecial: its receiver is an object of the own class or of one below it, or one that is to be initialised.
use Rattle.std.proofs.Common.{◌≡◌, ℕ, ◌+◌, cond, Bool, true, false, List, [], ◌∷◌, ◌++◌, length, Option, Some, None, refl, sym, ◌∙◌, ap, subst, inr, slice_get}
use Rattle.std.proofs.lemmas.Bool.{false≢true}
use Rattle.fm_base.proofs.OptionFacts.{cond-some_else, cond-some_then, option_and_then-some, option_map-some}
use Rattle.fm_base.specs.declared.ids.MethodId.{MethodId}
use Rattle.fm_base.specs.declared.ids.TypeId.{TypeId}
use Rattle.fm_base.specs.declared.kinds.TypeRef.{TypeRef}
use Rattle.fm_code.specs.AccessFlags.{is_static}
use Rattle.fm_code.specs.declared.instructions.Insn.{Insn}
use Rattle.fm_types.proofs.LeastJoins.{same_type-eq}
use Rattle.fm_types.proofs.Order.{type-trans}
use Rattle.fm_types.specs.CallRows.{constructed, constructor_called, is_constructor, is_initializer, is_type, names_own_or_above, names_own_or_parent, special_call_row}
use Rattle.fm_types.specs.Fits.{fits_type}
use Rattle.fm_types.specs.Named.{argument_words, class_of_method, result_words, this_class}
use Rattle.fm_types.specs.States.{taken, TypeState, worked}
use Rattle.fm_types.specs.Typed.{use_by}
use Rattle.fm_types.specs.declared.slots.Slot.{Slot}
use Rattle.fm_types.specs.declared.slots.Slot.TheVariants as slot
use Rattle.fm_world.specs.Members.{method_at}
use Rattle.fm_world.specs.Numbers.{type_of_class}
use Rattle.fm_world.specs.Programs.{class_of_type, Outline}
use Rattle.fm_world.specs.declared.uses.Use.{Use}
use Rattle.fm_world.specs.declared.uses.Use.TheVariants as resolved
use Rattle.fm_frames.specs.Acts.{cell_of}
use Rattle.fm_frames.specs.CallRows.{entered, special_effect, words_of_arguments}
use Rattle.fm_frames.specs.Effects.{Effect}
use Rattle.fm_frames.specs.Operands.{on_reference, thrown_null}
use Rattle.fm_frames.specs.Sights.{Sight, sights}
use Rattle.fm_frames.specs.States.{word_at}
use Rattle.fm_frames.specs.declared.values.Value.{Value}
use Rattle.fm_law_sound.specs.Going.{is_static_call}
use Rattle.fm_law_sound.specs.Sound.{IsReference, words_of_call}
use Rattle.fm_law_sound.proofs.CallsLeft.{arguments_count, method_in}
use Rattle.fm_law_sound.proofs.Cases.{by_if}
use Rattle.fm_law_sound.proofs.FoundMethods.{IsAlike, special_alike}
use Rattle.fm_law_sound.proofs.FramesLeft.{first_of, taken_drop}
use Rattle.fm_law_no_fault.specs.CellsResolved.{special_of}
use Rattle.fm_law_no_fault.specs.Whole.{HoldsA, is_below, WordFits}
use Rattle.fm_law_no_fault.proofs.ActsSuits.{holds_weaker, leads_weaker}
use Rattle.fm_law_no_fault.proofs.BelowClasses.{below_trans, named_above, own_below}
use Rattle.fm_world.proofs.TypeTests.{class_type}
use Rattle.fm_law_no_fault.proofs.CallLists.{at_end, by_row_method, taken_last}
use Rattle.fm_law_no_fault.proofs.CallTargets.{alike_static, CallAt, instance_owed, null_owed, Owed, Received, receiver_place, row_at, same_constructor}
use Rattle.fm_law_no_fault.proofs.ObjectRows.{below_fits}
use Rattle.fm_law_no_fault.proofs.RowCases.{Row}
use Rattle.fm_law_no_fault.proofs.Wanted.{slot_reference, wanted_leads, wanted_reference, word_fits_at}

module _ (i : Insn) (c : CallAt i) where
  abbrev o : Outline
  o = c.program.outline

  abbrev r : Row
  r = row_at i c

  abbrev u : Use
  u = use_by c.program c.frame.method i

  abbrev seen : List Sight
  seen = sights o c.areas.store c.frame.stack

  abbrev Owes : Effect → Type 0
  Owes e = Owed i c e

  module _ (instance : is_static_call i ≡ false) (takes : (m : ℕ) → words_of_call o i m ≡ Some (words_of_arguments o m + 1)) (unstatic : (m : MethodId) (n : TypeId) → u ≡ resolved.OfMethod m n → is_static (method_at o.classes m.0).method.flags ≡ false) where
    -- the receiver of a constructor is an object of the class that is named, or a constructor's own one, of a class below it
    constructed_holds : (t : TypeRef) (class : ℕ) → class_of_type t ≡ Some class → (receiver : Slot) (s : TypeState) → constructed o c.frame.method r.news t receiver s ≡ Some c.after
        → (v : Value) → WordFits o c.areas.store r.own r.news receiver v → IsReference v × HoldsA o c.areas.store (is_below o class) (cell_of v)
    constructed_holds t class class_is (slot.Uninit item) s row v fits_it =
        let parts = cond-some_then (is_type t (r.news item)) _ c.after row in (
          fits_it.kind,
          holds_weaker o c.areas.store (λ w. is_type w (r.news item)) (is_below o class)
              (λ w made. subst (λ y. is_below o class y ≡ true) (sym (one_made t w (r.news item) parts.0 made ∙ class_type t class class_is)) (own_below o c.steps.tree class))
              (cell_of v) fits_it.cell,
        ) where
          one_made : (t w : TypeRef) (found : Option TypeRef) → is_type t found ≡ true → is_type w found ≡ true → w ≡ t
          one_made t w None is other = absurd (false≢true is)
          one_made t w (Some y) is other = same_type-eq w y other ∙ sym (same_type-eq t y is)
    constructed_holds t class class_is slot.UninitThis s row v fits_it =
        let above = c.cells.calls.selves (class_of_method o c.frame.method) in
        let parts = cond-some_then (names_own_or_parent o (class_of_method o c.frame.method) t) _ c.after row in (
          fits_it.kind,
          holds_weaker o c.areas.store (is_below o r.own) (is_below o class)
              (λ w below. below_trans o c.steps.tree r.own class w below (named_above o c.steps.tree (class_of_method o c.frame.method) class above t class_is parts.0))
              (cell_of v) fits_it.cell,
        )
    constructed_holds t class class_is slot.Top s row v fits_it = absurd (cc)
    constructed_holds t class class_is slot.Int s row v fits_it = absurd (cc)
    constructed_holds t class class_is slot.Long s row v fits_it = absurd (cc)
    constructed_holds t class class_is slot.Null s row v fits_it = absurd (cc)
    constructed_holds t class class_is (slot.Ref w) s row v fits_it = absurd (cc)

    module _ (m : MethodId) (n : TypeId) (t : TypeRef) (is : u ≡ resolved.OfMethod m n) where
      abbrev target : ℕ
      target = special_of c.program c.frame.method m t

      abbrev k : ℕ
      k = length (argument_words o m.0)

      alike : IsAlike o.classes m.0 target
      alike = special_alike o.classes (class_of_method o c.frame.method) (class_of_type t) m.0

      abbrev entering : Bool → Effect
      entering is_null = cond is_null (thrown_null o) (entered o (words_of_arguments o m.0 + 1) (Some target) c.byte seen)

      either_owed : (rest : List Slot) → taken o (argument_words o m.0) r.before.stack ≡ Some rest → Received i c target k → (b : Bool) → Owes (entering b)
      either_owed rest taken_is received b =
          by_if Owes b (thrown_null o) (entered o (words_of_arguments o m.0 + 1) (Some target) c.byte seen) (λ none. null_owed i c)
          (λ some. instance_owed i c m.0 target (record {
            same_descriptor = alike.descriptor;
            static = alike_static i c instance m.0 target (unstatic m n is) alike;
            rest = rest;
            taken_is = taken_is;
            receiver = λ called. received;
          }) instance (takes m.0) (ap method_in is))

      -- a method of the own class or of one above it
      ordinary_owed : is_constructor o m.0 ≡ false → fits_type o.classes (type_of_class r.own) (type_of_class (this_class o target)) ≡ true → (rest : List Slot)
          → taken o (argument_words o m.0 ++ slot.Ref (type_of_class r.own) ∷ []) r.before.stack ≡ Some rest
          → Owes (on_reference seen (words_of_arguments o m.0) entering)
      ordinary_owed ordinary above rest taken_is =
          let last = taken_last o (argument_words o m.0) (slot.Ref (type_of_class r.own)) r.before.stack rest taken_is in
          let leads = wanted_leads o c.areas.store r.own r.news c.steps.tree Owes (argument_words o m.0 ++ slot.Ref (type_of_class r.own) ∷ []) r.before.stack rest taken_is
          c.frame.stack r.stack k (type_of_class r.own) (at_end (argument_words o m.0) (slot.Ref (type_of_class r.own))) in
          wanted_reference o c.areas.store r.own r.news c.steps.tree Owes (argument_words o m.0 ++ slot.Ref (type_of_class r.own) ∷ []) r.before.stack rest taken_is c.frame.stack
          r.stack (words_of_arguments o m.0) (type_of_class r.own) (receiver_place i c m.0 (type_of_class r.own)) entering
          (either_owed (last.0 ∷ rest) last.1 (record {
            slot_there = last.0;
            at = last.2;
            reference = leads.0;
            leads = leads_weaker o c.areas.store (λ w. fits_type o.classes w (type_of_class r.own)) (λ w. fits_type o.classes w (type_of_class (this_class o target)))
                (λ w fits_it. type-trans o.classes c.steps.tree w (type_of_class r.own) (type_of_class (this_class o target)) fits_it above) _ leads.1;
            constructs = λ constructor. absurd (false≢true (sym (same_constructor i c m.0 target alike.name ∙ ordinary) ∙ constructor));
          }))

      -- a constructor of the class that is named
      abbrev constructed_after : List Slot → Option TypeState
      constructed_after [] = None
      constructed_after (receiver ∷ stack) = constructed o c.frame.method r.news t receiver (record r.before { stack = stack })

      constructor_by : class_of_type t ≡ Some (this_class o target) → (rest : List Slot) → taken o (argument_words o m.0) r.before.stack ≡ Some rest
          → constructed_after rest ≡ Some c.after → Owes (on_reference seen (words_of_arguments o m.0) entering)
      constructor_by class_is [] taken_is row = absurd (cc)
      constructor_by class_is (receiver ∷ rest) taken_is row =
          let at : slice_get r.before.stack k ≡ Some receiver = first_of k r.before.stack receiver rest (taken_drop o (argument_words o m.0) r.before.stack (receiver ∷ rest) taken_is) in
          let fits_it : WordFits o c.areas.store r.own r.news receiver (word_at c.frame.stack k) =
          word_fits_at o c.areas.store r.own r.news r.before.stack c.frame.stack r.stack k receiver at in
          let holds = constructed_holds t (this_class o target) class_is receiver (record r.before { stack = rest }) row (word_at c.frame.stack k) fits_it in
          subst (λ j. Owes (on_reference seen j entering)) (arguments_count o m.0)
          (slot_reference o c.areas.store r.own r.news Owes r.before.stack c.frame.stack r.stack k receiver at entering (is_below o (this_class o target)) holds.0 (inr holds.1)
          (either_owed (receiver ∷ rest) taken_is (record {
            slot_there = receiver;
            at = at;
            reference = holds.0;
            leads = inr (holds_weaker o c.areas.store (is_below o (this_class o target)) (λ w. fits_type o.classes w (type_of_class (this_class o target)))
                (λ w below. below_fits o w (this_class o target) below) _ holds.1);
            constructs = λ constructor. holds.1;
          })))

      special_by : (b : Bool) → is_constructor o m.0 ≡ b
          → (is_constructor o m.0 ≡ true → class_of_type t ≡ Some (this_class o target))
          → (is_constructor o m.0 ≡ false → names_own_or_above o r.own t ≡ true → fits_type o.classes (type_of_class r.own) (type_of_class (this_class o target)) ≡ true)
          → cond b (constructor_called o c.frame.method r.news m.0 t r.before) (cond (is_initializer o m.0) None
          (cond (names_own_or_above o r.own t)
          (worked o (argument_words o m.0 ++ slot.Ref (type_of_class r.own) ∷ []) (result_words o m.0) r.before) None)) ≡ Some c.after
          → Owes (on_reference seen (words_of_arguments o m.0) entering)
      special_by true named constructs ordinary row =
          let found = option_and_then-some constructed_after (taken o (argument_words o m.0) r.before.stack) c.after row in
          constructor_by (constructs named) found.0 found.1 found.2
      special_by false named constructs ordinary row =
          let wanted : List Slot = argument_words o m.0 ++ slot.Ref (type_of_class r.own) ∷ [] in
          let first = cond-some_else (is_initializer o m.0) (cond (names_own_or_above o r.own t) (worked o wanted (result_words o m.0) r.before) None) c.after row in
          let second = cond-some_then (names_own_or_above o r.own t) (worked o wanted (result_words o m.0) r.before) c.after first.1 in
          let found = option_map-some (λ stack. record r.before { stack = result_words o m.0 ++ stack }) (taken o wanted r.before.stack) c.after second.1 in
          ordinary_owed named (ordinary named second.0) found.0 found.1

    pub special_owed : ((m : MethodId) (n : TypeId) (t : TypeRef) → u ≡ resolved.OfMethod m n → slice_get o.types n.0 ≡ Some t → is_constructor o m.0 ≡ true
        → class_of_type t ≡ Some (this_class o (special_of c.program c.frame.method m t)))
        → ((m : MethodId) (n : TypeId) (t : TypeRef) → u ≡ resolved.OfMethod m n → slice_get o.types n.0 ≡ Some t → is_constructor o m.0 ≡ false
        → names_own_or_above o r.own t ≡ true → fits_type o.classes (type_of_class r.own) (type_of_class (this_class o (special_of c.program c.frame.method m t))) ≡ true)
        → special_call_row o c.frame.method r.news u r.before ≡ Some c.after → Owes (special_effect o c.frame.method u c.byte seen)
    unfolding special_call_row special_effect
    special_owed constructs ordinary row =
        by_row_method Owes o u _ c.after row _ (λ m n t is at called.
        special_by m n t is (is_constructor o m.0) refl (constructs m n t is at) (ordinary m n t is at) called)
