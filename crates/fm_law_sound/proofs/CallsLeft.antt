-- The state after a call relates to the frame that made it, with a result on top of the words below those of the call, by any relation of slots and values.
use Rattle.std.proofs.Common.{◌≡◌, ℕ, ◌+◌, Bool, true, false, cond, List, [], ◌∷◌, ◌++◌, length, drop, Option, Some, None, option_and_then, option_to_list, refl, sym, ◌∙◌, ap, subst, slice_get}
use Rattle.std.specs.List.{AllZip, flat_map, sum_by}
use Rattle.std.proofs.lemmas.List.{length-append, length-reverse}
use Rattle.std.proofs.lemmas.List.Sums.{sum_by-cons}
use Rattle.std.proofs.lemmas.Option.{same_Some}
use Rattle.fm_base.proofs.OptionFacts.{cond-some_else, cond-some_then, option_and_then-some, option_map-some}
use Rattle.fm_base.specs.declared.ids.MethodId.{MethodId}
use Rattle.fm_base.specs.declared.ids.TypeId.{TypeId}
use Rattle.fm_base.specs.declared.kinds.Kind.{Kind}
use Rattle.fm_base.specs.declared.kinds.Kind.TheVariants as kind
use Rattle.fm_base.specs.declared.kinds.TypeRef.{TypeRef}
use Rattle.fm_code.specs.declared.instructions.Insn.{Insn}
use Rattle.fm_code.specs.declared.instructions.Insn.TheVariants as insn
use Rattle.fm_types.specs.CallRows.{constructed, constructor_called, initialised, instance_call_row, is_constructor, is_initializer, is_type, names_own_or_above, names_own_or_parent, special_call_row, static_call_row}
use Rattle.fm_types.specs.Named as typed
use Rattle.fm_types.specs.Named.{argument_words, class_of_method, parameters_of, result_of, result_words, this_class}
use Rattle.fm_types.specs.Rows.{row_after}
use Rattle.fm_types.specs.States.{is_uninit, is_uninit_this, local_slots, stack_slots, taken, TypeState, worked}
use Rattle.fm_types.specs.declared.slots.Slot.{Slot}
use Rattle.fm_types.specs.declared.slots.Slot.TheVariants as slot
use Rattle.fm_types.proofs.Zips.{zip-append}
use Rattle.fm_base.specs.Kinds.{kind_words}
use Rattle.fm_world.specs.Numbers.{type_of_class}
use Rattle.fm_world.specs.Programs.{Outline}
use Rattle.fm_world.specs.declared.uses.Use.{Use}
use Rattle.fm_world.specs.declared.uses.Use.TheVariants as resolved
use Rattle.fm_frames.specs.CallRows.{words_of_arguments}
use Rattle.fm_frames.specs.declared.values.Value.{Value}
use Rattle.fm_law_sound.specs.Going.{ConstructorsGiveNothing}
use Rattle.fm_law_sound.specs.Sound.{words_of_call}
use Rattle.fm_law_sound.proofs.FramesLeft.{AreAs, dropped, slots_replaced, taken_drop}

-- ---- counts of words

pub kind_count : (k : Kind) → length (local_slots k) ≡ kind_words k
kind_count kind.Boolean = refl
kind_count kind.Byte = refl
kind_count kind.Char = refl
kind_count kind.Short = refl
kind_count kind.Int = refl
kind_count kind.Long = refl
kind_count (kind.Ref t) = refl

pub kinds_count : (kinds : List Kind) → length (flat_map local_slots kinds) ≡ sum_by kind_words kinds
kinds_count [] = refl
kinds_count (k ∷ kinds) =
    length-append (local_slots k) (flat_map local_slots kinds) ∙ ap (λ n. n + length (flat_map local_slots kinds)) (kind_count k)
    ∙ ap (λ n. kind_words k + n) (kinds_count kinds) ∙ sym (sum_by-cons kind_words k kinds)

pub arguments_count : (o : Outline) (method : ℕ) → length (argument_words o method) ≡ words_of_arguments o method
arguments_count o method = length-reverse (flat_map local_slots (parameters_of o method)) ∙ kinds_count (parameters_of o method)

-- ---- the method that a call names

abbrev pub method_in : Use → Option ℕ
method_in (resolved.OfMethod m t) = Some m.0
method_in u = None

pub named_in : (u : Use) (named : ℕ) → method_in u ≡ Some named → (m : MethodId) × (n : TypeId) × (u ≡ resolved.OfMethod m n) × (m.0 ≡ named)
named_in (resolved.OfMethod m t) named is = (m, t, refl, same_Some m.0 named is)
named_in u named is = absurd (cc)

pub row_of_method : (o : Outline) (u : Use) (follows : ℕ → TypeRef → Option TypeState) (named : ℕ) (after : TypeState) → method_in u ≡ Some named
    → typed.on_method o u follows ≡ Some after → (t : TypeRef) × (follows named t ≡ Some after)
row_of_method o u follows named after names row =
    let found = named_in u named names in
    let is : option_and_then (follows found.0.0) (slice_get o.types found.1.0) ≡ Some after = sym (ap (λ w. typed.on_method o w follows) found.2) ∙ row in
    let parts = option_and_then-some (follows found.0.0) (slice_get o.types found.1.0) after is in
    (parts.0, subst (λ m. follows m parts.0 ≡ Some after) found.3 parts.2)

-- ---- objects that are initialised

-- what is at a slot that the test picks out relates to this type too
abbrev pub IsMarked : (Slot → Value → Type 0) → (Slot → Bool) → TypeRef → Type 0
IsMarked P test t = (s : Slot) (v : Value) → test s ≡ true → P s v → P (slot.Ref t) v

no_values : (P : Slot → Value → Type 0) (values : List Value) → AllZip P [] values → values ≡ []
no_values P [] h = refl
no_values P (v ∷ values) h = absurd h

module _ (Local Word : Slot → Value → Type 0) (o : Outline) (method : ℕ) (news : ℕ → Option TypeRef) where
  -- both relations hold of an object that was made at an item once it is initialised, and of a constructor's own one
  abbrev pub MadeIsMarked : Type 0
  MadeIsMarked = (item : ℕ) (t : TypeRef) → is_type t (news item) ≡ true → IsMarked Local (is_uninit item) t × IsMarked Word (is_uninit item) t

  abbrev pub OwnIsMarked : Type 0
  OwnIsMarked =
      IsMarked Local is_uninit_this (type_of_class (this_class o method)) × IsMarked Word is_uninit_this (type_of_class (this_class o method))

  module _ (made : MadeIsMarked) (own : OwnIsMarked) where
    -- a copy of an object becomes one of its class
    constructed_left : (named : TypeRef) (receiver : Slot) (s after : TypeState) (locals words : List Value)
        → constructed o method news named receiver s ≡ Some after → AreAs Local Word s locals words → AreAs Local Word after locals words
    constructed_left named slot.Top s after locals words row h = absurd (cc)
    constructed_left named slot.Int s after locals words row h = absurd (cc)
    constructed_left named slot.Long s after locals words row h = absurd (cc)
    constructed_left named slot.Null s after locals words row h = absurd (cc)
    constructed_left named (slot.Ref t) s after locals words row h = absurd (cc)
    constructed_left named (slot.Uninit item) s after locals words row h =
        let parts = cond-some_then (is_type named (news item)) (Some (initialised (is_uninit item) named s)) after row in
        let marked = made item named parts.0 in
        subst (λ (t : TypeState). AreAs Local Word t locals words) (same_Some _ after parts.1)
        (record {
          in_locals = slots_replaced Local (is_uninit item) (slot.Ref named) marked.0 s.locals locals h.in_locals;
          in_stack = slots_replaced Word (is_uninit item) (slot.Ref named) marked.1 s.stack words h.in_stack;
        })
    constructed_left named slot.UninitThis s after locals words row h =
        let t : TypeRef = type_of_class (this_class o method) in
        let parts = cond-some_then (names_own_or_parent o (class_of_method o method) named) (Some (record (initialised is_uninit_this t s) { built = true })) after row in
        subst (λ (t : TypeState). AreAs Local Word t locals words) (same_Some _ after parts.1)
        (record {
          in_locals = slots_replaced Local is_uninit_this (slot.Ref t) own.0 s.locals locals h.in_locals;
          in_stack = slots_replaced Word is_uninit_this (slot.Ref t) own.1 s.stack words h.in_stack;
        })

    -- ---- the state after a call

    module _ (nothing_given : ConstructorsGiveNothing o) (s : TypeState) (named : ℕ) (locals words result : List Value) (in_locals : AllZip Local s.locals locals) (has : AllZip Word (result_words o named) result) where
      abbrev Goes : TypeState → Type 0
      Goes after = AreAs Local Word after locals (result ++ words)

      abbrev Left : ℕ → Type 0
      Left count = AllZip Word (drop count s.stack) words

      worked_returned : (wanted : List Slot) (count : ℕ) (after : TypeState) → worked o wanted (result_words o named) s ≡ Some after → length wanted ≡ count
          → Left count → Goes after
      worked_returned wanted count after row same in_stack =
          let parts = option_map-some (λ stack. record s { stack = result_words o named ++ stack }) (taken o wanted s.stack) after row in
          let left : drop count s.stack ≡ parts.0 = ap (λ n. drop n s.stack) (sym same) ∙ taken_drop o wanted s.stack parts.0 parts.1 in
          subst (λ (t : TypeState). AreAs Local Word t locals (result ++ words)) parts.2
          (record {
            in_locals = in_locals;
            in_stack = zip-append Word (result_words o named) result parts.0 words has (subst (λ xs. AllZip Word xs words) left in_stack);
          })

      with_receiver : (t : Slot) → length (argument_words o named ++ t ∷ []) ≡ words_of_arguments o named + 1
      with_receiver t = length-append (argument_words o named) (t ∷ []) ∙ ap (λ n. n + 1) (arguments_count o named)

      instance_left : (u : Use) (after : TypeState) → method_in u ≡ Some named → Left (words_of_arguments o named + 1) → instance_call_row o u s ≡ Some after
          → Goes after
      unfolding instance_call_row
      instance_left u after names in_stack row =
          let found = row_of_method o u _ named after names row in
          let wanted : List Slot = argument_words o named ++ slot.Ref found.0 ∷ [] in
          let parts = cond-some_else (is_initializer o named) (worked o wanted (result_words o named) s) after found.1 in
          worked_returned wanted (words_of_arguments o named + 1) after parts.1 (with_receiver (slot.Ref found.0)) in_stack

      static_left : (u : Use) (after : TypeState) → method_in u ≡ Some named → Left (words_of_arguments o named) → static_call_row o u s ≡ Some after
          → Goes after
      unfolding static_call_row
      static_left u after names in_stack row =
          let found = row_of_method o u _ named after names row in
          let parts = cond-some_else (is_initializer o named) (worked o (argument_words o named) (result_words o named) s) after found.1 in
          worked_returned (argument_words o named) (words_of_arguments o named) after parts.1 (arguments_count o named) in_stack

      -- a constructor gives nothing
      no_result : (given : Option Kind) → given ≡ None → AllZip Word (stack_slots (option_to_list given)) result → result ≡ []
      no_result None is h = no_values Word result h
      no_result (Some k) is h = absurd (cc)

      -- the state where the receiver is initialised
      abbrev receiver_state : TypeRef → List Slot → Option TypeState
      receiver_state t [] = None
      receiver_state t (receiver ∷ stack) = constructed o method news t receiver (record s { stack = stack })

      receiver_left : (t : TypeRef) (rest : List Slot) (after : TypeState) → receiver_state t rest ≡ Some after → AllZip Word (drop 1 rest) words
          → AreAs Local Word after locals words
      receiver_left t [] after row in_stack = absurd (cc)
      receiver_left t (receiver ∷ stack) after row in_stack =
          constructed_left t receiver (record s { stack = stack }) after locals words row (record { in_locals = in_locals; in_stack = in_stack })

      constructor_left : (t : TypeRef) (after : TypeState) → is_constructor o named ≡ true → Left (words_of_arguments o named + 1)
          → constructor_called o method news named t s ≡ Some after → Goes after
      constructor_left t after is in_stack row =
          let found = option_and_then-some (receiver_state t) (taken o (argument_words o named) s.stack) after row in
          let left : drop (words_of_arguments o named) s.stack ≡ found.0 =
          ap (λ n. drop n s.stack) (sym (arguments_count o named)) ∙ taken_drop o (argument_words o named) s.stack found.0 found.1 in
          let below : drop (words_of_arguments o named + 1) s.stack ≡ drop 1 found.0 =
          sym (dropped (words_of_arguments o named) s.stack) ∙ ap (λ xs. drop 1 xs) left in
          subst (λ given. AreAs Local Word after locals (given ++ words)) (sym (no_result (result_of o named) (nothing_given named is) has))
          (receiver_left t found.0 after found.2 (subst (λ xs. AllZip Word xs words) below in_stack))

      special_cases : (t : TypeRef) (b : Bool) (after : TypeState) → is_constructor o named ≡ b → Left (words_of_arguments o named + 1)
          → cond b (constructor_called o method news named t s) (cond (is_initializer o named) None
          (cond (names_own_or_above o (this_class o method) t)
          (worked o (argument_words o named ++ slot.Ref (type_of_class (this_class o method)) ∷ []) (result_words o named) s) None)) ≡ Some after
          → Goes after
      special_cases t true after is in_stack row = constructor_left t after is in_stack row
      special_cases t false after is in_stack row =
          let receiver : Slot = slot.Ref (type_of_class (this_class o method)) in
          let wanted : List Slot = argument_words o named ++ receiver ∷ [] in
          let first = cond-some_else (is_initializer o named) (cond (names_own_or_above o (this_class o method) t)
          (worked o wanted (result_words o named) s) None) after row in
          let second = cond-some_then (names_own_or_above o (this_class o method) t) (worked o wanted (result_words o named) s) after first.1 in
          worked_returned wanted (words_of_arguments o named + 1) after second.1 (with_receiver receiver) in_stack

      special_left : (u : Use) (after : TypeState) → method_in u ≡ Some named → Left (words_of_arguments o named + 1)
          → special_call_row o method news u s ≡ Some after → Goes after
      unfolding special_call_row
      special_left u after names in_stack row =
          let found = row_of_method o u _ named after names row in special_cases found.0 (is_constructor o named) after refl in_stack found.1

      pub call_left : (i : Insn) (item count : ℕ) (u : Use) (after : TypeState) → words_of_call o i named ≡ Some count → method_in u ≡ Some named → Left count
          → row_after o method item news u i s ≡ Some after → Goes after
      unfolding row_after
      call_left (insn.Virtual index) item count u after takes names in_stack row =
          instance_left u after names (subst Left (sym (same_Some (words_of_arguments o named + 1) count takes)) in_stack) row
      call_left (insn.Interface index) item count u after takes names in_stack row =
          instance_left u after names (subst Left (sym (same_Some (words_of_arguments o named + 1) count takes)) in_stack) row
      call_left (insn.Special index) item count u after takes names in_stack row =
          special_left u after names (subst Left (sym (same_Some (words_of_arguments o named + 1) count takes)) in_stack) row
      call_left (insn.Static index) item count u after takes names in_stack row =
          static_left u after names (subst Left (sym (same_Some (words_of_arguments o named) count takes)) in_stack) row
      call_left i item count u after takes names in_stack row = absurd (cc)
