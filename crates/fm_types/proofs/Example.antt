-- The example: each state by computation, and the edges gone over.
use Rattle.std.proofs.Common.{◌≡◌, ◌⊎◌, inl, inr, refl, sym, subst, ℕ, zero, suc, ◌+◌, ◌<◌, true, false, List, [], ◌∷◌, Option, Some, is_some, lit<, lit≤, arith, Contains}
use Rattle.std.specs.Prelude.{IsSomeAnd}
use Rattle.std.proofs.lemmas.Bool.{false≢true}
use Rattle.fm_base.specs.declared.kinds.Base.TheVariants as base
use Rattle.fm_code.specs.Edges.{Catches, falls_through, FallsOff, IsEdge, IsFlowPath, insn_of, IsHandlerEdge, IsNormalEdge, IsReachable}
use Rattle.fm_code.specs.declared.code_array.Code.{Code}
use Rattle.fm_code.specs.declared.code_array.Handler.{Handler}
use Rattle.fm_types.specs.CallRows.{special_call_row, return_row}
use Rattle.fm_types.specs.Example.{main_number, array, joined, of_number, program_with, strings, of_b, of_throwable, typed_code, typed_states, untyped_code}
use Rattle.fm_types.specs.Fits.{fits, fits_type}
use Rattle.fm_types.specs.Joins.{join, join_type}
use Rattle.fm_types.specs.NumberRows.{load_row, move_row, store_row}
use Rattle.fm_types.specs.ObjectRows.{new_row}
use Rattle.fm_types.specs.Rows.{row_after}
use Rattle.fm_types.specs.States.{state_fits, TypeState}
use Rattle.fm_types.specs.Typed.{caught_type, entry_state, FitsAt, IsTypingOf, MeetsItem, state_at, Typed}
use Rattle.fm_types.specs.declared.slots.Slot.{Slot}
use Rattle.fm_types.specs.declared.slots.Slot.TheVariants as slot
use Rattle.fm_world.specs.BuiltIns.{built_in, built_in_classes}
use Rattle.fm_world.specs.Chains.{chain_of}
use Rattle.fm_world.specs.Descriptors.{of_class}
use Rattle.fm_world.specs.Lookups.{resolved_field, resolved_method}
use Rattle.fm_world.specs.Members.{fields_of, methods_of}
use Rattle.fm_world.specs.Numbers.{texts_of, types_of}
use Rattle.fm_world.specs.Programs.{classes_of, code_at, codes_of, outline_of, program_of, uses_of}
use Rattle.fm_world.specs.Uses.{used_indices}

-- ---- the method, and the state that it begins with

pub typed_code_is : code_at (program_with typed_code) main_number ≡ Some typed_code
unfolding built_in chain_of resolved_field resolved_method fields_of methods_of texts_of types_of classes_of outline_of uses_of codes_of program_of used_indices fits fits_type state_fits entry_state caught_type row_after new_row special_call_row return_row load_row move_row store_row
typed_code_is = refl

pub untyped_code_is : code_at (program_with untyped_code) main_number ≡ Some untyped_code
unfolding built_in chain_of resolved_field resolved_method fields_of methods_of texts_of types_of classes_of outline_of uses_of codes_of program_of used_indices fits fits_type state_fits entry_state caught_type row_after new_row special_call_row return_row load_row move_row store_row
untyped_code_is = refl

typed_first : state_at typed_states 0 ≡ Some (entry_state (program_with typed_code).outline main_number typed_code)
unfolding built_in chain_of resolved_field resolved_method fields_of methods_of texts_of types_of classes_of outline_of uses_of codes_of program_of used_indices fits fits_type state_fits entry_state caught_type row_after new_row special_call_row return_row load_row move_row store_row
typed_first = refl

-- ---- edges

only_next : (P : ℕ → Type 0) (j next : ℕ) → P (j + 1) → Contains [] next ⊎ ((true ≡ true) × (next ≡ j + 1)) → P next
only_next P j next holds (inl (k, inside, there)) = absurd (omega (arith, inside))
only_next P j next holds (inr (falls, same)) = subst P (sym same) holds

never_next : (P : ℕ → Type 0) (j next : ℕ) → Contains [] next ⊎ ((false ≡ true) × (next ≡ j + 1)) → P next
never_next P j next (inl (k, inside, there)) = absurd (omega (arith, inside))
never_next P j next (inr (falls, same)) = absurd (false≢true falls)

-- ---- each item

-- what the item asks of its state in the example
abbrev Meets : ℕ → Slot → List Slot → Type 0
Meets j second stack =
    MeetsItem (program_with typed_code) main_number typed_code typed_states j (record { locals = strings ∷ second ∷ []; stack = stack; built = true })

abbrev Fitting : Slot → List Slot → ℕ → Type 0
Fitting second stack next =
    FitsAt (program_with typed_code) typed_states next (record { locals = strings ∷ second ∷ []; stack = stack; built = true })

meets_0 : Meets 0 slot.Top []
unfolding built_in chain_of resolved_field resolved_method fields_of methods_of texts_of types_of classes_of outline_of uses_of codes_of program_of used_indices fits fits_type state_fits entry_state caught_type row_after new_row special_call_row return_row load_row move_row store_row
meets_0 = record {
  locals = refl;
  stack = lit≤ tt;
  whole = refl;
  row = (λ next e. only_next (Fitting slot.Top (slot.Uninit 0 ∷ [])) 0 next refl e.leads);
  handlers = (λ w. refl, tt);
}

meets_1 : Meets 1 slot.Top (slot.Uninit 0 ∷ [])
unfolding built_in chain_of resolved_field resolved_method fields_of methods_of texts_of types_of classes_of outline_of uses_of codes_of program_of used_indices fits fits_type state_fits entry_state caught_type row_after new_row special_call_row return_row load_row move_row store_row
meets_1 = record {
  locals = refl;
  stack = lit≤ tt;
  whole = refl;
  row = (λ next e. only_next (Fitting slot.Top (slot.Uninit 0 ∷ slot.Uninit 0 ∷ [])) 1 next refl e.leads);
  handlers = (λ w. refl, tt);
}

meets_2 : Meets 2 slot.Top (slot.Uninit 0 ∷ slot.Uninit 0 ∷ [])
unfolding built_in chain_of resolved_field resolved_method fields_of methods_of texts_of types_of classes_of outline_of uses_of codes_of program_of used_indices fits fits_type state_fits entry_state caught_type row_after new_row special_call_row return_row load_row move_row store_row
meets_2 = record {
  locals = refl;
  stack = lit≤ tt;
  whole = refl;
  row = (λ next e. only_next (Fitting slot.Top (of_b ∷ [])) 2 next refl e.leads);
  handlers = (λ w. refl, tt);
}

meets_3 : Meets 3 slot.Top (of_b ∷ [])
unfolding built_in chain_of resolved_field resolved_method fields_of methods_of texts_of types_of classes_of outline_of uses_of codes_of program_of used_indices fits fits_type state_fits entry_state caught_type row_after new_row special_call_row return_row load_row move_row store_row
meets_3 = record {
  locals = refl;
  stack = lit≤ tt;
  whole = refl;
  row = (λ next e. only_next (Fitting of_b []) 3 next refl e.leads);
  handlers = (λ w. absurd (omega (arith, w.before_end)), tt);
}

meets_4 : Meets 4 of_b []
unfolding built_in chain_of resolved_field resolved_method fields_of methods_of texts_of types_of classes_of outline_of uses_of codes_of program_of used_indices fits fits_type state_fits entry_state caught_type row_after new_row special_call_row return_row load_row move_row store_row
meets_4 = record {
  locals = refl;
  stack = lit≤ tt;
  whole = refl;
  row = (λ next e. never_next (Fitting of_b []) 4 next e.leads);
  handlers = (λ w. absurd (omega (arith, w.before_end)), tt);
}

meets_5 : Meets 5 slot.Top (of_throwable ∷ [])
unfolding built_in chain_of resolved_field resolved_method fields_of methods_of texts_of types_of classes_of outline_of uses_of codes_of program_of used_indices fits fits_type state_fits entry_state caught_type row_after new_row special_call_row return_row load_row move_row store_row
meets_5 = record {
  locals = refl;
  stack = lit≤ tt;
  whole = refl;
  row = (λ next e. only_next (Fitting slot.Top []) 5 next refl e.leads);
  handlers = (λ w. absurd (omega (arith, w.before_end)), tt);
}

meets_6 : Meets 6 slot.Top []
unfolding built_in chain_of resolved_field resolved_method fields_of methods_of texts_of types_of classes_of outline_of uses_of codes_of program_of used_indices fits fits_type state_fits entry_state caught_type row_after new_row special_call_row return_row load_row move_row store_row
meets_6 = record {
  locals = refl;
  stack = lit≤ tt;
  whole = refl;
  row = (λ next e. never_next (Fitting slot.Top []) 6 next e.leads);
  handlers = (λ w. absurd (omega (arith, w.before_end)), tt);
}

state-is : {a b : TypeState} → Some a ≡ Some b → a ≡ b
state-is e = cc

items_meet : (j : ℕ) (s : TypeState) → state_at typed_states j ≡ Some s → MeetsItem (program_with typed_code) main_number typed_code typed_states j s
items_meet j s e = by_item j e where
  at_item : (k : ℕ) (t : TypeState) → MeetsItem (program_with typed_code) main_number typed_code typed_states k t → Some t ≡ Some s
      → MeetsItem (program_with typed_code) main_number typed_code typed_states k s
  at_item k t meets same =
      let P : TypeState → Type 0 = λ u. MeetsItem (program_with typed_code) main_number typed_code typed_states k u in subst P (state-is same) meets

  by_item : (k : ℕ) → state_at typed_states k ≡ Some s → MeetsItem (program_with typed_code) main_number typed_code typed_states k s
  by_item zero h = at_item 0 _ meets_0 h
  by_item (suc zero) h = at_item 1 _ meets_1 h
  by_item (suc (suc zero)) h = at_item 2 _ meets_2 h
  by_item (suc (suc (suc zero))) h = at_item 3 _ meets_3 h
  by_item (suc (suc (suc (suc zero)))) h = at_item 4 _ meets_4 h
  by_item (suc (suc (suc (suc (suc zero))))) h = at_item 5 _ meets_5 h
  by_item (suc (suc (suc (suc (suc (suc zero)))))) h = at_item 6 _ meets_6 h
  by_item (suc (suc (suc (suc (suc (suc (suc k))))))) h = cc

-- ---- what is reached

edge_0 : IsNormalEdge typed_code 0 1
edge_0 = record { inside = lit< tt; leads = inr (refl, refl) }

edge_1 : IsNormalEdge typed_code 1 2
edge_1 = record { inside = lit< tt; leads = inr (refl, refl) }

edge_2 : IsNormalEdge typed_code 2 3
edge_2 = record { inside = lit< tt; leads = inr (refl, refl) }

edge_3 : IsNormalEdge typed_code 3 4
edge_3 = record { inside = lit< tt; leads = inr (refl, refl) }

edge_5 : IsNormalEdge typed_code 5 6
edge_5 = record { inside = lit< tt; leads = inr (refl, refl) }

thrown : IsHandlerEdge typed_code 0 5
thrown = record { inside = lit< tt; from_item = lit< tt; caught = (0, entry, lit< tt, refl, holds) } where
  entry : Handler
  entry = record { start = 0; end = 3; handler = 5; catch_class = 0 }

  holds : Catches 0 5 entry
  holds = record { after_start = lit≤ tt; before_end = lit< tt; handler_is = refl }

-- the path to each item: straight down to the return, and to the handler from the first item
reached : (j : ℕ) → is_some (state_at typed_states j) ≡ true → IsReachable typed_code j
reached zero h = ([], refl)
reached (suc zero) h = (1 ∷ [], (inl edge_0, refl))
reached (suc (suc zero)) h = (1 ∷ 2 ∷ [], (inl edge_0, (inl edge_1, refl)))
reached (suc (suc (suc zero))) h = (1 ∷ 2 ∷ 3 ∷ [], (inl edge_0, (inl edge_1, (inl edge_2, refl))))
reached (suc (suc (suc (suc zero)))) h = (1 ∷ 2 ∷ 3 ∷ 4 ∷ [], (inl edge_0, (inl edge_1, (inl edge_2, (inl edge_3, refl)))))
reached (suc (suc (suc (suc (suc zero))))) h = (5 ∷ [], (inr thrown, refl))
reached (suc (suc (suc (suc (suc (suc zero)))))) h = (5 ∷ 6 ∷ [], (inr thrown, (inl edge_5, refl)))
reached (suc (suc (suc (suc (suc (suc (suc k))))))) h = absurd (false≢true h)

within : (j : ℕ) → IsReachable typed_code j → is_some (state_at typed_states j) ≡ true
within j (path, flows) = by_path 0 path refl flows where
  by_number : (k : ℕ) → k < 7 → is_some (state_at typed_states k) ≡ true
  by_number zero h = refl
  by_number (suc zero) h = refl
  by_number (suc (suc zero)) h = refl
  by_number (suc (suc (suc zero))) h = refl
  by_number (suc (suc (suc (suc zero)))) h = refl
  by_number (suc (suc (suc (suc (suc zero))))) h = refl
  by_number (suc (suc (suc (suc (suc (suc zero)))))) h = refl
  by_number (suc (suc (suc (suc (suc (suc (suc k))))))) h = absurd (omega (arith, h))

  inside : (i next : ℕ) → IsEdge typed_code i next → next < 7
  inside i next (inl e) = e.inside
  inside i next (inr e) = e.inside

  by_path : (i : ℕ) (path : List ℕ) → is_some (state_at typed_states i) ≡ true → IsFlowPath typed_code i path j
      → is_some (state_at typed_states j) ≡ true
  by_path i [] there e = let P : ℕ → Type 0 = λ k. is_some (state_at typed_states k) ≡ true in subst P e there
  by_path i (next ∷ path) there (e, rest) = by_path next path (by_number next (inside i next e)) rest

stays : ¬ FallsOff typed_code
stays f =
    let last : f.item ≡ 6 = omega (arith, f.last) in
    let P : ℕ → Type 0 = λ k. IsSomeAnd (insn_of typed_code k) (λ i. falls_through i ≡ true) in
    false≢true (subst P last f.falls)

-- ---- both methods

pub example_typed : Typed (program_with typed_code) main_number
example_typed = (typed_states, by_code (code_at (program_with typed_code) main_number) typed_code_is) where
  typing : IsTypingOf (program_with typed_code) main_number typed_code typed_states
  typing = record { one_each = refl; reachable = (λ j. (reached j, within j)); stays_inside = stays; first = typed_first; items = items_meet }

  by_code : (o : Option Code) → o ≡ Some typed_code → IsSomeAnd o (λ code. IsTypingOf (program_with typed_code) main_number code typed_states)
  by_code o e =
      let P : Option Code → Type 0 = λ x. IsSomeAnd x (λ code. IsTypingOf (program_with typed_code) main_number code typed_states) in subst P (sym e) typing

-- the first item asks for an int
no_row : (states : List (Option TypeState))
    → MeetsItem (program_with untyped_code) main_number untyped_code states 0 (entry_state (program_with untyped_code).outline main_number untyped_code) → ⊥
unfolding built_in chain_of resolved_field resolved_method fields_of methods_of texts_of types_of classes_of outline_of uses_of codes_of program_of used_indices fits fits_type state_fits entry_state caught_type row_after new_row special_call_row return_row load_row move_row store_row
no_row states m = m.row

pub example_untyped : ¬ Typed (program_with untyped_code) main_number
example_untyped (states, typing) = by_code (subst P untyped_code_is typing) where
  P : Option Code → Type 0
  P o = IsSomeAnd o (λ code. IsTypingOf (program_with untyped_code) main_number code states)

  by_code : IsTypingOf (program_with untyped_code) main_number untyped_code states → ⊥
  by_code t = no_row states (t.items 0 (entry_state (program_with untyped_code).outline main_number untyped_code) t.first)

-- ---- joins

pub joined_related : joined (of_number 13) (of_number 18) ≡ of_number 11
unfolding built_in chain_of resolved_field resolved_method fields_of methods_of texts_of types_of classes_of outline_of uses_of codes_of program_of used_indices join join_type
joined_related = refl

pub joined_level : joined (array 1 (of_class (built_in_classes + 2))) (array 1 (of_class (built_in_classes + 1))) ≡ array 1 (of_class (built_in_classes + 1))
unfolding built_in chain_of resolved_field resolved_method fields_of methods_of texts_of types_of classes_of outline_of uses_of codes_of program_of used_indices join join_type
joined_level = refl

pub joined_interfaces : joined (of_number 26) (of_number 27) ≡ of_number 0
unfolding built_in chain_of resolved_field resolved_method fields_of methods_of texts_of types_of classes_of outline_of uses_of codes_of program_of used_indices join join_type
joined_interfaces = refl

pub joined_same_interface : joined (of_number 26) (of_number 26) ≡ of_number 26
unfolding built_in chain_of resolved_field resolved_method fields_of methods_of texts_of types_of classes_of outline_of uses_of codes_of program_of used_indices join join_type
joined_same_interface = refl

pub joined_unlike : joined (array 1 base.Int) (array 2 (of_class 1)) ≡ of_number 0
unfolding built_in chain_of resolved_field resolved_method fields_of methods_of texts_of types_of classes_of outline_of uses_of codes_of program_of used_indices join join_type
joined_unlike = refl

pub joined_deep : joined (array 2 base.Int) (array 3 (of_class 1)) ≡ array 1 (of_class 0)
unfolding built_in chain_of resolved_field resolved_method fields_of methods_of texts_of types_of classes_of outline_of uses_of codes_of program_of used_indices join join_type
joined_deep = refl

pub joined_null : joined slot.Null (of_number 26) ≡ of_number 26
unfolding built_in chain_of resolved_field resolved_method fields_of methods_of texts_of types_of classes_of outline_of uses_of codes_of program_of used_indices join join_type
joined_null = refl

pub joined_kinds : joined slot.Int slot.Null ≡ slot.Top
unfolding built_in chain_of resolved_field resolved_method fields_of methods_of texts_of types_of classes_of outline_of uses_of codes_of program_of used_indices join join_type
joined_kinds = refl
