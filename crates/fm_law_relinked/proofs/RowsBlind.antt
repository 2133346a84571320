-- The rows of the checker don't look at the numbers of items, nor at locals behind those that an instruction names.
use Rattle.std.proofs.Common.{◌≡◌, refl, sym, ◌∙◌, ap, subst, ℕ, zero, suc, ◌+◌, ◌<◌, ◌≤◌, ◌==◌, ◌&&◌, ◌||◌, not, Bool, true, false, cond, List, [], ◌∷◌, ◌++◌, length, length-append, map, set, Option, Some, None, option_and_then, option_map, arith}
use Rattle.std.specs.Prelude.{nat_lt, slice_get}
use Rattle.std.specs.List.{AllByRecursion, list_any}
use Rattle.std.proofs.lemmas.Bool.{le-ltb}
use Rattle.std.proofs.lemmas.List.{length-map, length-set}
use Rattle.fm_law_relinked.proofs.RowSteps.{below_with, cut_with, is_int_with, is_long_with, is_reference_with, local_here, local_kept, local_set, moved_with, pushed_with, replaced_stack, replaced_with, suits_with, taken_with, tested, type_with, uninit_this_with, uninit_with, whole_with, with_stack, worked_with}
use Rattle.fm_law_relinked.specs.Rows.{AreApart, IsReady, RowsAreBlind, slot_with, state_with}
use Rattle.fm_base.proofs.ListFacts.{AllByRecursion-append, AllByRecursion-weaker}
use Rattle.fm_base.specs.declared.kinds.TypeRef.{TypeRef}
use Rattle.fm_code.specs.SpellsCode.{LocalsFit}
use Rattle.fm_code.specs.declared.instructions.Insn.{Insn}
use Rattle.fm_code.specs.declared.instructions.Insn.TheVariants as insn
use Rattle.fm_code.specs.declared.operations.Elem.{Elem}
use Rattle.fm_code.specs.declared.operations.Elem.TheVariants as elem
use Rattle.fm_code.specs.declared.operations.Reg.{Reg}
use Rattle.fm_code.specs.declared.operations.Reg.TheVariants as reg
use Rattle.fm_types.proofs.EachCheckRow.{ArePlain, each_check_row, IsPlain, Leaves, of_field, plain_words, Row}
use Rattle.fm_types.proofs.NumberOrder.{move_by}
use Rattle.fm_types.specs.ArrayRows.{array_load_row, array_store_row, element_of, is_array_of, length_row, null_element, on_array, stored_element}
use Rattle.fm_types.specs.CallRows.{constructed, constructor_called, initialised, is_type, names_own_or_parent}
use Rattle.fm_types.specs.Fits.{fits}
use Rattle.fm_types.specs.Moves.{Moves, moved}
use Rattle.fm_types.specs.Named.{argument_words, class_of_method, field_words, parameters_of, this_class}
use Rattle.fm_types.specs.NumberRows.{increment_row, is_int, load_row, loaded, store_row, stored_from, suits}
use Rattle.fm_types.specs.ObjectRows.{has_objects, new_row, takes_field}
use Rattle.fm_types.specs.States.{cut_before, int_word, is_long, is_reference, is_uninit, is_uninit_this, is_whole, local_at, pushed, replaced, taken, TypeState, worked_below}
use Rattle.fm_types.specs.declared.slots.Slot.{Slot}
use Rattle.fm_types.specs.declared.slots.Slot.TheVariants as slot
use Rattle.fm_world.specs.Numbers.{type_of_class}
use Rattle.fm_world.specs.Programs.{Outline}
use Rattle.fm_world.specs.declared.uses.Use.{Use}

-- ---- plain words

plain_null : (e : Elem) → ArePlain (null_element e)
plain_null elem.Ref = (tt, tt)
plain_null elem.Long = (tt, (tt, tt))
plain_null e = (tt, tt)

plain_element : (e : Elem) (t : TypeRef) → ArePlain (element_of e t)
plain_element elem.Ref t = (tt, tt)
plain_element elem.Long t = (tt, (tt, tt))
plain_element e t = (tt, tt)

plain_stored : (o : Outline) (e : Elem) → ArePlain (stored_element o e)
plain_stored o elem.Ref = (tt, tt)
plain_stored o elem.Long = (tt, (tt, tt))
plain_stored o e = (tt, tt)

-- what an array gives is plain
array_plain : (passes : TypeRef → Bool) (null : List Slot) (given : TypeRef → List Slot) → ArePlain null → ((t : TypeRef) → ArePlain (given t))
    → (s : Slot) (slots : List Slot) → on_array passes null given s ≡ Some slots → ArePlain slots
array_plain passes null given of_null of_given slot.Top slots is = cc
array_plain passes null given of_null of_given slot.Int slots is = cc
array_plain passes null given of_null of_given slot.Long slots is = cc
array_plain passes null given of_null of_given slot.Null slots is = let same : null ≡ slots = cc in subst ArePlain same of_null
array_plain passes null given of_null of_given (slot.Ref t) slots is = by_test (passes t) is where
  by_test : (b : Bool) → cond b (Some (given t)) None ≡ Some slots → ArePlain slots
  by_test true e = let same : given t ≡ slots = cc in subst ArePlain same (of_given t)
  by_test false e = cc
array_plain passes null given of_null of_given (slot.Uninit item) slots is = cc
array_plain passes null given of_null of_given slot.UninitThis slots is = cc

nothing_plain : (b : Bool) (slots : List Slot) → cond b (Some []) None ≡ Some slots → ArePlain slots
nothing_plain true slots e = let same : [] ≡ slots = cc in subst ArePlain same tt
nothing_plain false slots e = cc

-- ---- locals that are ready

ready_item : (item : ℕ) (s : Slot) → IsReady s → is_uninit item s ≡ false
ready_item item slot.Top ready = refl
ready_item item slot.Int ready = refl
ready_item item slot.Long ready = refl
ready_item item slot.Null ready = refl
ready_item item (slot.Ref t) ready = refl
ready_item item (slot.Uninit another) ready = absurd ready
ready_item item slot.UninitThis ready = refl

ready_this : (s : Slot) → IsReady s → is_uninit_this s ≡ false
ready_this slot.Top ready = refl
ready_this slot.Int ready = refl
ready_this slot.Long ready = refl
ready_this slot.Null ready = refl
ready_this (slot.Ref t) ready = refl
ready_this (slot.Uninit another) ready = refl
ready_this slot.UninitThis ready = absurd ready

pub length_cut : (k : ℕ) (locals : List Slot) → length (cut_before k locals) ≡ length locals
length_cut zero locals = refl
length_cut (suc k) locals = by_test (is_long (local_at locals k)) where
  by_test : (b : Bool) → length (cond b (set locals k slot.Top) locals) ≡ length locals
  by_test true = length-set locals k slot.Top
  by_test false = refl

module _ (numbers : ℕ → ℕ) (more : List Slot) (apart : AreApart numbers) (ready : AllByRecursion IsReady more) where
  abbrev other : Slot → Slot
  other = slot_with numbers

  abbrev to : TypeState → TypeState
  to = state_with numbers more

  none_of_item : (item : ℕ) → AllByRecursion (λ s. is_uninit item s ≡ false) more
  none_of_item item = AllByRecursion-weaker IsReady (λ s. is_uninit item s ≡ false) (ready_item item) more ready

  none_of_this : AllByRecursion (λ s. is_uninit_this s ≡ false) more
  none_of_this = AllByRecursion-weaker IsReady (λ s. is_uninit_this s ≡ false) ready_this more ready

  -- ---- loads and stores

  loaded_same : (r : Reg) (s : Slot) (stack : List Slot) → loaded r (other s) ++ map other stack ≡ map other (loaded r s ++ stack)
  loaded_same reg.Int s stack = refl
  loaded_same reg.Long s stack = refl
  loaded_same reg.Ref s stack = refl

  abbrev load_of : Reg → TypeState → Slot → Option TypeState
  load_of r s found = cond (suits r found) (Some (pushed (loaded r found) s)) None

  one_loaded : (r : Reg) (s : TypeState) (found : Slot) → load_of r (to s) (other found) ≡ option_map to (load_of r s found)
  one_loaded r s found =
      ap (λ b. cond b (Some (pushed (loaded r (other found)) (to s))) None) (suits_with numbers r found)
      ∙ tested to (suits r found) (Some (pushed (loaded r (other found)) (to s))) (Some (pushed (loaded r found) s))
      (ap Some (with_stack numbers more s (loaded r found ++ s.stack) (loaded r (other found) ++ map other s.stack) (loaded_same r found s.stack)))

  load_with : (r : Reg) (k : ℕ) (s : TypeState) → k < length s.locals → load_row r k (to s) ≡ option_map to (load_row r k s)
  unfolding load_row
  load_with r k s within =
      ap (option_and_then (load_of r (to s))) (local_kept numbers more s.locals k within) ∙ by_local (slice_get s.locals k) where
        by_local : (l : Option Slot) → option_and_then (load_of r (to s)) (option_map other l) ≡ option_map to (option_and_then (load_of r s) l)
        by_local None = refl
        by_local (Some found) = one_loaded r s found

  -- there is room for this many locals
  room_kept : (k n : ℕ) (s : TypeState) → k + n ≤ length s.locals → nat_lt (length (map other s.locals ++ more)) (k + n) ≡ false
  room_kept k n s within =
      let both = length-append (map other s.locals) more in
      let long = length-map s.locals other in
      le-ltb (length (map other s.locals ++ more)) (k + n) (omega (arith, within, both, long))

  room_there : (k n : ℕ) (s : TypeState) → k + n ≤ length s.locals → nat_lt (length s.locals) (k + n) ≡ false
  room_there k n s within = le-ltb (length s.locals) (k + n) within

  stored_states : (s : TypeState) (locals new stack : List Slot) → new ≡ map other locals ++ more
      → record (to s) { locals = new; stack = map other stack } ≡ to (record s { locals = locals; stack = stack })
  stored_states s locals new stack same = λ j. record { locals = same j; stack = map other stack; built = s.built }

  one_set : (k : ℕ) (x : Slot) (s : TypeState) → k < length s.locals
      → set (cut_before k (map other s.locals ++ more)) k (other x) ≡ map other (set (cut_before k s.locals) k x) ++ more
  one_set k x s within =
      let same = length_cut k s.locals in
      ap (λ l. set l k (other x)) (cut_with numbers more k s.locals (omega (arith, within)))
      ∙ local_set numbers more (cut_before k s.locals) k x (omega (arith, within, same))

  two_set : (k : ℕ) (x : Slot) (s : TypeState) → k + 1 < length s.locals
      → set (set (cut_before k (map other s.locals ++ more)) k (other x)) (suc k) slot.Top
      ≡ map other (set (set (cut_before k s.locals) k x) (suc k) slot.Top) ++ more
  two_set k x s within =
      let same = length_cut k s.locals in
      let long = length-set (cut_before k s.locals) k x in
      ap (λ l. set l (suc k) slot.Top) (one_set k x s (omega (arith, within)))
      ∙ local_set numbers more (set (cut_before k s.locals) k x) (suc k) slot.Top (omega (arith, within, same, long))

  store_one : (k : ℕ) (x : Slot) (stack : List Slot) (s : TypeState) → k < length s.locals
      → stored_from k (other x ∷ []) (map other stack) (to s) ≡ option_map to (stored_from k (x ∷ []) stack s)
  store_one k x stack s within =
      let new = set (cut_before k (map other s.locals ++ more)) k (other x) in
      let old = set (cut_before k s.locals) k x in
      ap (λ b. option_map (λ locals. record (to s) { locals = locals; stack = map other stack }) (cond b None (Some new)))
      (room_kept k 1 s (omega (arith, within)))
      ∙ ap Some (stored_states s old new stack (one_set k x s within))
      ∙ sym (ap (λ b. option_map to (option_map (λ locals. record s { locals = locals; stack = stack }) (cond b None (Some old))))
      (room_there k 1 s (omega (arith, within))))

  store_two : (k : ℕ) (x : Slot) (stack : List Slot) (s : TypeState) → k + 1 < length s.locals
      → stored_from k (other x ∷ slot.Top ∷ []) (map other stack) (to s) ≡ option_map to (stored_from k (x ∷ slot.Top ∷ []) stack s)
  store_two k x stack s within =
      let new = set (set (cut_before k (map other s.locals ++ more)) k (other x)) (suc k) slot.Top in
      let old = set (set (cut_before k s.locals) k x) (suc k) slot.Top in
      ap (λ b. option_map (λ locals. record (to s) { locals = locals; stack = map other stack }) (cond b None (Some new)))
      (room_kept k 2 s (omega (arith, within)))
      ∙ ap Some (stored_states s old new stack (two_set k x s within))
      ∙ sym (ap (λ b. option_map to (option_map (λ locals. record s { locals = locals; stack = stack }) (cond b None (Some old))))
      (room_there k 2 s (omega (arith, within))))

  abbrev store_of : ℕ → TypeState → Reg → List Slot → Option TypeState
  store_of k s r [] = None
  store_of k s reg.Int (found ∷ stack) = cond (is_int found) (stored_from k (found ∷ []) stack s) None
  store_of k s reg.Ref (found ∷ stack) = cond (is_reference found) (stored_from k (found ∷ []) stack s) None
  store_of k s reg.Long (half ∷ []) = None
  store_of k s reg.Long (half ∷ found ∷ stack) = cond (is_long found) (stored_from k (found ∷ slot.Top ∷ []) stack s) None

  -- the locals that are written are among the state's own
  abbrev Within : Reg → ℕ → TypeState → Type 0
  Within reg.Int k s = k < length s.locals
  Within reg.Long k s = k + 1 < length s.locals
  Within reg.Ref k s = k < length s.locals

  stack_stored : (k : ℕ) (s : TypeState) (r : Reg) (stack : List Slot) → Within r k s → store_of k (to s) r (map other stack) ≡ option_map to (store_of k s r stack)
  stack_stored k s r [] within = refl
  stack_stored k s reg.Int (found ∷ stack) within =
      ap (λ b. cond b (stored_from k (other found ∷ []) (map other stack) (to s)) None) (is_int_with numbers found)
      ∙ tested to (is_int found) (stored_from k (other found ∷ []) (map other stack) (to s)) (stored_from k (found ∷ []) stack s) (store_one k found stack s within)
  stack_stored k s reg.Ref (found ∷ stack) within =
      ap (λ b. cond b (stored_from k (other found ∷ []) (map other stack) (to s)) None) (is_reference_with numbers found)
      ∙ tested to (is_reference found) (stored_from k (other found ∷ []) (map other stack) (to s)) (stored_from k (found ∷ []) stack s)
      (store_one k found stack s within)
  stack_stored k s reg.Long (half ∷ []) within = refl
  stack_stored k s reg.Long (half ∷ found ∷ stack) within =
      ap (λ b. cond b (stored_from k (other found ∷ slot.Top ∷ []) (map other stack) (to s)) None) (is_long_with numbers found)
      ∙ tested to (is_long found) (stored_from k (other found ∷ slot.Top ∷ []) (map other stack) (to s)) (stored_from k (found ∷ slot.Top ∷ []) stack s)
      (store_two k found stack s within)

  store_by : (o : Outline) (r : Reg) (k : ℕ) (s : TypeState) → store_row o r k s ≡ store_of k s r s.stack
  unfolding store_row
  store_by o r k s = refl

  store_with : (o : Outline) (r : Reg) (k : ℕ) (s : TypeState) → Within r k s → store_row o r k (to s) ≡ option_map to (store_row o r k s)
  store_with o r k s within = store_by o r k (to s) ∙ stack_stored k s r s.stack within ∙ sym (ap (option_map to) (store_by o r k s))

  increment_with : (k : ℕ) (s : TypeState) → k < length s.locals → increment_row k (to s) ≡ option_map to (increment_row k s)
  unfolding increment_row
  increment_with k s within =
      ap (λ l. cond (is_int l) (Some (to s)) None) (local_here numbers more s.locals k within)
      ∙ ap (λ b. cond b (Some (to s)) None) (is_int_with numbers (local_at s.locals k))
      ∙ tested to (is_int (local_at s.locals k)) (Some (to s)) (Some s) refl

  -- ---- moves

  abbrev stack_of : TypeState → List Slot → Option TypeState
  stack_of s stack = cond (is_whole stack) (Some (record s { stack = stack })) None

  move_with : (m : Moves) (s : TypeState) → move_by (Some m) (to s) ≡ option_map to (move_by (Some m) s)
  move_with m s = ap (option_and_then (stack_of (to s))) (moved_with numbers m s.stack) ∙ by_stack (moved m s.stack) where
    by_stack : (l : Option (List Slot)) → option_and_then (stack_of (to s)) (option_map (map other) l) ≡ option_map to (option_and_then (stack_of s) l)
    by_stack None = refl
    by_stack (Some stack) =
        ap (λ b. cond b (Some (record (to s) { stack = map other stack })) None) (whole_with numbers stack)
        ∙ tested to (is_whole stack) (Some (record (to s) { stack = map other stack })) (Some (record s { stack = stack })) refl

  -- ---- objects

  abbrev made_of : Outline → ℕ → TypeState → TypeRef → Option TypeState
  made_of o item s t =
      cond ((t.dims == 0) && has_objects o.classes t.base && not (list_any (is_uninit item) s.stack))
      (Some (record s { locals = replaced (is_uninit item) slot.Top s.locals; stack = slot.Uninit item ∷ s.stack })) None

  any_with : (item : ℕ) (stack : List Slot) → list_any (is_uninit (numbers item)) (map other stack) ≡ list_any (is_uninit item) stack
  any_with item [] = refl
  any_with item (s ∷ stack) = λ k. uninit_with numbers apart item s k || any_with item stack k

  made_with : (o : Outline) (item : ℕ) (s : TypeState) (t : TypeRef) → made_of o (numbers item) (to s) t ≡ option_map to (made_of o item s t)
  made_with o item s t =
      let new = record (to s) { locals = replaced (is_uninit (numbers item)) slot.Top (map other s.locals ++ more); stack = slot.Uninit (numbers item) ∷ map other s.stack } in
      let old = record s { locals = replaced (is_uninit item) slot.Top s.locals; stack = slot.Uninit item ∷ s.stack } in
      let locals =
      replaced_with numbers (is_uninit item) (is_uninit (numbers item)) slot.Top (uninit_with numbers apart item) refl more (none_of_item (numbers item)) s.locals in
      let state : new ≡ to old = λ k. record { locals = locals k; stack = slot.Uninit (numbers item) ∷ map other s.stack; built = s.built } in
      ap (λ b. cond ((t.dims == 0) && has_objects o.classes t.base && not b) (Some new) None) (any_with item s.stack)
      ∙ tested to ((t.dims == 0) && has_objects o.classes t.base && not (list_any (is_uninit item) s.stack)) (Some new) (Some old) (ap Some state)

  new_with : (o : Outline) (item : ℕ) (u : Use) (s : TypeState) → new_row o (numbers item) u (to s) ≡ option_map to (new_row o item u s)
  unfolding new_row
  new_with o item u s = type_with to o u (made_of o item s) (made_of o (numbers item) (to s)) (made_with o item s)

  takes_alike : (o : Outline) (method field : ℕ) (named : TypeRef) (s : Slot) → takes_field o method field named (other s) ≡ takes_field o method field named s
  unfolding fits
  takes_alike o method field named slot.Top = refl
  takes_alike o method field named slot.Int = refl
  takes_alike o method field named slot.Long = refl
  takes_alike o method field named slot.Null = refl
  takes_alike o method field named (slot.Ref t) = refl
  takes_alike o method field named (slot.Uninit item) = refl
  takes_alike o method field named slot.UninitThis = refl

  -- ---- arrays

  array_alike : (passes : TypeRef → Bool) (null : List Slot) (given : TypeRef → List Slot) (s : Slot)
      → on_array passes null given (other s) ≡ on_array passes null given s
  array_alike passes null given slot.Top = refl
  array_alike passes null given slot.Int = refl
  array_alike passes null given slot.Long = refl
  array_alike passes null given slot.Null = refl
  array_alike passes null given (slot.Ref t) = refl
  array_alike passes null given (slot.Uninit item) = refl
  array_alike passes null given slot.UninitThis = refl

  array_below : (o : Outline) (wanted : List Slot) (passes : TypeRef → Bool) (null : List Slot) (given : TypeRef → List Slot) → ArePlain wanted → ArePlain null
      → ((t : TypeRef) → ArePlain (given t)) → (s : TypeState)
      → worked_below o wanted (on_array passes null given) (to s) ≡ option_map to (worked_below o wanted (on_array passes null given) s)
  array_below o wanted passes null given plain of_null of_given s =
      below_with numbers more o wanted (on_array passes null given) plain (array_alike passes null given) (array_plain passes null given of_null of_given) s

  array_load_with : (o : Outline) (e : Elem) (s : TypeState) → array_load_row o e (to s) ≡ option_map to (array_load_row o e s)
  unfolding array_load_row
  array_load_with o e s = array_below o int_word (is_array_of e) (null_element e) (element_of e) (tt, tt) (plain_null e) (plain_element e) s

  array_store_with : (o : Outline) (e : Elem) (s : TypeState) → array_store_row o e (to s) ≡ option_map to (array_store_row o e s)
  unfolding array_store_row
  array_store_with o e s =
      array_below o (stored_element o e ++ int_word) (is_array_of e) [] (λ t. [])
      (AllByRecursion-append IsPlain (stored_element o e) int_word (plain_stored o e) (tt, tt)) tt (λ t. tt) s

  length_with : (o : Outline) (s : TypeState) → length_row o (to s) ≡ option_map to (length_row o s)
  unfolding length_row
  length_with o s = array_below o [] (λ t. nat_lt 0 t.dims) int_word (λ t. int_word) tt (tt, tt) (λ t. (tt, tt)) s

  -- ---- constructors

  module _ (news others : ℕ → Option TypeRef) (same_news : (i : ℕ) → others (numbers i) ≡ news i) where
    constructed_with : (o : Outline) (method : ℕ) (named : TypeRef) (receiver : Slot) (s : TypeState)
        → constructed o method others named (other receiver) (to s) ≡ option_map to (constructed o method news named receiver s)
    constructed_with o method named slot.Top s = refl
    constructed_with o method named slot.Int s = refl
    constructed_with o method named slot.Long s = refl
    constructed_with o method named slot.Null s = refl
    constructed_with o method named (slot.Ref t) s = refl
    constructed_with o method named (slot.Uninit item) s =
        let alike = uninit_with numbers apart item in
        let locals =
        replaced_with numbers (is_uninit item) (is_uninit (numbers item)) (slot.Ref named) alike refl more (none_of_item (numbers item)) s.locals in
        let stack = replaced_stack numbers (is_uninit item) (is_uninit (numbers item)) (slot.Ref named) alike refl s.stack in
        let state : initialised (is_uninit (numbers item)) named (to s) ≡ to (initialised (is_uninit item) named s) =
        λ k. record { locals = locals k; stack = stack k; built = s.built } in
        ap (λ x. cond (is_type named x) (Some (initialised (is_uninit (numbers item)) named (to s))) None) (same_news item)
        ∙ tested to (is_type named (news item)) (Some (initialised (is_uninit (numbers item)) named (to s))) (Some (initialised (is_uninit item) named s)) (ap Some state)
    constructed_with o method named slot.UninitThis s =
        let t = type_of_class (this_class o method) in
        let locals = replaced_with numbers is_uninit_this is_uninit_this (slot.Ref t) (uninit_this_with numbers) refl more none_of_this s.locals in
        let stack = replaced_stack numbers is_uninit_this is_uninit_this (slot.Ref t) (uninit_this_with numbers) refl s.stack in
        let state : record (initialised is_uninit_this t (to s)) { built = true } ≡ to (record (initialised is_uninit_this t s) { built = true }) =
        λ k. record { locals = locals k; stack = stack k; built = true } in
        tested to (names_own_or_parent o (class_of_method o method) named) (Some (record (initialised is_uninit_this t (to s)) { built = true }))
        (Some (record (initialised is_uninit_this t s) { built = true })) (ap Some state)

    abbrev constructs_of : Outline → ℕ → (ℕ → Option TypeRef) → TypeRef → TypeState → List Slot → Option TypeState
    constructs_of o method made named s [] = None
    constructs_of o method made named s (receiver ∷ stack) = constructed o method made named receiver (record s { stack = stack })

    constructor_with : (o : Outline) (method m : ℕ) (named : TypeRef) (s : TypeState)
        → constructor_called o method others m named (to s) ≡ option_map to (constructor_called o method news m named s)
    constructor_with o method m named s =
        ap (option_and_then (constructs_of o method others named (to s))) (taken_with numbers o (argument_words o m) s.stack (plain_words (parameters_of o m)))
        ∙ by_rest (taken o (argument_words o m) s.stack) where
          by_rest : (t : Option (List Slot)) → option_and_then (constructs_of o method others named (to s)) (option_map (map other) t)
              ≡ option_map to (option_and_then (constructs_of o method news named s) t)
          by_rest None = refl
          by_rest (Some []) = refl
          by_rest (Some (receiver ∷ stack)) = constructed_with o method named receiver (record s { stack = stack })

    -- ---- all rows

    module _ (o : Outline) (method item : ℕ) (u : Use) (i : Insn) (s : TypeState) (fit : LocalsFit (length s.locals) i) where
      -- the row is the same at the item's other number
      abbrev IsBlind : ℕ → Row → Type 0
      IsBlind n row = row (numbers item) others (to s) ≡ option_map to (row item news s)

      loads_with : (r : Reg) (k : ℕ) → LocalsFit (length s.locals) (insn.Load r k) → load_row r k (to s) ≡ option_map to (load_row r k s)
      loads_with reg.Int k within = load_with reg.Int k s within
      loads_with reg.Long k within = load_with reg.Long k s (omega (arith, within))
      loads_with reg.Ref k within = load_with reg.Ref k s within

      stores_with : (r : Reg) (k : ℕ) → LocalsFit (length s.locals) (insn.Store r k) → store_row o r k (to s) ≡ option_map to (store_row o r k s)
      stores_with reg.Int k within = store_with o reg.Int k s within
      stores_with reg.Long k within = store_with o reg.Long k s within
      stores_with reg.Ref k within = store_with o reg.Ref k s within

      steps_blind : Leaves o method u i IsBlind
      steps_blind = record {
        more = λ m n row less blind. blind;
        none = refl;
        kept = refl;
        built = tested to s.built (Some (to s)) (Some s) refl;
        pushes = λ given words. ap Some (pushed_with numbers more given words.plain s);
        works = λ wanted given first second. worked_with numbers more o wanted given first.plain second.plain s;
        moves = λ m within. move_with m s;
        loads = λ r k is. loads_with r k (subst (LocalsFit (length s.locals)) is fit);
        stores = λ r k is. stores_with r k (subst (LocalsFit (length s.locals)) is fit);
        increments = λ k by is. increment_with k s (subst (LocalsFit (length s.locals)) is fit);
        loads_element = λ e. array_load_with o e s;
        stores_element = λ e. array_store_with o e s;
        has_length = length_with o s;
        puts_field = λ field named. below_with numbers more o (field_words o field) (takes_field o method field named) (of_field o field).plain
            (takes_alike o method field named) (λ receiver slots is. nothing_plain _ slots is) s;
        makes = λ index is. new_with o item u s;
        constructs = λ index m named is. constructor_with o method m named s;
      }

pub rows_blind : RowsAreBlind
rows_blind numbers more apart ready o method item news others same_news u i s within =
    each_check_row o method u i (IsBlind numbers more apart ready news others same_news o method item u i s within)
    (steps_blind numbers more apart ready news others same_news o method item u i s within)
