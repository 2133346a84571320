-- Rows leave the places alone that they neither look at nor change: where states differ in such places only, so do the states after them.
use Rattle.std.proofs.Common.{◌≡◌, ◌≢◌, refl, sym, ◌∙◌, ap, ⊎_elim, ℕ, zero, suc, ◌+◌, ◌-◌, ◌<◌, ◌≤◌, ◌&&◌, ◌||◌, not, Bool, true, false, List, [], ◌∷◌, ◌++◌, length, map, get_or, nat_eq, reverse, set, Option, Some, None, cond, subst, arith, length-set}
use Rattle.std.specs.Prelude.{nat_lt, slice_get}
use Rattle.std.specs.List.{AllZip, flat_map, list_any}
use Rattle.std.proofs.lemmas.Bool.{and_parts, cases_eq, cases_lt, false≢true, ltb-true}
use Rattle.std.proofs.lemmas.List.{get_or-set_other, get_or-set_same, get_or_default, get_or_past, length-map, length-reverse, map-append, reverse-append}
use Rattle.std.proofs.lemmas.List.Folds.{list_any-from_Any, list_any_none}
use Rattle.std.proofs.lemmas.List.Sorted.{IsPermutation-reverse, list_any-IsPermutation}
use Rattle.std.proofs.lemmas.Option.{slice_get-get_or, slice_get_past}
use Rattle.std.proofs.Math.ListN.{get_or-map}
use Rattle.fm_base.specs.declared.kinds.TypeRef.{TypeRef}
use Rattle.fm_check_walk.proofs.StackFrames.{AreLow, clear-less, follows-equal, IsClear, low-given, low-of, low-push, low-size, low-top, move_of-carried, pushed-carried, Same, taken-low, with_stack, worked-carried, worked_below-carried}
use Rattle.fm_types.specs.declared.known_state.SlotPlace.{SlotPlace}
use Rattle.fm_types.specs.declared.known_state.SlotPlace.TheVariants as place
use Rattle.fm_check_walk.specs.inner.Risen.{are_apart, AreCarried, called_words, is_bare, IsCarried, leaves_alone, leaves_local, leaves_word, words_taken}
use Rattle.fm_code.specs.StackWords as insns
use Rattle.fm_code.specs.StackWords.{element_words, reg_words}
use Rattle.fm_code.specs.declared.instructions.Insn.{Insn}
use Rattle.fm_code.specs.declared.instructions.Insn.TheVariants as insn
use Rattle.fm_code.specs.declared.operations.Elem.{Elem}
use Rattle.fm_code.specs.declared.operations.Elem.TheVariants as elem
use Rattle.fm_code.specs.declared.operations.Reg.{Reg}
use Rattle.fm_code.specs.declared.operations.Reg.TheVariants as reg
use Rattle.fm_types.proofs.ArrayOrder.{follows-on_type}
use Rattle.fm_types.proofs.CallOrder.{after_arguments}
use Rattle.fm_types.proofs.EachCheckRow as rows
use Rattle.fm_types.proofs.EachCheckRow.{each_check_row, Leaves, Row}
use Rattle.fm_types.proofs.NumberOrder.{store_by, written}
use Rattle.fm_types.proofs.StateOrder.{IsShaped}
use Rattle.fm_types.proofs.Zips.{Follows, follows-if, follows-map, follows-then}
use Rattle.fm_types.specs.ArrayRows.{array_load_row, array_store_row, element_of, is_array_of, length_row, null_element, on_array, stored_element}
use Rattle.fm_types.specs.CallRows.{constructed, constructor_called, initialised, is_type, names_own_or_parent}
use Rattle.fm_types.specs.Named.{argument_words, class_of_method, field_words, parameters_of, this_class}
use Rattle.fm_types.specs.NumberRows.{increment_row, is_int, load_row, loaded, store_row, stored_from, suits}
use Rattle.fm_types.specs.ObjectRows.{has_objects, new_row, takes_field}
use Rattle.fm_types.specs.Rows.{row_after}
use Rattle.fm_types.specs.States.{cut_before, int_word, is_long, is_reference, is_uninit, is_uninit_this, local_at, local_slots, replaced, stored, taken, TypeState}
use Rattle.fm_types.specs.declared.slots.Slot.{Slot}
use Rattle.fm_types.specs.declared.slots.Slot.TheVariants as slot
use Rattle.fm_world.specs.Numbers.{type_of_class}
use Rattle.fm_world.specs.Programs.{Outline}
use Rattle.fm_world.specs.declared.uses.Use.{Use}
use Rattle.fm_world.specs.declared.uses.Use.TheVariants as resolved

-- ---- locals that aren't among those that differ

same_local : (P : ℕ → Type 0) (v : ℕ → Slot) (xs ys : List Slot) (k : ℕ) → AreCarried P v xs ys → (P k → ⊥) → local_at xs k ≡ local_at ys k
same_local P v xs ys k h apart = h.apart k apart

same_get : (P : ℕ → Type 0) (v : ℕ → Slot) (xs ys : List Slot) (k : ℕ) → AreCarried P v xs ys → (P k → ⊥) → slice_get xs k ≡ slice_get ys k
same_get P v xs ys k h apart =
    let size = h.size in
    ⊎_elim
    (λ (inside : k < length xs).
    slice_get-get_or xs k slot.Top inside ∙ ap Some (same_local P v xs ys k h apart) ∙ sym (slice_get-get_or ys k slot.Top (omega (arith, size))))
    (λ (past : length xs ≤ k). slice_get_past xs k past ∙ sym (slice_get_past ys k (omega (arith, size))))
    (cases_lt k (length xs))

set_carried : (P : ℕ → Type 0) (v : ℕ → Slot) (xs ys : List Slot) (k : ℕ) (x : Slot) → (P k → ⊥) → AreCarried P v xs ys
    → AreCarried P v (set xs k x) (set ys k x)
set_carried P v xs ys k x never h = record { size = length-set xs k x ∙ h.size ∙ sym (length-set ys k x); among = among; apart = apart } where
  here : local_at (set xs k x) k ≡ local_at (set ys k x) k
  here =
      let size = h.size in
      let first = length-set xs k x in
      let second = length-set ys k x in
      ⊎_elim (λ (inside : k < length xs). get_or-set_same xs k x slot.Top inside ∙ sym (get_or-set_same ys k x slot.Top (omega (arith, size))))
      (λ (past : length xs ≤ k).
      get_or_past (set xs k x) k slot.Top (omega (arith, first)) ∙ sym (get_or_past (set ys k x) k slot.Top (omega (arith, size, second))))
      (cases_lt k (length xs))

  among : (j : ℕ) → P j → local_at (set xs k x) j ≡ v j
  among j within =
      ⊎_elim (λ (this : j ≡ k). absurd (never (subst P this within)))
      (λ (other : j ≢ k). get_or-set_other xs k j x slot.Top other ∙ h.among j within)
      (cases_eq j k)

  apart : (j : ℕ) → (P j → ⊥) → local_at (set xs k x) j ≡ local_at (set ys k x) j
  apart j without =
      ⊎_elim (λ (this : j ≡ k). ap (λ n. local_at (set xs k x) n) this ∙ here ∙ sym (ap (λ n. local_at (set ys k x) n) this))
      (λ (other : j ≢ k). get_or-set_other xs k j x slot.Top other ∙ h.apart j without ∙ sym (get_or-set_other ys k j x slot.Top other))
      (cases_eq j k)

-- ---- loading, storing and counting up

load_row-carried : (P : SlotPlace → Type 0) (v : SlotPlace → Slot) (r : Reg) (k : ℕ) (s t : TypeState) → (P (place.Local k) → ⊥) → IsClear P 0 s
    → IsCarried P v s t → Follows (IsCarried P v) (load_row r k s) (load_row r k t)
unfolding load_row
load_row-carried P v r k s t apart clear h =
    follows-then Same (IsCarried P v) _ _ (slice_get s.locals k) (slice_get t.locals k)
    (follows-equal (slice_get s.locals k) (slice_get t.locals k)
    (same_get (λ j. P (place.Local j)) (λ j. v (place.Local j)) s.locals t.locals k h.locals apart))
    (λ a b same. follows-if (IsCarried P v) (suits r a) (suits r b) _ _ (λ e. ap (suits r) same ∙ e)
    (λ e. with_stack P v 0 s t (loaded r a ++ s.stack) (loaded r b ++ t.stack) h
    (subst (λ (z : Slot). AreLow P v 0 (loaded r a ++ s.stack) (loaded r z ++ t.stack)) same
    (low-given P v 0 (loaded r a) s.stack t.stack (low-of P v 0 s t clear h)))))

increment_row-carried : (P : SlotPlace → Type 0) (v : SlotPlace → Slot) (k : ℕ) (s t : TypeState) → (P (place.Local k) → ⊥) → IsCarried P v s t
    → Follows (IsCarried P v) (increment_row k s) (increment_row k t)
unfolding increment_row
increment_row-carried P v k s t apart h =
    follows-if (IsCarried P v) (is_int (local_at s.locals k)) (is_int (local_at t.locals k)) (Some s) (Some t)
    (λ e. ap is_int (same_local (λ j. P (place.Local j)) (λ j. v (place.Local j)) s.locals t.locals k h.locals apart) ∙ e) (λ e. h)

cut_before-carried : (P : ℕ → Type 0) (v : ℕ → Slot) (k : ℕ) (xs ys : List Slot) → ((j : ℕ) → j ≤ k + 1 → k ≤ j + 1 → P j → ⊥) → AreCarried P v xs ys
    → AreCarried P v (cut_before k xs) (cut_before k ys)
cut_before-carried P v zero xs ys apart h = h
cut_before-carried P v (suc k) xs ys apart h =
    by_tests (is_long (local_at xs k)) (is_long (local_at ys k)) (ap is_long (same_local P v xs ys k h (apart k (omega arith) (omega arith)))) where
      by_tests : (p q : Bool) → p ≡ q → AreCarried P v (cond p (set xs k slot.Top) xs) (cond q (set ys k slot.Top) ys)
      by_tests true true e = set_carried P v xs ys k slot.Top (apart k (omega arith) (omega arith)) h
      by_tests true false e = absurd (false≢true (sym e))
      by_tests false true e = absurd (false≢true e)
      by_tests false false e = h

written-carried : (P : ℕ → Type 0) (v : ℕ → Slot) (k : ℕ) (slots xs ys : List Slot) → ((j : ℕ) → k ≤ j → j < k + length slots → P j → ⊥)
    → AreCarried P v xs ys → AreCarried P v (written k slots xs) (written k slots ys)
written-carried P v k [] xs ys apart h = h
written-carried P v k (s ∷ slots) xs ys apart h =
    written-carried P v (suc k) slots (set xs k s) (set ys k s) (λ j first last. apart j (omega arith) (omega arith))
    (set_carried P v xs ys k s (apart k (omega arith) (omega arith)) h)

stored-carried : (P : ℕ → Type 0) (v : ℕ → Slot) (k : ℕ) (slots xs ys : List Slot) → ((j : ℕ) → j ≤ k + 1 → k ≤ j + 1 → P j → ⊥) → length slots ≤ 2 → AreCarried P v xs ys
    → Follows (AreCarried P v) (stored k slots xs) (stored k slots ys)
stored-carried P v k slots xs ys apart few h =
    by_tests (nat_lt (length xs) (k + length slots)) (nat_lt (length ys) (k + length slots)) (ap (λ n. nat_lt n (k + length slots)) h.size) where
      by_tests : (p q : Bool) → p ≡ q
          → Follows (AreCarried P v) (cond p None (Some (written k slots (cut_before k xs)))) (cond q None (Some (written k slots (cut_before k ys))))
      by_tests p true e = tt
      by_tests true false e = absurd (false≢true (sym e))
      by_tests false false e = written-carried P v k slots (cut_before k xs) (cut_before k ys) (λ j first last. apart j (omega (arith, few)) (omega arith))
          (cut_before-carried P v k xs ys apart h)

stored_from-carried : (P : SlotPlace → Type 0) (v : SlotPlace → Slot) (k : ℕ) (slots a b : List Slot) (s t : TypeState)
    → ((j : ℕ) → j ≤ k + 1 → k ≤ j + 1 → P (place.Local j) → ⊥) → length slots ≤ 2 → AreLow P v 0 a b → IsCarried P v s t
    → Follows (IsCarried P v) (stored_from k slots a s) (stored_from k slots b t)
stored_from-carried P v k slots a b s t apart few low h =
    follows-map (AreCarried (λ j. P (place.Local j)) (λ j. v (place.Local j))) (IsCarried P v) _ _ (stored k slots s.locals) (stored k slots t.locals)
    (stored-carried (λ j. P (place.Local j)) (λ j. v (place.Local j)) k slots s.locals t.locals apart few h.locals)
    (λ xs ys locals. record { locals = locals; words = low.words; built = h.built })

store_of-carried : (P : SlotPlace → Type 0) (v : SlotPlace → Slot) (r : Reg) (k : ℕ) (s t : TypeState)
    → ((j : ℕ) → j ≤ k + 1 → k ≤ j + 1 → P (place.Local j) → ⊥) → IsCarried P v s t
    → (a b : List Slot) → AreLow P v (reg_words r) a b → Follows (IsCarried P v) (store_by r k s a) (store_by r k t b)
store_of-carried P v reg.Int k s t apart h a [] low = tt
store_of-carried P v reg.Ref k s t apart h a [] low = tt
store_of-carried P v reg.Long k s t apart h a [] low = tt
store_of-carried P v reg.Int k s t apart h [] (y ∷ b) low = absurd (let size = low-size P v 1 [] (y ∷ b) low in omega (arith, size))
store_of-carried P v reg.Ref k s t apart h [] (y ∷ b) low = absurd (let size = low-size P v 1 [] (y ∷ b) low in omega (arith, size))
store_of-carried P v reg.Long k s t apart h [] (y ∷ b) low = absurd (let size = low-size P v 2 [] (y ∷ b) low in omega (arith, size))
store_of-carried P v reg.Int k s t apart h (x ∷ a) (y ∷ b) low =
    let top = low-top P v 0 1 x y a b (omega arith) low in
    subst (λ (z : Slot). Follows (IsCarried P v) (store_by reg.Int k s (x ∷ a)) (store_by reg.Int k t (z ∷ b))) top.0
    (follows-if (IsCarried P v) (is_int x) (is_int x) _ _ (λ e. e) (λ e. stored_from-carried P v k (x ∷ []) a b s t apart (omega arith) top.1 h))
store_of-carried P v reg.Ref k s t apart h (x ∷ a) (y ∷ b) low =
    let top = low-top P v 0 1 x y a b (omega arith) low in
    subst (λ (z : Slot). Follows (IsCarried P v) (store_by reg.Ref k s (x ∷ a)) (store_by reg.Ref k t (z ∷ b))) top.0
    (follows-if (IsCarried P v) (is_reference x) (is_reference x) _ _ (λ e. e)
    (λ e. stored_from-carried P v k (x ∷ []) a b s t apart (omega arith) top.1 h))
store_of-carried P v reg.Long k s t apart h (x ∷ a) (y ∷ []) low = tt
store_of-carried P v reg.Long k s t apart h (x ∷ []) (y ∷ z ∷ b) low =
    absurd (let size = low-size P v 2 (x ∷ []) (y ∷ z ∷ b) low in omega (arith, size))
store_of-carried P v reg.Long k s t apart h (x ∷ w ∷ a) (y ∷ z ∷ b) low =
    let half = low-top P v 1 2 x y (w ∷ a) (z ∷ b) (omega arith) low in
    let top = low-top P v 0 1 w z a b (omega arith) half.1 in
    subst (λ (u : Slot). Follows (IsCarried P v) (store_by reg.Long k s (x ∷ w ∷ a)) (store_by reg.Long k t (y ∷ u ∷ b))) top.0
    (follows-if (IsCarried P v) (is_long w) (is_long w) _ _ (λ e. e)
    (λ e. stored_from-carried P v k (w ∷ slot.Top ∷ []) a b s t apart (omega arith) top.1 h))

store_row-carried : (P : SlotPlace → Type 0) (v : SlotPlace → Slot) (o : Outline) (r : Reg) (k : ℕ) (s t : TypeState)
    → ((j : ℕ) → j ≤ k + 1 → k ≤ j + 1 → P (place.Local j) → ⊥) → IsClear P (reg_words r) s
    → IsCarried P v s t → Follows (IsCarried P v) (store_row o r k s) (store_row o r k t)
unfolding store_row
store_row-carried P v o r k s t apart clear h = by_kind r clear where
  on_stack : (r : Reg) → IsClear P (reg_words r) s → Follows (IsCarried P v) (store_by r k s s.stack) (store_by r k t t.stack)
  on_stack r clear = store_of-carried P v r k s t apart h s.stack t.stack (low-of P v (reg_words r) s t clear h)

  by_kind : (r : Reg) → IsClear P (reg_words r) s → Follows (IsCarried P v) (store_row o r k s) (store_row o r k t)
  by_kind reg.Int clear = on_stack reg.Int clear
  by_kind reg.Long clear = on_stack reg.Long clear
  by_kind reg.Ref clear = on_stack reg.Ref clear

-- ---- objects that aren't initialised

-- a test that only objects pass that aren't initialised
record IsBareTest (test : Slot → Bool) : Type 0 where
  bare : (s : Slot) → test s ≡ true → is_bare s ≡ true

uninit_test : (item : ℕ) → IsBareTest (is_uninit item)
uninit_test item = record { bare = bare } where
  bare : (s : Slot) → is_uninit item s ≡ true → is_bare s ≡ true
  bare (slot.Uninit other) e = refl
  bare s e = absurd (false≢true e)

this_test : IsBareTest is_uninit_this
this_test = record { bare = bare } where
  bare : (s : Slot) → is_uninit_this s ≡ true → is_bare s ≡ true
  bare slot.UninitThis e = refl
  bare s e = absurd (false≢true e)

not_bare : (test : Slot → Bool) (x : Slot) → IsBareTest test → not (is_bare x) ≡ true → test x ≡ false
not_bare test x bare e = by_test (test x) refl where
  by_test : (p : Bool) → test x ≡ p → test x ≡ false
  by_test false is = is
  by_test true is = absurd (false≢true (ap not (sym (bare.bare x is)) ∙ e))

replaced-carried : (P : ℕ → Type 0) (v : ℕ → Slot) (test : Slot → Bool) (other : Slot) (xs ys : List Slot) → IsBareTest test
    → ((k : ℕ) → P k → not (is_bare (v k)) ≡ true) → AreCarried P v xs ys → AreCarried P v (replaced test other xs) (replaced test other ys)
replaced-carried P v test other xs ys bare plain h =
    record { size = length-map xs change ∙ h.size ∙ sym (length-map ys change); among = among; apart = apart } where
      change : Slot → Slot
      change s = cond (test s) other s

      kept : (x : Slot) → test x ≡ false → change x ≡ x
      kept x e = ap (λ p. cond p other x) e

      top : test slot.Top ≡ false
      top = not_bare test slot.Top bare refl

      read : (zs : List Slot) (k : ℕ) → local_at (map change zs) k ≡ change (local_at zs k)
      read zs k =
          ap (λ d. get_or (map change zs) k d) (sym (kept slot.Top top)) ∙ get_or-map change zs k slot.Top

      among : (k : ℕ) → P k → local_at (map change xs) k ≡ v k
      among k within = read xs k ∙ ap change (h.among k within) ∙ kept (v k) (not_bare test (v k) bare (plain k within))

      apart : (k : ℕ) → (P k → ⊥) → local_at (map change xs) k ≡ local_at (map change ys) k
      apart k without = read xs k ∙ ap change (h.apart k without) ∙ sym (read ys k)

-- lists turned round
map-reverse : (f : Slot → Slot) (xs : List Slot) → reverse (map f xs) ≡ map f (reverse xs)
map-reverse f [] = refl
map-reverse f (x ∷ xs) =
    reverse-append (f x ∷ []) (map f xs) ∙ ap (λ zs. zs ++ f x ∷ []) (map-reverse f xs)
    ∙ sym (ap (map f) (reverse-append (x ∷ []) xs) ∙ map-append f (reverse xs) (x ∷ []))

abbrev IsPlain : (SlotPlace → Type 0) → (SlotPlace → Slot) → Type 0
IsPlain P v = (p : SlotPlace) → P p → not (is_bare (v p)) ≡ true

-- the same of the words
replaced-words : (P : SlotPlace → Type 0) (v : SlotPlace → Slot) (test : Slot → Bool) (other : Slot) (xs ys : List Slot) → IsBareTest test → IsPlain P v
    → AreCarried (λ h. P (place.Word h)) (λ h. v (place.Word h)) (reverse xs) (reverse ys)
    → AreCarried (λ h. P (place.Word h)) (λ h. v (place.Word h)) (reverse (replaced test other xs)) (reverse (replaced test other ys))
replaced-words P v test other xs ys bare plain h =
    let change : Slot → Slot = λ s. cond (test s) other s in
    let turned = replaced-carried (λ h. P (place.Word h)) (λ h. v (place.Word h)) test other (reverse xs) (reverse ys) bare
    (λ k within. plain (place.Word k) within) h in
    subst (λ (zs : List Slot). AreCarried (λ h. P (place.Word h)) (λ h. v (place.Word h)) (reverse (map change xs)) zs) (sym (map-reverse change ys))
    (subst (λ (zs : List Slot). AreCarried (λ h. P (place.Word h)) (λ h. v (place.Word h)) zs (map change (reverse ys))) (sym (map-reverse change xs)) turned)

-- where the one has no object that passes, the other has none
none_listed : (P : SlotPlace → Type 0) (v : SlotPlace → Slot) (test : Slot → Bool) (xs ys : List Slot) → IsBareTest test → IsPlain P v
    → AreCarried (λ h. P (place.Word h)) (λ h. v (place.Word h)) (reverse xs) (reverse ys) → list_any test ys ≡ false → list_any test xs ≡ false
none_listed P v test xs ys bare plain h none =
    list_any-IsPermutation test xs (reverse xs) (IsPermutation-reverse xs) ∙ list_any_none test (reverse xs) each where
      turned : list_any test (reverse ys) ≡ false
      turned = sym (list_any-IsPermutation test ys (reverse ys) (IsPermutation-reverse ys)) ∙ none

      each : (k : ℕ) (d : Slot) → k < length (reverse xs) → test (get_or (reverse xs) k d) ≡ false
      each k d inside =
          let read = get_or_default (reverse xs) k d slot.Top inside in
          ap test read ∙ by_test (test (local_at (reverse xs) k)) refl where
            by_test : (b : Bool) → test (local_at (reverse xs) k) ≡ b → test (local_at (reverse xs) k) ≡ false
            by_test false e = e
            by_test true e =
                let never : P (place.Word k) → ⊥ = λ within.
                false≢true (sym (not_bare test (v (place.Word k)) bare (plain (place.Word k) within)) ∙ ap test (sym (h.among k within)) ∙ e) in
                let same = h.apart k never in
                let size = h.size in
                let below : k < length (reverse ys) = omega (arith, size, inside) in
                absurd
                (false≢true (sym turned
                ∙ list_any-from_Any test (reverse ys)
                (k, local_at (reverse ys) k, below, get_or_default (reverse ys) k (local_at (reverse ys) k) slot.Top below, ap test (sym same) ∙ e)))

made-follows : (p q a b : Bool) → (b ≡ false → a ≡ false) → (p && q && not b) ≡ true → (p && q && not a) ≡ true
made-follows true true a false h e = ap not (h refl)
made-follows true true a true h e = absurd (false≢true e)
made-follows true false a b h e = absurd (false≢true e)
made-follows false q a b h e = absurd (false≢true e)

new_row-carried : (P : SlotPlace → Type 0) (v : SlotPlace → Slot) (o : Outline) (item : ℕ) (u : Use) (s t : TypeState) → IsPlain P v → IsClear P 0 s
    → IsCarried P v s t → Follows (IsCarried P v) (new_row o item u s) (new_row o item u t)
unfolding new_row
new_row-carried P v o item u s t plain clear h =
    follows-on_type (IsCarried P v) o u _ _
    (λ named. follows-if (IsCarried P v) (nat_eq named.dims 0 && has_objects o.classes named.base && not (list_any (is_uninit item) s.stack))
    (nat_eq named.dims 0 && has_objects o.classes named.base && not (list_any (is_uninit item) t.stack)) _ _
    (λ e. made-follows (nat_eq named.dims 0) (has_objects o.classes named.base) (list_any (is_uninit item) s.stack) (list_any (is_uninit item) t.stack)
    (none_listed P v (is_uninit item) s.stack t.stack (uninit_test item) plain h.words) e)
    (λ e. record {
      locals = replaced-carried (λ k. P (place.Local k)) (λ k. v (place.Local k)) (is_uninit item) slot.Top s.locals t.locals (uninit_test item)
          (λ k within. plain (place.Local k) within) h.locals;
      words = (low-push P v 0 (slot.Uninit item) s.stack t.stack (low-of P v 0 s t clear h)).words;
      built = h.built;
    }))

initialised-carried : (P : SlotPlace → Type 0) (v : SlotPlace → Slot) (test : Slot → Bool) (named : TypeRef) (s t : TypeState) → IsBareTest test
    → IsPlain P v → IsCarried P v s t → IsCarried P v (initialised test named s) (initialised test named t)
initialised-carried P v test named s t bare plain h = record {
  locals = replaced-carried (λ k. P (place.Local k)) (λ k. v (place.Local k)) test (slot.Ref named) s.locals t.locals bare
      (λ k within. plain (place.Local k) within) h.locals;
  words = replaced-words P v test (slot.Ref named) s.stack t.stack bare plain h.words;
  built = h.built;
}

constructed-carried : (P : SlotPlace → Type 0) (v : SlotPlace → Slot) (o : Outline) (method : ℕ) (news : ℕ → Option TypeRef) (named : TypeRef) (receiver : Slot) (s t : TypeState)
    → IsPlain P v → IsCarried P v s t
    → Follows (IsCarried P v) (constructed o method news named receiver s) (constructed o method news named receiver t)
constructed-carried P v o method news named slot.Top s t plain h = tt
constructed-carried P v o method news named slot.Int s t plain h = tt
constructed-carried P v o method news named slot.Long s t plain h = tt
constructed-carried P v o method news named slot.Null s t plain h = tt
constructed-carried P v o method news named (slot.Ref r) s t plain h = tt
constructed-carried P v o method news named (slot.Uninit item) s t plain h =
    follows-if (IsCarried P v) (is_type named (news item)) (is_type named (news item)) _ _ (λ e. e)
    (λ e. initialised-carried P v (is_uninit item) named s t (uninit_test item) plain h)
constructed-carried P v o method news named slot.UninitThis s t plain h =
    follows-if (IsCarried P v) (names_own_or_parent o (class_of_method o method) named) (names_own_or_parent o (class_of_method o method) named) _ _ (λ e. e)
    (λ e. built (initialised-carried P v is_uninit_this (type_of_class own) s t this_test plain h)) where
      own : ℕ
      own = this_class o method

      built : IsCarried P v (initialised is_uninit_this (type_of_class own) s) (initialised is_uninit_this (type_of_class own) t)
          → IsCarried P v (record (initialised is_uninit_this (type_of_class own) s) { built = true })
          (record (initialised is_uninit_this (type_of_class own) t) { built = true })
      built w = record { locals = w.locals; words = w.words; built = refl }

below_arguments-carried : (P : SlotPlace → Type 0) (v : SlotPlace → Slot) (o : Outline) (method : ℕ) (news : ℕ → Option TypeRef) (named : TypeRef) (s t : TypeState)
    → IsPlain P v → IsCarried P v s t → (a b : List Slot) → AreLow P v 1 a b
    → Follows (IsCarried P v) (after_arguments o method news named s a) (after_arguments o method news named t b)
below_arguments-carried P v o method news named s t plain h a [] low = tt
below_arguments-carried P v o method news named s t plain h [] (y ∷ b) low = absurd (let size = low-size P v 1 [] (y ∷ b) low in omega (arith, size))
below_arguments-carried P v o method news named s t plain h (x ∷ a) (y ∷ b) low =
    let top = low-top P v 0 1 x y a b (omega arith) low in
    subst (λ (z : Slot). Follows (IsCarried P v) (constructed o method news named x (record s { stack = a })) (constructed o method news named z (record t { stack = b })))
    top.0 (constructed-carried P v o method news named x (record s { stack = a }) (record t { stack = b }) plain (with_stack P v 0 s t a b h top.1))

-- the words of a method's arguments, as they are counted
arguments_counted : (o : Outline) (m : ℕ) → length (argument_words o m) ≡ length (flat_map local_slots (parameters_of o m))
arguments_counted o m = length-reverse (flat_map local_slots (parameters_of o m))

constructor_called-carried : (P : SlotPlace → Type 0) (v : SlotPlace → Slot) (o : Outline) (method : ℕ) (news : ℕ → Option TypeRef) (m : ℕ) (named : TypeRef) (s t : TypeState)
    → IsPlain P v → IsClear P (length (argument_words o m) + 1) s → IsCarried P v s t
    → Follows (IsCarried P v) (constructor_called o method news m named s) (constructor_called o method news m named t)
constructor_called-carried P v o method news m named s t plain clear h =
    follows-then (AreLow P v 1) (IsCarried P v) (after_arguments o method news named s) (after_arguments o method news named t)
    (taken o (argument_words o m) s.stack) (taken o (argument_words o m) t.stack)
    (taken-low P v o (argument_words o m) 1 (length (argument_words o m) + 1) refl s.stack t.stack
    (low-of P v (length (argument_words o m) + 1) s t clear h))
    (below_arguments-carried P v o method news named s t plain h)

-- ---- elements of arrays

stored_count : (o : Outline) (e : Elem) → length (stored_element o e ++ int_word) + 1 ≡ element_words e + 2
stored_count o elem.Boolean = refl
stored_count o elem.Byte = refl
stored_count o elem.Char = refl
stored_count o elem.Short = refl
stored_count o elem.Int = refl
stored_count o elem.Long = refl
stored_count o elem.Ref = refl

-- ---- all rows

-- locals that are apart from one are neither it nor beside it
apart_all : (P : ℕ → Type 0) (local : ℕ) → ((k : ℕ) → P k → are_apart k local ≡ true) → (j : ℕ) → j ≤ local + 1 → local ≤ j + 1 → P j → ⊥
apart_all P local apart j first last within =
    by_tests (nat_lt (j + 1) local) (nat_lt (local + 1) j) refl refl (apart j within) where
      by_tests : (p q : Bool) → nat_lt (j + 1) local ≡ p → nat_lt (local + 1) j ≡ q → (p || q) ≡ true → ⊥
      by_tests true q e f h = let less = ltb-true (j + 1) local e in omega arith
      by_tests false true e f h = let less = ltb-true (local + 1) j f in omega arith
      by_tests false false e f h = false≢true h

apart_here : (P : ℕ → Type 0) (local : ℕ) → ((k : ℕ) → P k → are_apart k local ≡ true) → P local → ⊥
apart_here P local apart = apart_all P local apart local (omega arith) (omega arith)

-- what objects that aren't initialised would be changed isn't at the places
all_plain : (P : SlotPlace → Type 0) (v : SlotPlace → Slot) → ((k : ℕ) → P (place.Local k) → not (is_bare (v (place.Local k))) ≡ true)
    → ((h : ℕ) → P (place.Word h) → not (is_bare (v (place.Word h))) ≡ true) → IsPlain P v
all_plain P v locals words (place.Local k) within = locals k within
all_plain P v locals words (place.Word h) within = words h within

-- the words that a row takes at most
called : (o : Outline) (u : Use) → rows.called_words o u ≡ called_words o u
called o (resolved.OfMethod m t) = ap (λ n. n + 1) (arguments_counted o m.0)
called o u = refl

counted : (o : Outline) (u : Use) (i : Insn) → insns.words_taken 2 (rows.called_words o u) i ≡ words_taken o u i
counted o u (insn.Virtual index) = called o u
counted o u (insn.Interface index) = called o u
counted o u (insn.Special index) = called o u
counted o u (insn.Static index) = called o u
counted o u i = refl

module _ (P : SlotPlace → Type 0) (v : SlotPlace → Slot) (o : Outline) (method item : ℕ) (news : ℕ → Option TypeRef) (u : Use) (i : Insn) (s t : TypeState)
    (shaped : AllZip IsShaped s.stack t.stack) (locals : (k : ℕ) → P (place.Local k) → leaves_local i k (v (place.Local k)) ≡ true)
    (words : (h : ℕ) → P (place.Word h) → leaves_word i (v (place.Word h)) ≡ true) (h : IsCarried P v s t) where
  -- the rows of the two states, where no place is among so many topmost words
  abbrev Carries : ℕ → Row → Type 0
  Carries n row = IsClear P n s → Follows (IsCarried P v) (row item news s) (row item news t)

  leaves : (j : Insn) → i ≡ j → (k : ℕ) → P (place.Local k) → leaves_local j k (v (place.Local k)) ≡ true
  leaves j is k within = ap (λ x. leaves_local x k (v (place.Local k))) (sym is) ∙ locals k within

  leaves_words : (j : Insn) → i ≡ j → (k : ℕ) → P (place.Word k) → leaves_word j (v (place.Word k)) ≡ true
  leaves_words j is k within = ap (λ x. leaves_word x (v (place.Word k))) (sym is) ∙ words k within

  steps-carry : Leaves o method u i Carries
  unfolding array_load_row array_store_row length_row
  steps-carry = record {
    more = λ m n row less carries clear. carries (clear-less P m n s less clear);
    none = λ clear. tt;
    kept = λ clear. h;
    built = λ clear. follows-if (IsCarried P v) s.built t.built (Some s) (Some t) (λ e. h.built ∙ e) (λ e. h);
    pushes = λ given are clear. pushed-carried P v given s t clear h;
    works = λ wanted given first second clear. worked-carried P v o wanted given s t clear h;
    moves = λ m within clear. move_of-carried P v m s t within clear shaped h;
    loads = λ r k is clear. load_row-carried P v r k s t (apart_here (λ j. P (place.Local j)) k (leaves (insn.Load r k) is)) clear h;
    stores = λ r k is clear. store_row-carried P v o r k s t (apart_all (λ j. P (place.Local j)) k (leaves (insn.Store r k) is)) clear h;
    increments = λ k by is clear. increment_row-carried P v k s t (apart_here (λ j. P (place.Local j)) k (leaves (insn.Inc k by) is)) h;
    loads_element = λ e clear. worked_below-carried P v o int_word (on_array (is_array_of e) (null_element e) (element_of e)) s t clear h;
    stores_element = λ e clear. worked_below-carried P v o (stored_element o e ++ int_word) (on_array (is_array_of e) [] (λ t. [])) s t
        (subst (λ n. IsClear P n s) (sym (stored_count o e)) clear) h;
    has_length = λ clear. worked_below-carried P v o [] (on_array (λ t. nat_lt 0 t.dims) int_word (λ t. int_word)) s t clear h;
    puts_field = λ field named clear. worked_below-carried P v o (field_words o field) (takes_field o method field named) s t clear h;
    makes = λ index is clear. new_row-carried P v o item u s t (all_plain P v (leaves (insn.New index) is) (leaves_words (insn.New index) is)) clear h;
    constructs = λ index m named is clear. constructor_called-carried P v o method news m named s t
        (all_plain P v (leaves (insn.Special index) is) (leaves_words (insn.Special index) is)) clear h;
  }

  row-frames : IsClear P (words_taken o u i) s → Follows (IsCarried P v) (row_after o method item news u i s) (row_after o method item news u i t)
  row-frames clear = each_check_row o method u i Carries steps-carry (subst (λ n. IsClear P n s) (sym (counted o u i)) clear)

-- the stacks have the same longs, and the row leaves each of the places alone
pub row-carried : (P : SlotPlace → Type 0) (v : SlotPlace → Slot) (o : Outline) (method item : ℕ) (news : ℕ → Option TypeRef) (u : Use) (i : Insn) (s t : TypeState)
    → AllZip IsShaped s.stack t.stack → ((p : SlotPlace) → P p → leaves_alone i (length s.stack - words_taken o u i) p (v p) ≡ true) → IsCarried P v s t
    → Follows (IsCarried P v) (row_after o method item news u i s) (row_after o method item news u i t)
row-carried P v o method item news u i s t shaped alone h =
    row-frames P v o method item news u i s t shaped (λ k within. alone (place.Local k) within)
    (λ k within. (parts k within).1) h
    (λ k within. let below = ltb-true k (length s.stack - words_taken o u i) (parts k within).0 in omega (arith, below)) where
      parts : (k : ℕ) → P (place.Word k) → (nat_lt k (length s.stack - words_taken o u i) ≡ true) × (leaves_word i (v (place.Word k)) ≡ true)
      parts k within = and_parts (nat_lt k (length s.stack - words_taken o u i)) (leaves_word i (v (place.Word k))) (alone (place.Word k) within)
