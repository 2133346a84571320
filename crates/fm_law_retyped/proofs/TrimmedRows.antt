-- A row at locals that end with a first half of a long, and at the same locals with no half there.
use Rattle.std.proofs.Common.{◌≡◌, refl, sym, ◌∙◌, ap, ℕ, zero, suc, ◌+◌, ◌<◌, ◌≤◌, ◌⊎◌, inl, inr, Bool, true, false, cond, List, [], ◌∷◌, ◌++◌, length, length-append, map, set, Option, Some, None, option_and_then, option_map, arith}
use Rattle.std.specs.Prelude.{nat_lt, slice_get}
use Rattle.std.proofs.lemmas.Bool.{cases_lt, le-ltb}
use Rattle.std.proofs.lemmas.List.{get_or_append_left, length-set, set-append_left}
use Rattle.std.proofs.lemmas.Option.{slice_get-get_or}
use Rattle.std.proofs.Math.Seq.{get_or-append_seam, set-append_seam}
use Rattle.fm_base.specs.declared.kinds.TypeRef.{TypeRef}
use Rattle.fm_code.specs.SpellsCode.{LocalsFit}
use Rattle.fm_code.specs.declared.instructions.Insn.{Insn}
use Rattle.fm_code.specs.declared.instructions.Insn.TheVariants as insn
use Rattle.fm_code.specs.declared.operations.Reg.{Reg}
use Rattle.fm_code.specs.declared.operations.Reg.TheVariants as reg
use Rattle.fm_law_relinked.proofs.RowsBlind.{length_cut, rows_blind}
use Rattle.fm_law_relinked.specs.Rows.{slot_with, state_with}
use Rattle.fm_law_retyped.proofs.Trimmed.{trimmed, trimmed_state}
use Rattle.fm_types.specs.NumberRows.{increment_row, is_int, load_row, loaded, store_row, stored_from, suits}
use Rattle.fm_types.specs.Rows.{row_after}
use Rattle.fm_types.specs.States.{cut_before, is_long, is_reference, local_at, pushed, TypeState}
use Rattle.fm_types.specs.declared.slots.Slot.{Slot}
use Rattle.fm_types.specs.declared.slots.Slot.TheVariants as slot
use Rattle.fm_world.specs.Programs.{Outline}
use Rattle.fm_world.specs.declared.uses.Use.{Use}

-- ---- locals with one more behind

abbrev with_last : List Slot → Slot → List Slot
with_last front last = front ++ last ∷ []

pub trimmed-long : (front : List Slot) → trimmed (with_last front slot.Long) ≡ with_last front slot.Top
trimmed-long [] = refl
trimmed-long (s ∷ []) = refl
trimmed-long (s ∷ t ∷ front) = ap (λ l. s ∷ l) (trimmed-long (t ∷ front))

pub trimmed-other : (front : List Slot) (s : Slot) → is_long s ≡ false → trimmed (with_last front s) ≡ with_last front s
trimmed-other [] s other = ap (λ b. cond b slot.Top s ∷ []) other
trimmed-other (t ∷ []) s other = ap (λ b. t ∷ cond b slot.Top s ∷ []) other
trimmed-other (t ∷ u ∷ front) s other = ap (λ l. t ∷ l) (trimmed-other (u ∷ front) s other)

module _ (front : List Slot) (last : Slot) where
  count_is : length (with_last front last) ≡ suc (length front)
  count_is = let both = length-append front (last ∷ []) in omega (arith, both)

  same_inside : (k : ℕ) → k < length front → local_at (with_last front last) k ≡ local_at front k
  same_inside k within = get_or_append_left front (last ∷ []) slot.Top k within

  get_inside : (k : ℕ) → k < length front → slice_get (with_last front last) k ≡ Some (local_at front k)
  get_inside k within =
      let count = count_is in
      slice_get-get_or (with_last front last) k slot.Top (omega (arith, within, count)) ∙ ap Some (same_inside k within)

  last_is : local_at (with_last front last) (length front) ≡ last
  last_is = get_or-append_seam front last [] slot.Top

  get_last : slice_get (with_last front last) (length front) ≡ Some last
  get_last =
      let count = count_is in
      slice_get-get_or (with_last front last) (length front) slot.Top (omega (arith, count)) ∙ ap Some last_is

  set_inside : (k : ℕ) (x : Slot) → k < length front → set (with_last front last) k x ≡ with_last (set front k x) last
  set_inside k x within = set-append_left front (last ∷ []) k x within

  set_last : (x : Slot) → set (with_last front last) (length front) x ≡ with_last front x
  set_last x = set-append_seam front last [] x

  cut_inside : (k : ℕ) → k ≤ length front → cut_before k (with_last front last) ≡ with_last (cut_before k front) last
  cut_inside zero within = refl
  cut_inside (suc k) within =
      let inside : k < length front = omega (arith, within) in
      (λ j. cond (is_long (same_inside k inside j)) (set_inside k slot.Top inside j) (with_last front last)) ∙ by_test (is_long (local_at front k)) where
        by_test : (b : Bool) → cond b (with_last (set front k slot.Top) last) (with_last front last) ≡ with_last (cond b (set front k slot.Top) front) last
        by_test true = refl
        by_test false = refl

-- ---- what is stored

module _ (front : List Slot) where
  long : List Slot
  long = with_last front slot.Long

  room : (last : Slot) (k n : ℕ) → k + n ≤ suc (length front) → nat_lt (length (with_last front last)) (k + n) ≡ false
  room last k n within = let count = count_is front last in le-ltb (length (with_last front last)) (k + n) (omega (arith, within, count))

  -- one slot
  one_written : (last : Slot) (k : ℕ) (x : Slot) → k < length front
      → set (cut_before k (with_last front last)) k x ≡ with_last (set (cut_before k front) k x) last
  one_written last k x within =
      let same = length_cut k front in
      ap (λ l. set l k x) (cut_inside front last k (omega (arith, within))) ∙ set_inside (cut_before k front) last k x (omega (arith, within, same))

  one_last : (last : Slot) (k : ℕ) (x : Slot) → k ≡ length front → set (cut_before k (with_last front last)) k x ≡ with_last (cut_before k front) x
  one_last last k x is =
      let same = length_cut k front in
      ap (λ l. set l k x) (cut_inside front last k (omega (arith, is)))
      ∙ ap (λ n. set (with_last (cut_before k front) last) n x) (is ∙ sym same) ∙ set_last (cut_before k front) last x

  one_trimmed : (k : ℕ) (x : Slot) → is_long x ≡ false → k < suc (length front)
      → set (cut_before k (with_last front slot.Top)) k x ≡ trimmed (set (cut_before k (with_last front slot.Long)) k x)
  one_trimmed k x other within = by_place (cases_lt k (length front)) where
    by_place : (k < length front) ⊎ (length front ≤ k)
        → set (cut_before k (with_last front slot.Top)) k x ≡ trimmed (set (cut_before k (with_last front slot.Long)) k x)
    by_place (inl inside) =
        one_written slot.Top k x inside ∙ sym (ap trimmed (one_written slot.Long k x inside) ∙ trimmed-long (set (cut_before k front) k x))
    by_place (inr past) =
        let is : k ≡ length front = omega (arith, within, past) in
        one_last slot.Top k x is ∙ sym (ap trimmed (one_last slot.Long k x is) ∙ trimmed-other (cut_before k front) x other)

  -- a long
  two_trimmed : (k : ℕ) (x : Slot) → k + 1 < suc (length front)
      → set (set (cut_before k (with_last front slot.Top)) k x) (suc k) slot.Top
      ≡ trimmed (set (set (cut_before k (with_last front slot.Long)) k x) (suc k) slot.Top)
  two_trimmed k x within = by_place (cases_lt (suc k) (length front)) where
    new : List Slot
    new = set (cut_before k front) k x

    count : length new ≡ length front
    count = length-set (cut_before k front) k x ∙ length_cut k front

    by_place : (suc k < length front) ⊎ (length front ≤ suc k)
        → set (set (cut_before k (with_last front slot.Top)) k x) (suc k) slot.Top
        ≡ trimmed (set (set (cut_before k (with_last front slot.Long)) k x) (suc k) slot.Top)
    by_place (inl inside) =
        let here : (last : Slot) → set (set (cut_before k (with_last front last)) k x) (suc k) slot.Top ≡ with_last (set new (suc k) slot.Top) last =
        λ last. ap (λ l. set l (suc k) slot.Top) (one_written last k x (omega (arith, inside))) ∙ set_inside new last (suc k) slot.Top (omega (arith, inside, count)) in
        here slot.Top ∙ sym (ap trimmed (here slot.Long) ∙ trimmed-long (set new (suc k) slot.Top))
    by_place (inr past) =
        let is : suc k ≡ length new = omega (arith, within, past, count) in
        let here : (last : Slot) → set (set (cut_before k (with_last front last)) k x) (suc k) slot.Top ≡ with_last new slot.Top =
        λ last. ap (λ l. set l (suc k) slot.Top) (one_written last k x (omega (arith, within)))
        ∙ ap (λ n. set (with_last new last) n slot.Top) is ∙ set_last new last slot.Top in
        here slot.Top ∙ sym (ap trimmed (here slot.Long) ∙ trimmed-other new slot.Top refl)

-- ---- rows

-- a state with other locals
abbrev at_locals : TypeState → List Slot → TypeState
at_locals s locals = record { locals = locals; stack = s.stack; built = s.built }

module _ (front : List Slot) (s : TypeState) where
  abbrev long_state : TypeState
  long_state = at_locals s (with_last front slot.Long)

  abbrev short_state : TypeState
  short_state = at_locals s (with_last front slot.Top)

  -- the row is met alike, and leaves the same but for that local
  abbrev IsAlike : (TypeState → Option TypeState) → Type 0
  IsAlike row = row short_state ≡ option_map trimmed_state (row long_state)

  trimmed_with : (stack : List Slot) (built : Bool)
      → record { locals = with_last front slot.Top; stack = stack; built = built }
      ≡ trimmed_state (record { locals = with_last front slot.Long; stack = stack; built = built })
  trimmed_with stack built = λ k. record { locals = sym (trimmed-long front) k; stack = stack; built = built }

  -- ---- loads

  abbrev load_of : Reg → TypeState → Slot → Option TypeState
  load_of r t found = cond (suits r found) (Some (pushed (loaded r found) t)) None

  load_found : (r : Reg) (found : Slot) → load_of r short_state found ≡ option_map trimmed_state (load_of r long_state found)
  load_found r found = by_test (suits r found) where
    by_test : (b : Bool) → cond b (Some (pushed (loaded r found) short_state)) None
        ≡ option_map trimmed_state (cond b (Some (pushed (loaded r found) long_state)) None)
    by_test true = ap Some (trimmed_with (loaded r found ++ s.stack) s.built)
    by_test false = refl

  load_inside : (r : Reg) (k : ℕ) → k < length front → IsAlike (load_row r k)
  unfolding load_row
  load_inside r k within =
      ap (option_and_then (load_of r short_state)) (get_inside front slot.Top k within) ∙ load_found r (local_at front k)
      ∙ sym (ap (λ o. option_map trimmed_state (option_and_then (load_of r long_state) o)) (get_inside front slot.Long k within))

  load_last : (r : Reg) (k : ℕ) → suits r slot.Long ≡ false → suits r slot.Top ≡ false → k ≡ length front → IsAlike (load_row r k)
  unfolding load_row
  load_last r k no_long no_top is =
      ap (λ n. option_and_then (load_of r short_state) (slice_get (with_last front slot.Top) n)) is
      ∙ ap (option_and_then (load_of r short_state)) (get_last front slot.Top)
      ∙ ap (λ b. cond b (Some (pushed (loaded r slot.Top) short_state)) None) no_top
      ∙ sym (ap (λ n. option_map trimmed_state (option_and_then (load_of r long_state) (slice_get (with_last front slot.Long) n))) is
      ∙ ap (λ o. option_map trimmed_state (option_and_then (load_of r long_state) o)) (get_last front slot.Long)
      ∙ ap (λ b. option_map trimmed_state (cond b (Some (pushed (loaded r slot.Long) long_state)) None)) no_long)

  load_alike : (r : Reg) (k : ℕ) → suits r slot.Long ≡ false → suits r slot.Top ≡ false → k < suc (length front) → IsAlike (load_row r k)
  load_alike r k no_long no_top within = by_place (cases_lt k (length front)) where
    by_place : (k < length front) ⊎ (length front ≤ k) → IsAlike (load_row r k)
    by_place (inl inside) = load_inside r k inside
    by_place (inr past) = load_last r k no_long no_top (omega (arith, within, past))

  -- ---- stores

  store_one : (k : ℕ) (x : Slot) (stack : List Slot) → is_long x ≡ false → k < suc (length front)
      → stored_from k (x ∷ []) stack short_state ≡ option_map trimmed_state (stored_from k (x ∷ []) stack long_state)
  store_one k x stack other within =
      let new = set (cut_before k (with_last front slot.Top)) k x in
      let old = set (cut_before k (with_last front slot.Long)) k x in
      ap (λ b. option_map (λ locals. record short_state { locals = locals; stack = stack }) (cond b None (Some new))) (room front slot.Top k 1 (omega (arith, within)))
      ∙ ap (λ l. Some (record { locals = l; stack = stack; built = s.built })) (one_trimmed front k x other within)
      ∙ sym (ap (λ b. option_map trimmed_state (option_map (λ locals. record long_state { locals = locals; stack = stack }) (cond b None (Some old))))
      (room front slot.Long k 1 (omega (arith, within))))

  store_two : (k : ℕ) (x : Slot) (stack : List Slot) → k + 1 < suc (length front)
      → stored_from k (x ∷ slot.Top ∷ []) stack short_state ≡ option_map trimmed_state (stored_from k (x ∷ slot.Top ∷ []) stack long_state)
  store_two k x stack within =
      let new = set (set (cut_before k (with_last front slot.Top)) k x) (suc k) slot.Top in
      let old = set (set (cut_before k (with_last front slot.Long)) k x) (suc k) slot.Top in
      ap (λ b. option_map (λ locals. record short_state { locals = locals; stack = stack }) (cond b None (Some new))) (room front slot.Top k 2 (omega (arith, within)))
      ∙ ap (λ l. Some (record { locals = l; stack = stack; built = s.built })) (two_trimmed front k x within)
      ∙ sym (ap (λ b. option_map trimmed_state (option_map (λ locals. record long_state { locals = locals; stack = stack }) (cond b None (Some old))))
      (room front slot.Long k 2 (omega (arith, within))))

  abbrev store_of : ℕ → TypeState → Reg → List Slot → Option TypeState
  store_of k t r [] = None
  store_of k t reg.Int (found ∷ stack) = cond (is_int found) (stored_from k (found ∷ []) stack t) None
  store_of k t reg.Ref (found ∷ stack) = cond (is_reference found) (stored_from k (found ∷ []) stack t) None
  store_of k t reg.Long (half ∷ []) = None
  store_of k t reg.Long (half ∷ found ∷ stack) = cond (is_long found) (stored_from k (found ∷ slot.Top ∷ []) stack t) None

  guarded : (b : Bool) (x y : Option TypeState) → (b ≡ true → x ≡ option_map trimmed_state y) → cond b x None ≡ option_map trimmed_state (cond b y None)
  guarded true x y same = same refl
  guarded false x y same = refl

  int_is_short : (x : Slot) → is_int x ≡ true → is_long x ≡ false
  int_is_short slot.Long is = sym is
  int_is_short x is = refl

  reference_is_short : (x : Slot) → is_reference x ≡ true → is_long x ≡ false
  reference_is_short slot.Long is = sym is
  reference_is_short x is = refl

  -- the locals that are written are among the state's own
  abbrev Within : Reg → ℕ → Type 0
  Within reg.Int k = k < suc (length front)
  Within reg.Long k = k + 1 < suc (length front)
  Within reg.Ref k = k < suc (length front)

  store_alike : (k : ℕ) (r : Reg) (stack : List Slot) → Within r k
      → store_of k short_state r stack ≡ option_map trimmed_state (store_of k long_state r stack)
  store_alike k r [] within = refl
  store_alike k reg.Int (found ∷ stack) within =
      guarded (is_int found) (stored_from k (found ∷ []) stack short_state) (stored_from k (found ∷ []) stack long_state)
      (λ is. store_one k found stack (int_is_short found is) within)
  store_alike k reg.Ref (found ∷ stack) within =
      guarded (is_reference found) (stored_from k (found ∷ []) stack short_state) (stored_from k (found ∷ []) stack long_state)
      (λ is. store_one k found stack (reference_is_short found is) within)
  store_alike k reg.Long (half ∷ []) within = refl
  store_alike k reg.Long (half ∷ found ∷ stack) within =
      guarded (is_long found) (stored_from k (found ∷ slot.Top ∷ []) stack short_state) (stored_from k (found ∷ slot.Top ∷ []) stack long_state)
      (λ is. store_two k found stack within)

  store_row_alike : (o : Outline) (r : Reg) (k : ℕ) → Within r k → IsAlike (store_row o r k)
  unfolding store_row
  store_row_alike o r k within = store_alike k r s.stack within

  -- ---- counting up

  increment_alike : (k : ℕ) → k < suc (length front) → IsAlike (increment_row k)
  unfolding increment_row
  increment_alike k within = by_place (cases_lt k (length front)) where
    by_test : (b c : Bool) → b ≡ c → cond b (Some short_state) None ≡ option_map trimmed_state (cond c (Some long_state) None)
    by_test true true e = ap Some (trimmed_with s.stack s.built)
    by_test true false e = cc
    by_test false true e = cc
    by_test false false e = refl

    by_place : (k < length front) ⊎ (length front ≤ k) → IsAlike (increment_row k)
    by_place (inl inside) =
        by_test (is_int (local_at (with_last front slot.Top) k)) (is_int (local_at (with_last front slot.Long) k))
        (ap is_int (same_inside front slot.Top k inside ∙ sym (same_inside front slot.Long k inside)))
    by_place (inr past) =
        let is : k ≡ length front = omega (arith, within, past) in
        by_test (is_int (local_at (with_last front slot.Top) k)) (is_int (local_at (with_last front slot.Long) k))
        (ap (λ n. is_int (local_at (with_last front slot.Top) n)) is ∙ ap is_int (last_is front slot.Top)
        ∙ sym (ap (λ n. is_int (local_at (with_last front slot.Long) n)) is ∙ ap is_int (last_is front slot.Long)))

  -- ---- all rows

  module _ (o : Outline) (method item : ℕ) (news : ℕ → Option TypeRef) (u : Use) where
    abbrev row : Insn → TypeState → Option TypeState
    row i t = row_after o method item news u i t

    same_slot : (x : Slot) → slot_with (λ n. n) x ≡ x
    same_slot slot.Top = refl
    same_slot slot.Int = refl
    same_slot slot.Long = refl
    same_slot slot.Null = refl
    same_slot (slot.Ref t) = refl
    same_slot (slot.Uninit n) = refl
    same_slot slot.UninitThis = refl

    same_slots : (xs : List Slot) → map (slot_with (λ n. n)) xs ≡ xs
    same_slots [] = refl
    same_slots (x ∷ xs) = λ k. same_slot x k ∷ same_slots xs k

    -- with this slot behind all locals
    abbrev behind : Slot → TypeState → TypeState
    behind last = state_with (λ n. n) (last ∷ [])

    behind_is : (last : Slot) → behind last (at_locals s front) ≡ at_locals s (with_last front last)
    behind_is last = λ k. record { locals = with_last (same_slots front k) last; stack = same_slots s.stack k; built = s.built }

    blind_at : (i : Insn) → LocalsFit (length front) i → IsAlike (row i)
    blind_at i within =
        ap (row i) (sym (behind_is slot.Top))
        ∙ rows_blind (λ n. n) (slot.Top ∷ []) (λ a b. refl) (tt, tt) o method item news news (λ n. refl) u i (at_locals s front) within
        ∙ by_row (row i (at_locals s front))
        ∙ sym (ap (option_map trimmed_state) (ap (row i) (sym (behind_is slot.Long))
        ∙ rows_blind (λ n. n) (slot.Long ∷ []) (λ a b. refl) (tt, tt) o method item news news (λ n. refl) u i (at_locals s front) within)) where
          by_row : (after : Option TypeState) → option_map (behind slot.Top) after ≡ option_map trimmed_state (option_map (behind slot.Long) after)
          by_row None = refl
          by_row (Some after) = λ k. Some (record {
            locals = sym (trimmed-long (map (slot_with (λ n. n)) after.locals)) k;
            stack = map (slot_with (λ n. n)) after.stack;
            built = after.built;
          })

    pub rows_alike : (i : Insn) → LocalsFit (suc (length front)) i → IsAlike (row i)
    unfolding row_after
    rows_alike (insn.Load reg.Int k) within = load_alike reg.Int k refl refl within
    rows_alike (insn.Load reg.Ref k) within = load_alike reg.Ref k refl refl within
    rows_alike (insn.Load reg.Long k) within = load_inside reg.Long k (omega (arith, within))
    rows_alike (insn.Store reg.Int k) within = store_row_alike o reg.Int k within
    rows_alike (insn.Store reg.Ref k) within = store_row_alike o reg.Ref k within
    rows_alike (insn.Store reg.Long k) within = store_row_alike o reg.Long k within
    rows_alike (insn.Inc k by) within = increment_alike k within
    rows_alike i within = blind_at i tt
