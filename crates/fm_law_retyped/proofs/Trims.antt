-- A typing stays one where the last local of each state, if it is a first half of a long, is none any longer.
use Rattle.std.proofs.Common.{◌≡◌, refl, sym, ◌∙◌, ap, subst, append_assoc, ◌||◌, ℕ, zero, suc, ◌-◌, ◌⊎◌, inl, inr, Bool, true, false, not, cond, List, [], ◌∷◌, ◌++◌, length, length-append, map, replicate, Option, Some, None, is_some, option_and_then, option_map, arith}
use Rattle.std.specs.Prelude.{slice_get}
use Rattle.std.specs.List.{AllByRecursion, AllZip, flat_map}
use Rattle.std.proofs.Math.ListN.{get_or-map}
use Rattle.std.proofs.lemmas.Bool.{false≢true}
use Rattle.std.proofs.lemmas.List.{append-nil, length-map}
use Rattle.std.proofs.lemmas.Option.{none-some, same_Some}
use Rattle.fm_base.proofs.ListFacts.{AllByRecursion-weaker}
use Rattle.fm_base.proofs.OptionFacts.{IsSomeAnd-from_some, option_map-some, same_value, Some-from_some_and}
use Rattle.fm_base.specs.declared.kinds.Kind.{Kind}
use Rattle.fm_base.specs.declared.kinds.Kind.TheVariants as kind
use Rattle.fm_code.specs.AccessFlags.{is_static}
use Rattle.fm_code.specs.Edges.{insn_of, IsNormalEdge}
use Rattle.fm_code.specs.SpellsCode.{LocalsFit}
use Rattle.fm_code.specs.declared.code_array.Code.{Code}
use Rattle.fm_code.specs.declared.code_array.Handler.{Handler}
use Rattle.fm_code.specs.declared.code_array.Item.{Item}
use Rattle.fm_code.specs.declared.instructions.Insn.{Insn}
use Rattle.fm_check_walk.proofs.MergingLemmas.{fits-from, fits-parts, state-trans}
use Rattle.fm_law_retyped.proofs.TrimmedRows.{rows_alike, trimmed-long, trimmed-other}
use Rattle.fm_law_retyped.proofs.Trimmed.{trimmed, trimmed_state}
use Rattle.fm_types.proofs.Order.{fits-refl, fits-top}
use Rattle.fm_types.proofs.StateOrder.{Fitting}
use Rattle.fm_types.proofs.Zips.{zip-refl}
use Rattle.fm_types.specs.CallRows.{is_constructor}
use Rattle.fm_types.specs.Fits.{AreTree, fits}
use Rattle.fm_types.specs.Named.{parameters_of, this_class}
use Rattle.fm_types.specs.Rows.{row_after}
use Rattle.fm_types.specs.States.{is_long, local_slots, state_fits, TypeState}
use Rattle.fm_types.specs.Typed.{after_item, caught_type, entry_slots, entry_state, FitsAt, FitsHandler, handler_state, IsTypingOf, made_at, MeetsItem, receiver_slots, state_at, use_by}
use Rattle.fm_types.specs.declared.slots.Slot.{Slot}
use Rattle.fm_types.specs.declared.slots.Slot.TheVariants as slot
use Rattle.fm_world.specs.Members.{method_at}
use Rattle.fm_world.specs.Numbers.{type_of_class}
use Rattle.fm_world.specs.Programs.{Outline, Program}

-- ---- locals

pub length_trimmed : (locals : List Slot) → length (trimmed locals) ≡ length locals
length_trimmed [] = refl
length_trimmed (s ∷ []) = refl
length_trimmed (s ∷ t ∷ locals) = ap suc (length_trimmed (t ∷ locals))

pub trimmed_twice : (locals : List Slot) → trimmed (trimmed locals) ≡ trimmed locals
trimmed_twice [] = refl
trimmed_twice (slot.Top ∷ []) = refl
trimmed_twice (slot.Int ∷ []) = refl
trimmed_twice (slot.Long ∷ []) = refl
trimmed_twice (slot.Null ∷ []) = refl
trimmed_twice (slot.Ref t ∷ []) = refl
trimmed_twice (slot.Uninit item ∷ []) = refl
trimmed_twice (slot.UninitThis ∷ []) = refl
trimmed_twice (s ∷ t ∷ []) = ap (λ l. s ∷ l) (trimmed_twice (t ∷ []))
trimmed_twice (s ∷ t ∷ u ∷ locals) = ap (λ l. s ∷ l) (trimmed_twice (t ∷ u ∷ locals))

-- the locals end with a first half, or stay
abbrev EndsLong : List Slot → Type 0
EndsLong locals = (front : List Slot) × (locals ≡ front ++ slot.Long ∷ [])

ends : (locals : List Slot) → EndsLong locals ⊎ (trimmed locals ≡ locals)
ends [] = inr refl
ends (slot.Long ∷ []) = inl ([], refl)
ends (slot.Top ∷ []) = inr refl
ends (slot.Int ∷ []) = inr refl
ends (slot.Null ∷ []) = inr refl
ends (slot.Ref t ∷ []) = inr refl
ends (slot.Uninit item ∷ []) = inr refl
ends (slot.UninitThis ∷ []) = inr refl
ends (s ∷ t ∷ locals) = by_rest (ends (t ∷ locals)) where
  by_rest : EndsLong (t ∷ locals) ⊎ (trimmed (t ∷ locals) ≡ t ∷ locals) → EndsLong (s ∷ t ∷ locals) ⊎ (trimmed (s ∷ t ∷ locals) ≡ s ∷ t ∷ locals)
  by_rest (inl (front, is)) = inl (s ∷ front, ap (λ l. s ∷ l) is)
  by_rest (inr same) = inr (ap (λ l. s ∷ l) same)

module _ (o : Outline) (tree : AreTree o.classes) where
  last_above : (s : Slot) (b : Bool) → Fitting o s (cond b slot.Top s)
  last_above s true = fits-top o s
  last_above s false = fits-refl o tree s

  -- each local fits what it becomes
  trimmed_above : (locals : List Slot) → AllZip (Fitting o) locals (trimmed locals)
  trimmed_above [] = tt
  trimmed_above (s ∷ []) = (last_above s (is_long s), tt)
  trimmed_above (s ∷ t ∷ locals) = (fits-refl o tree s, trimmed_above (t ∷ locals))

  last_kept : (s t : Slot) → Fitting o s t → Fitting o (cond (is_long s) slot.Top s) (cond (is_long t) slot.Top t)
  unfolding fits
  last_kept slot.Long slot.Long fit = refl
  last_kept slot.Long slot.Top fit = refl
  last_kept slot.Long t fit = absurd (false≢true fit)
  last_kept s slot.Long fit = fits-top o s
  last_kept s t fit = fit

  -- and fits so what it fits becomes
  trimmed_kept : (xs ys : List Slot) → AllZip (Fitting o) xs ys → AllZip (Fitting o) (trimmed xs) (trimmed ys)
  trimmed_kept [] [] fit = tt
  trimmed_kept [] (y ∷ ys) fit = absurd fit
  trimmed_kept (x ∷ xs) [] fit = absurd fit
  trimmed_kept (x ∷ []) (y ∷ []) fit = (last_kept x y fit.0, tt)
  trimmed_kept (x ∷ []) (y ∷ z ∷ ys) fit = absurd fit.1
  trimmed_kept (x ∷ w ∷ xs) (y ∷ []) fit = absurd fit.1
  trimmed_kept (x ∷ w ∷ xs) (y ∷ z ∷ ys) fit = (fit.0, trimmed_kept (w ∷ xs) (z ∷ ys) fit.1)

  -- ---- states

  state_above : (s : TypeState) → state_fits o s (trimmed_state s) ≡ true
  state_above s = fits-from o s (trimmed_state s) (record {
    locals = trimmed_above s.locals;
    stack = zip-refl (Fitting o) (fits-refl o tree) s.stack;
    built = built_same s.built;
  }) where
    built_same : (b : Bool) → (b || not b) ≡ true
    built_same true = refl
    built_same false = refl

  pub state_kept : (s t : TypeState) → state_fits o s t ≡ true → state_fits o (trimmed_state s) (trimmed_state t) ≡ true
  state_kept s t fit =
      let parts = fits-parts o s t fit in
      fits-from o (trimmed_state s) (trimmed_state t)
      (record { locals = trimmed_kept s.locals t.locals parts.locals; stack = parts.stack; built = parts.built })

  state_risen : (s t : TypeState) → state_fits o s t ≡ true → state_fits o s (trimmed_state t) ≡ true
  state_risen s t fit = state-trans o tree s t (trimmed_state t) fit (state_above t)

-- ---- the first state

-- the last slot of these isn't a first half, nor that of more behind them
abbrev StayBehind : List Slot → Type 0
StayBehind slots = (before : List Slot) → trimmed before ≡ before → trimmed (before ++ slots) ≡ before ++ slots

one_behind : (s : Slot) → is_long s ≡ false → (before : List Slot) → trimmed (before ++ s ∷ []) ≡ before ++ s ∷ []
one_behind s short before = trimmed-other before s short

-- of slots each part of which ends so
slots_stay : (k : Kind) → (before : List Slot) → trimmed (before ++ local_slots k) ≡ before ++ local_slots k
slots_stay kind.Boolean before = one_behind slot.Int refl before
slots_stay kind.Byte before = one_behind slot.Int refl before
slots_stay kind.Char before = one_behind slot.Int refl before
slots_stay kind.Short before = one_behind slot.Int refl before
slots_stay kind.Int before = one_behind slot.Int refl before
slots_stay (kind.Ref t) before = one_behind (slot.Ref t) refl before
slots_stay kind.Long before =
    ap trimmed (sym (append_assoc before (slot.Long ∷ []) (slot.Top ∷ []))) ∙ one_behind slot.Top refl (before ++ slot.Long ∷ [])
    ∙ append_assoc before (slot.Long ∷ []) (slot.Top ∷ [])

kinds_stay : (kinds : List Kind) → StayBehind (flat_map local_slots kinds)
kinds_stay [] before same = ap trimmed (append-nil before) ∙ same ∙ sym (append-nil before)
kinds_stay (k ∷ kinds) before same =
    ap trimmed (sym (append_assoc before (local_slots k) (flat_map local_slots kinds)))
    ∙ kinds_stay kinds (before ++ local_slots k) (slots_stay k before)
    ∙ append_assoc before (local_slots k) (flat_map local_slots kinds)

tops_stay : (n : ℕ) → StayBehind (replicate n slot.Top)
tops_stay zero before same = ap trimmed (append-nil before) ∙ same ∙ sym (append-nil before)
tops_stay (suc n) before same =
    ap trimmed (sym (append_assoc before (slot.Top ∷ []) (replicate n slot.Top)))
    ∙ tops_stay n (before ++ slot.Top ∷ []) (one_behind slot.Top refl before)
    ∙ append_assoc before (slot.Top ∷ []) (replicate n slot.Top)

receiver_stays : (o : Outline) (method : ℕ) → trimmed (receiver_slots o method) ≡ receiver_slots o method
receiver_stays o method = by_flags (is_static (method_at o.classes method).method.flags) (is_constructor o method) where
  by_flags : (s c : Bool) → let slots = cond s [] (cond c (slot.UninitThis ∷ []) (slot.Ref (type_of_class (this_class o method)) ∷ [])) in
      trimmed slots ≡ slots
  by_flags true c = refl
  by_flags false true = refl
  by_flags false false = refl

pub entry_stays : (o : Outline) (method : ℕ) (code : Code) → trimmed_state (entry_state o method code) ≡ entry_state o method code
unfolding entry_state
entry_stays o method code =
    let rest = code.max_locals - length (entry_slots o method) in
    let slots = kinds_stay (parameters_of o method) (receiver_slots o method) (receiver_stays o method) in
    let locals = tops_stay rest (entry_slots o method) slots in
    λ k. record { locals = locals k; stack = []; built = not (is_constructor o method) }

-- ---- the typing

abbrev pub all_trimmed : List (Option TypeState) → List (Option TypeState)
all_trimmed states = map (option_map trimmed_state) states

pub trimmed_at : (states : List (Option TypeState)) (j : ℕ) → state_at (all_trimmed states) j ≡ option_map trimmed_state (state_at states j)
trimmed_at states j = get_or-map (option_map trimmed_state) states j None

-- the row at the state, at a trimmed one
pub record IsTrimmedRow (p : Program) (method : ℕ) (code : Code) (j : ℕ) (s : TypeState) : Type 0 where
  pub after : TypeState
  pub is : after_item p method code j s ≡ Some after
  pub other : TypeState
  pub other_is : after_item p method code j (trimmed_state s) ≡ Some other
  -- what it leaves is trimmed, or is as it was where the state is
  pub leaves : (other ≡ trimmed_state after) ⊎ ((other ≡ after) × (trimmed s.locals ≡ s.locals))

module _ (p : Program) (tree : AreTree p.outline.classes) (method : ℕ) (code : Code) where
  o : Outline
  o = p.outline

  abbrev row_of : ℕ → TypeState → Insn → Option TypeState
  row_of j s i = row_after p.outline method j (made_at p method code) (use_by p method i) i s

  -- the row at locals that end with a first half
  long_row : (j : ℕ) (s : TypeState) (front : List Slot) → s.locals ≡ front ++ slot.Long ∷ []
      → ((i : Insn) → insn_of code j ≡ Some i → LocalsFit (suc (length front)) i)
      → after_item p method code j (trimmed_state s) ≡ option_map trimmed_state (after_item p method code j s)
  long_row j s front is fit = by_insn (insn_of code j) refl where
    long_is : s ≡ record { locals = front ++ slot.Long ∷ []; stack = s.stack; built = s.built }
    long_is = λ k. record { locals = is k; stack = s.stack; built = s.built }

    short_is : trimmed_state s ≡ record { locals = front ++ slot.Top ∷ []; stack = s.stack; built = s.built }
    short_is = λ k. record { locals = (ap trimmed is ∙ trimmed-long front) k; stack = s.stack; built = s.built }

    by_insn : (found : Option Insn) → insn_of code j ≡ found
        → option_and_then (row_of j (trimmed_state s)) found ≡ option_map trimmed_state (option_and_then (row_of j s) found)
    by_insn None there = refl
    by_insn (Some i) there =
        ap (λ t. row_of j t i) short_is
        ∙ rows_alike front s p.outline method j (made_at p method code) (use_by p method i) i (fit i there)
        ∙ sym (ap (λ t. option_map trimmed_state (row_of j t i)) long_is)

  -- each row
  pub trimmed_row : (j : ℕ) (s after : TypeState) → ((i : Insn) → insn_of code j ≡ Some i → LocalsFit (length s.locals) i)
      → after_item p method code j s ≡ Some after → IsTrimmedRow p method code j s
  trimmed_row j s after fit is = by_end (ends s.locals) where
    by_end : EndsLong s.locals ⊎ (trimmed s.locals ≡ s.locals) → IsTrimmedRow p method code j s
    by_end (inl (front, long)) =
        let count : length s.locals ≡ suc (length front) = let both = length-append front (slot.Long ∷ []) in ap length long ∙ omega (arith, both) in
        record {
          after = after;
          is = is;
          other = trimmed_state after;
          other_is = long_row j s front long (λ i there. subst (λ n. LocalsFit n i) count (fit i there)) ∙ ap (option_map trimmed_state) is;
          leaves = inl refl;
        }
    by_end (inr same) =
        let state_is : trimmed_state s ≡ s = λ k. record { locals = same k; stack = s.stack; built = s.built } in
        record { after = after; is = is; other = after; other_is = ap (after_item p method code j) state_is ∙ is; leaves = inr (refl, same) }

  module _ (states : List (Option TypeState)) where
    -- what fits a state fits it where it is trimmed, and so does what is trimmed
    risen : (j : ℕ) (brought : TypeState) → FitsAt p states j brought → FitsAt p (all_trimmed states) j brought
    risen j brought fit =
        let found = Some-from_some_and (state_at states j) (λ s. state_fits p.outline brought s ≡ true) fit in
        IsSomeAnd-from_some (state_at (all_trimmed states) j) (λ s. state_fits p.outline brought s ≡ true) (trimmed_state found.0)
        (trimmed_at states j ∙ ap (option_map trimmed_state) found.1) (state_risen p.outline tree brought found.0 found.2)

    kept : (j : ℕ) (brought : TypeState) → FitsAt p states j brought → FitsAt p (all_trimmed states) j (trimmed_state brought)
    kept j brought fit =
        let found = Some-from_some_and (state_at states j) (λ s. state_fits p.outline brought s ≡ true) fit in
        IsSomeAnd-from_some (state_at (all_trimmed states) j) (λ s. state_fits p.outline (trimmed_state brought) s ≡ true) (trimmed_state found.0)
        (trimmed_at states j ∙ ap (option_map trimmed_state) found.1) (state_kept p.outline tree brought found.0 found.2)

    either_kept : (j : ℕ) (s after other : TypeState) → (other ≡ trimmed_state after) ⊎ ((other ≡ after) × (trimmed s.locals ≡ s.locals))
        → FitsAt p states j after → FitsAt p (all_trimmed states) j other
    either_kept j s after other (inl is) fit = subst (FitsAt p (all_trimmed states) j) (sym is) (kept j after fit)
    either_kept j s after other (inr (is, same)) fit = subst (FitsAt p (all_trimmed states) j) (sym is) (risen j after fit)

    handler_kept : (j : ℕ) (s : TypeState) (h : Handler) → FitsHandler p method states j s h → FitsHandler p method (all_trimmed states) j (trimmed_state s) h
    handler_kept j s h fit catches =
        let found = Some-from_some_and (caught_type p method h) (λ caught. FitsAt p states h.handler (handler_state caught s)) (fit catches) in
        IsSomeAnd-from_some (caught_type p method h) (λ caught. FitsAt p (all_trimmed states) h.handler (handler_state caught (trimmed_state s))) found.0 found.1
        (kept h.handler (handler_state found.0 s) found.2)

    meets_trimmed : (j : ℕ) (s : TypeState) → ((i : Insn) → insn_of code j ≡ Some i → LocalsFit code.max_locals i)
        → MeetsItem p method code states j s → MeetsItem p method code (all_trimmed states) j (trimmed_state s)
    meets_trimmed j s fit meets =
        let row = Some-from_some_and (after_item p method code j s) (λ after. (next : ℕ) → IsNormalEdge code j next → FitsAt p states next after) meets.row in
        let other = trimmed_row j s row.0 (λ i there. subst (λ n. LocalsFit n i) (sym meets.locals) (fit i there)) row.1 in
        let same : row.0 ≡ other.after = same_value (after_item p method code j s) row.0 other.after row.1 other.is in
        record {
          locals = length_trimmed s.locals ∙ meets.locals;
          stack = meets.stack;
          whole = meets.whole;
          row = IsSomeAnd-from_some (after_item p method code j (trimmed_state s))
              (λ after. (next : ℕ) → IsNormalEdge code j next → FitsAt p (all_trimmed states) next after) other.other other.other_is
              (λ next edge. either_kept next s other.after other.other other.leaves (subst (FitsAt p states next) same (row.2 next edge)));
          handlers = AllByRecursion-weaker (FitsHandler p method states j s) (FitsHandler p method (all_trimmed states) j (trimmed_state s))
              (handler_kept j s) code.handlers meets.handlers;
        }

-- the locals of each item's instruction
pub locals_at : (code : Code) → AllByRecursion (λ (item : Item). LocalsFit code.max_locals item.insn) code.items
    → (j : ℕ) (i : Insn) → insn_of code j ≡ Some i → LocalsFit code.max_locals i
locals_at code all j i is = by_place code.items all j is where
  by_place : (items : List Item) → AllByRecursion (λ (item : Item). LocalsFit code.max_locals item.insn) items → (k : ℕ)
      → option_map (λ (item : Item). item.insn) (slice_get items k) ≡ Some i → LocalsFit code.max_locals i
  by_place [] all k there = absurd (none-some i there)
  by_place (item ∷ items) all zero there = subst (LocalsFit code.max_locals) (same_Some item.insn i there) all.0
  by_place (item ∷ items) all (suc k) there = by_place items all.1 k there

pub typings_trimmed : (p : Program) → AreTree p.outline.classes → (method : ℕ) (code : Code) (states : List (Option TypeState))
    → AllByRecursion (λ (item : Item). LocalsFit code.max_locals item.insn) code.items
    → IsTypingOf p method code states → IsTypingOf p method code (all_trimmed states)
typings_trimmed p tree method code states fit typing = record {
  one_each = length-map states (option_map trimmed_state) ∙ typing.one_each;
  reachable = λ j.
      let same : is_some (state_at (all_trimmed states) j) ≡ is_some (state_at states j) = ap is_some (trimmed_at states j) ∙ still_some (state_at states j) in
      let both = typing.reachable j in
      ((λ there. both.0 (sym same ∙ there)), (λ reached. same ∙ both.1 reached));
  stays_inside = typing.stays_inside;
  first = trimmed_at states 0 ∙ ap (option_map trimmed_state) typing.first ∙ ap Some (entry_stays p.outline method code);
  items = λ j t there.
      let found = option_map-some trimmed_state (state_at states j) t (sym (trimmed_at states j) ∙ there) in
      subst (MeetsItem p method code (all_trimmed states) j) found.2
      (meets_trimmed p tree method code states j found.0 (locals_at code fit j) (typing.items j found.0 found.1));
} where
  still_some : (o : Option TypeState) → is_some (option_map trimmed_state o) ≡ is_some o
  still_some None = refl
  still_some (Some s) = refl
