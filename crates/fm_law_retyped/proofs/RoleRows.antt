-- Each item of code with insertions meets its row at the state written out, and what it brings fits the states of those that follow.
use Rattle.std.proofs.Common.{◌≡◌, refl, sym, ◌∙◌, ap, subst, ℕ, suc, ◌+◌, ◌<◌, ◌≤◌, ◌⊎◌, inl, inr, Bool, true, false, cond, List, [], ◌∷◌, ◌++◌, length, map, set, Option, Some, None, is_some, option_and_then, option_map, IsSomeAnd, Contains, arith}
use Rattle.std.specs.Prelude.{if◌then◌else◌, nat_lt, slice_get}
use Rattle.std.specs.List.{AllZip}
use Rattle.std.proofs.lemmas.Bool.{cases_lt, le-ltb}
use Rattle.std.proofs.lemmas.List.{length-map, set-get_or}
use Rattle.std.proofs.lemmas.List.Elements.{length_all_zip}
use Rattle.std.proofs.lemmas.Option.{none-some}
use Rattle.fm_base.proofs.OptionFacts.{IsSomeAnd-from_some, IsSomeAnd-weaker, Some-from_some_and}
use Rattle.fm_base.specs.declared.kinds.TypeRef.{TypeRef}
use Rattle.fm_chain.specs.Chained.{looped_at}
use Rattle.fm_code.proofs.EdgesLemmas.{insn_inside}
use Rattle.fm_code.specs.Edges.{falls_through, insn_of, IsNormalEdge, LeadsTo}
use Rattle.fm_code.specs.SpellsCode.{LocalsFit, targets_of}
use Rattle.fm_code.specs.declared.instructions.Insn.{Insn}
use Rattle.fm_code.specs.declared.instructions.Insn.TheVariants as insn
use Rattle.fm_code.specs.declared.operations.Reg.TheVariants as reg
use Rattle.fm_law_relinked.proofs.FitsBlind.{states_fit}
use Rattle.fm_law_relinked.proofs.RowsBlind.{rows_blind}
use Rattle.fm_law_relinked.proofs.RowSteps.{whole_with}
use Rattle.fm_law_relinked.specs.Rows.{slot_with}
use Rattle.fm_law_woven_flow.specs.Roles.{behind_dup, DupAfter, FallsAt, Follows, FreeBefore, GoesOn, GoesTo, HasInsn, IsOpposite, IsRetargeted, IsEntry, JumpOf, Keep, LinkAfter, LoadAfter, LoadBefore, NullBefore, Role, StartNull, StartStore, StoreAfter, StoreBefore}
use Rattle.fm_check_walk.proofs.MergingLemmas.{built-refl, fits-from, fits-parts, state-refl, state-trans}
use Rattle.fm_place.proofs.SameTypings.{made_by}
use Rattle.fm_place.specs.Insertions.{after_at}
use Rattle.fm_place.specs.Woven.{local_of}
use Rattle.fm_law_retyped.proofs.HolderRows.{holder_loaded, holder_stored}
use Rattle.fm_law_retyped.proofs.KeptRows.{IsSameRow, same_row}
use Rattle.fm_law_retyped.proofs.RoleStates.{begun, CanRetype, given_slot, held_slot, held_slots, IsHeld, kept_state, Retyping, role_state, start_state, state_after}
use Rattle.fm_law_retyped.proofs.SlotLists.{begun_all, begun_count, begun_more, begun_short, entry_same, held_count, held_is, held_nulled, held_ready, held_short, no_insn, trimmed_still}
use Rattle.fm_law_retyped.proofs.Trims.{locals_at}
use Rattle.fm_law_retyped.proofs.Trimmed.{trimmed}
use Rattle.fm_types.proofs.Order.{fits-refl}
use Rattle.fm_types.proofs.RowOrder.{rows-keep_whole}
use Rattle.fm_types.proofs.StateOrder.{all_fit-from, Fitting}
use Rattle.fm_types.proofs.Zips.{zip-append, zip-refl}
use Rattle.fm_types.specs.Moves.{moved}
use Rattle.fm_types.specs.NumberRows.{load_row, move_row, store_row}
use Rattle.fm_types.specs.Rows.{row_after}
use Rattle.fm_types.specs.States.{is_reference, is_whole, pushed, state_fits, TypeState}
use Rattle.fm_types.specs.Typed.{after_item, entry_state, FitsAt, made_at, MeetsItem, state_at, use_by}
use Rattle.fm_types.specs.declared.slots.Slot.{Slot}
use Rattle.fm_types.specs.declared.slots.Slot.TheVariants as slot
use Rattle.fm_world.specs.Programs.{Outline}

module _ (w : Retyping) (f : CanRetype w) where
  abbrev o : Outline
  o = w.given.outline

  abbrev slots : List Slot
  slots = held_slots w.types

  abbrev kept : TypeState → TypeState
  kept s = kept_state w s

  abbrev own : TypeState → List Slot
  own s = map (slot_with w.numbers) s.locals

  abbrev pub Fits : Role → TypeState → Type 0
  Fits to brought = IsSomeAnd (role_state w to) (λ s. state_fits o brought s ≡ true)

  same_fits : (xs : List Slot) → AllZip (Fitting o) xs xs
  same_fits xs = zip-refl (Fitting o) (fits-refl o f.tree) xs

  -- ---- fits

  kept_fits : (a b : TypeState) → state_fits o a b ≡ true → state_fits o (kept a) (kept b) ≡ true
  kept_fits a b fit = states_fit w.numbers slots slots f.stands.apart o a b fit (all_fit-from o slots slots (same_fits slots))

  below : (to : Role) (a b : TypeState) → state_fits o a b ≡ true → Fits to b → Fits to a
  below to a b fit there =
      IsSomeAnd-weaker (role_state w to) (λ s. state_fits o b s ≡ true) (λ s. state_fits o a s ≡ true) (λ s is. state-trans o f.tree a b s fit is) there

  same_at : (to : Role) (s : TypeState) → role_state w to ≡ Some s → Fits to s
  same_at to s is = IsSomeAnd-from_some (role_state w to) (λ t. state_fits o s t ≡ true) s is (state-refl o f.tree s)

  pub entered : (j : ℕ) (brought : TypeState) (to : Role) → IsEntry w.code j to → FitsAt w.given w.states j brought → Fits to (kept brought)
  entered j brought to (inside, entry) there = by_entry entry where
    at : IsSomeAnd (option_map kept (state_at w.states j)) (λ s. state_fits o (kept brought) s ≡ true)
    at =
        let found = Some-from_some_and (state_at w.states j) (λ s. state_fits o brought s ≡ true) there in
        IsSomeAnd-from_some (option_map kept (state_at w.states j)) (λ s. state_fits o (kept brought) s ≡ true) (kept found.0)
        (ap (option_map kept) found.1) (kept_fits brought found.0 found.2)

    by_entry : ((h : ℕ) × (to ≡ LoadBefore j h)) ⊎ (to ≡ Keep j) → Fits to (kept brought)
    by_entry (inl (h, is)) = subst (λ r. Fits r (kept brought)) (sym is) at
    by_entry (inr is) = subst (λ r. Fits r (kept brought)) (sym is) at

  -- ---- old items

  -- what is known of an old item: its state, its row, and what it leads to
  pub record Old (j : ℕ) : Type 0 where
    pub s : TypeState
    pub at : state_at w.states j ≡ Some s
    pub meets : MeetsItem w.given w.method w.code w.states j s
    pub after : TypeState
    pub after_is : after_item w.given w.method w.code j s ≡ Some after
    each : (next : ℕ) → IsNormalEdge w.code j next → FitsAt w.given w.states next after

  pub old_at : (j : ℕ) (s : TypeState) → state_at w.states j ≡ Some s → Old j
  old_at j s at =
      let meets = f.typing.items j s at in
      let row = Some-from_some_and (after_item w.given w.method w.code j s)
      (λ after. (next : ℕ) → IsNormalEdge w.code j next → FitsAt w.given w.states next after) meets.row in
      record { s = s; at = at; meets = meets; after = row.0; after_is = row.1; each = row.2 }

  pub old_state : (j : ℕ) (s : TypeState) (at : state_at w.states j ≡ Some s) → (old_at j s at).s ≡ s
  unfolding old_at
  old_state j s at = refl

  pub state_after_is : (j : ℕ) (x : Old j) → state_after w j ≡ Some x.after
  state_after_is j x = ap (option_and_then (after_item w.given w.method w.code j)) x.at ∙ x.after_is

  fits_itself : (j : ℕ) (x : Old j) → FitsAt w.given w.states j x.s
  fits_itself j x = IsSomeAnd-from_some (state_at w.states j) (λ s. state_fits o x.s s ≡ true) x.s x.at (state-refl o f.tree x.s)

  edge_on : (j : ℕ) → FallsAt w.code j → j + 1 < length w.code.items → IsNormalEdge w.code j (j + 1)
  edge_on j falls inside = record {
    inside = inside;
    leads = IsSomeAnd-weaker (insn_of w.code j) (λ i. falls_through i ≡ true) (λ i. LeadsTo i j (j + 1)) (λ i is. inr (is, refl)) falls;
  }

  goes_on : (j : ℕ) (x : Old j) (to : Role) → FallsAt w.code j → GoesOn w.code j to → Fits to (kept x.after)
  goes_on j x to falls (inl (h, is)) =
      subst (λ r. Fits r (kept x.after)) (sym is) (same_at (DupAfter j h) (kept x.after) (ap (option_map kept) (state_after_is j x)))
  goes_on j x to falls (inr entry) = entered (j + 1) x.after to entry (x.each (j + 1) (edge_on j falls entry.0))

  goes_to : (j : ℕ) (x : Old j) (to : Role) → GoesTo w.code j to → Fits to (kept x.after)
  goes_to j x to there =
      let found = Some-from_some_and (insn_of w.code j) (λ i. (t : ℕ) × (Contains (targets_of i) t) × IsEntry w.code t to) there in
      let entry : IsEntry w.code found.2.0 to = found.2.2 in
      let edge : IsNormalEdge w.code j found.2.0 = record {
        inside = entry.0;
        leads = IsSomeAnd-from_some (insn_of w.code j) (λ i. LeadsTo i j found.2.0) found.0 found.1 (inl found.2.1);
      } in
      entered found.2.0 x.after to entry (x.each found.2.0 edge)

  -- what an item leaves is whole, and no longer than the stack may be where control goes on
  pub after_whole : (j : ℕ) (x : Old j) → is_whole x.after.stack ≡ true
  after_whole j x = by_insn (insn_of w.code j) x.after_is where
    by_insn : (found : Option Insn)
        → option_and_then (λ i. row_after o w.method j (made_at w.given w.method w.code) (use_by w.given w.method i) i x.s) found ≡ Some x.after
        → is_whole x.after.stack ≡ true
    by_insn None is = absurd (none-some x.after is)
    by_insn (Some i) is =
        rows-keep_whole o f.tree w.method j (made_at w.given w.method w.code) (use_by w.given w.method i) i x.s x.after x.meets.whole is

  inside_of : (j : ℕ) (x : Old j) → FallsAt w.code j → j + 1 < length w.code.items
  inside_of j x falls = by_place (cases_lt (j + 1) (length w.code.items)) where
    by_place : (j + 1 < length w.code.items) ⊎ (length w.code.items ≤ j + 1) → j + 1 < length w.code.items
    by_place (inl inside) = inside
    by_place (inr past) =
        let there : is_some (state_at w.states j) ≡ true = ap is_some x.at in
        let within : j < length w.code.items = (let found = Some-from_some_and (insn_of w.code j) (λ i. falls_through i ≡ true) falls in insn_inside w.code j found.0 found.1) in
        absurd (f.typing.stays_inside (record {
          item = j;
          reachable = (f.typing.reachable j).0 there;
          last = omega (arith, past, within);
          falls = falls;
        }))

  -- the next item, where control goes on to it
  pub next_old : (j : ℕ) (x : Old j) → FallsAt w.code j → (y : Old (j + 1)) × (state_fits o x.after y.s ≡ true)
  next_old j x falls =
      let next = Some-from_some_and (state_at w.states (j + 1)) (λ s. state_fits o x.after s ≡ true)
      (x.each (j + 1) (edge_on j falls (inside_of j x falls))) in
      (old_at (j + 1) next.0 next.1, subst (λ s. state_fits o x.after s ≡ true) (sym (old_state (j + 1) next.0 next.1)) next.2)

  pub after_small : (j : ℕ) (x : Old j) → FallsAt w.code j → length x.after.stack ≤ w.code.max_stack
  after_small j x falls =
      let inside = inside_of j x falls in
      let next = Some-from_some_and (state_at w.states (j + 1)) (λ s. state_fits o x.after s ≡ true) (x.each (j + 1) (edge_on j falls inside)) in
      let parts = fits-parts o x.after next.0 next.2 in
      let same = length_all_zip (Fitting o) x.after.stack next.0.stack parts.stack in
      let small = (f.typing.items (j + 1) next.0 next.1).stack in
      omega (arith, same, small)

  -- ---- rows of the woven code

  woven_row : (n : ℕ) (i : Insn) (s : TypeState) → insn_of w.woven n ≡ Some i
      → after_item w.written w.method w.woven n s
      ≡ row_after o w.method n (made_at w.written w.method w.woven) (use_by w.written w.method i) i s
  woven_row n i s is =
      ap (option_and_then (λ x. row_after w.written.outline w.method n (made_at w.written w.method w.woven) (use_by w.written w.method x) x s)) is
      ∙ (λ k. row_after (f.outline k) w.method n (made_at w.written w.method w.woven) (use_by w.written w.method i) i s)

  null_row : (n : ℕ) (i : Insn) (s : TypeState) → insn_of w.woven n ≡ Some i → i ≡ insn.Null
      → after_item w.written w.method w.woven n s ≡ Some (pushed (slot.Null ∷ []) s)
  unfolding row_after
  null_row n i s is null = woven_row n insn.Null s (is ∙ ap Some null)

  dup_row : (n : ℕ) (i : Insn) (s : TypeState) → insn_of w.woven n ≡ Some i → i ≡ insn.Dup
      → after_item w.written w.method w.woven n s ≡ move_row insn.Dup s
  unfolding row_after
  dup_row n i s is dup = woven_row n insn.Dup s (is ∙ ap Some dup)

  store_at : (n k : ℕ) (i : Insn) (s : TypeState) → insn_of w.woven n ≡ Some i → i ≡ insn.Store reg.Ref k
      → after_item w.written w.method w.woven n s ≡ store_row o reg.Ref k s
  unfolding row_after
  store_at n k i s is store = woven_row n (insn.Store reg.Ref k) s (is ∙ ap Some store)

  load_at : (n k : ℕ) (i : Insn) (s : TypeState) → insn_of w.woven n ≡ Some i → i ≡ insn.Load reg.Ref k
      → after_item w.written w.method w.woven n s ≡ load_row reg.Ref k s
  unfolding row_after
  load_at n k i s is load = woven_row n (insn.Load reg.Ref k) s (is ∙ ap Some load)

  jump_row : (n t : ℕ) (i : Insn) (s : TypeState) → insn_of w.woven n ≡ Some i → i ≡ insn.Goto t
      → after_item w.written w.method w.woven n s ≡ Some s
  unfolding row_after
  jump_row n t i s is jump = woven_row n (insn.Goto t) s (is ∙ ap Some jump)

  -- an item leads on
  pub record Goes (n : ℕ) (r : Role) (s : TypeState) : Type 0 where
    pub after : TypeState
    pub is : after_item w.written w.method w.woven n s ≡ Some after
    pub each : (to : Role) → Follows w.code w.plan r to → Fits to after

  -- ---- the start

  entry : TypeState
  entry = entry_state o w.method w.code

  pub entry_count : length (entry_state o w.method w.code).locals ≡ w.code.max_locals
  entry_count = (f.typing.items 0 (entry_state o w.method w.code) f.typing.first).locals

  pub start_null : (n h : ℕ) (i : Insn) → insn_of w.woven n ≡ Some i → i ≡ insn.Null → Goes n (StartNull h) (start_state w h [])
  start_null n h i is null = record {
    after = start_state w h (slot.Null ∷ []);
    is = null_row n i (start_state w h []) is null;
    each = λ to follows. subst (λ r. Fits r (start_state w h (slot.Null ∷ []))) (sym follows) (same_at (StartStore h) (start_state w h (slot.Null ∷ [])) refl);
  }

  abbrev started : ℕ → TypeState
  started h = record {
    locals = (entry_state o w.method w.code).locals ++ set (begun h w.types) h slot.Null;
    stack = [];
    built = (entry_state o w.method w.code).built;
  }

  started_row : (n h : ℕ) (i : Insn) → h < length w.plan.holders → insn_of w.woven n ≡ Some i → i ≡ insn.Store reg.Ref (local_of w.code h)
      → after_item w.written w.method w.woven n (start_state w h (slot.Null ∷ [])) ≡ Some (started h)
  started_row n h i within is store =
      let e = entry_state o w.method w.code in
      let count = begun_count h w.types in
      let all = f.counted in
      store_at n (local_of w.code h) i (start_state w h (slot.Null ∷ [])) is store
      ∙ ap (λ m. store_row o reg.Ref (m + h) (start_state w h (slot.Null ∷ []))) (sym entry_count)
      ∙ holder_stored e.locals (begun h w.types) o h slot.Null [] e.built (f.short 0 e f.typing.first) (begun_short h w.types)
      (omega (arith, within, count, all)) refl

  started_next : (h : ℕ) → h < length w.plan.holders → state_fits o (started h) (start_state w (suc h) []) ≡ true
  started_next h within =
      let e = entry_state o w.method w.code in
      let all = f.counted in
      fits-from o (started h) (start_state w (suc h) [])
      (record {
        locals = zip-append (Fitting o) e.locals e.locals (set (begun h w.types) h slot.Null) (begun (suc h) w.types) (same_fits e.locals)
            (begun_more o f.tree h w.types (omega (arith, within, all)));
        stack = tt;
        built = built-refl e.built;
      })

  -- once all holders are null the state is that of the first item
  all_started : (h : ℕ) → h + 1 ≡ length w.plan.holders → start_state w (suc h) [] ≡ kept (entry_state o w.method w.code)
  unfolding entry_state
  all_started h is =
      let e = entry_state o w.method w.code in
      let all = f.counted in
      let holders : begun (suc h) w.types ≡ slots = begun_all (suc h) w.types (omega (arith, is, all)) in
      let locals : e.locals ≡ map (slot_with w.numbers) e.locals = sym (entry_same w.numbers o w.method w.code) in
      λ k. record { locals = locals k ++ holders k; stack = []; built = e.built }

  pub start_store : (n h : ℕ) (i : Insn) → h < length w.plan.holders → insn_of w.woven n ≡ Some i → i ≡ insn.Store reg.Ref (local_of w.code h)
      → Goes n (StartStore h) (start_state w h (slot.Null ∷ []))
  start_store n h i within is store = record { after = started h; is = started_row n h i within is store; each = each } where
    next : (to : Role) (s : TypeState) → start_state w (suc h) [] ≡ s → Fits to s → Fits to (started h)
    next to s same there =
        below to (started h) s (subst (λ t. state_fits o (started h) t ≡ true) same (started_next h within)) there

    each : (to : Role) → Follows w.code w.plan (StartStore h) to → Fits to (started h)
    each to (inl more) =
        let number : h + 1 ≡ suc h = omega arith in
        next to (start_state w (suc h) []) refl
        (subst (λ r. Fits r (start_state w (suc h) [])) (sym (more ∙ ap StartNull number)) (same_at (StartNull (suc h)) (start_state w (suc h) []) refl))
    each to (inr (last, first)) =
        let e = entry_state o w.method w.code in
        let there : FitsAt w.given w.states 0 e =
        IsSomeAnd-from_some (state_at w.states 0) (λ s. state_fits o e s ≡ true) e f.typing.first (state-refl o f.tree e) in
        next to (kept e) (all_started h last) (entered 0 e to first there)

  -- ---- before an item

  own_count : (j : ℕ) (x : Old j) → length (own x.s) ≡ w.code.max_locals
  own_count j x = length-map x.s.locals (slot_with w.numbers) ∙ x.meets.locals

  held_within : (h : ℕ) → h < length w.plan.holders → h < length slots
  held_within h within = let count = held_count w.types in let all = f.counted in omega (arith, within, count, all)

  pub held_type : (h : ℕ) → h < length w.plan.holders → (t : TypeRef) × (held_slot w h ≡ slot.Ref t)
  held_type h within = let all = f.counted in held_is w.types h (omega (arith, within, all))

  held_refers : (h : ℕ) → h < length w.plan.holders → is_reference (held_slot w h) ≡ true
  held_refers h within = ap is_reference (held_type h within).1

  pub given_type : (h : ℕ) → h < length w.plan.holders → (t : TypeRef) × (given_slot w h ≡ slot.Ref t)
  given_type h within = let all = f.given_counted in held_is w.gives h (omega (arith, within, all))

  pub load_before : (n j h : ℕ) (x : Old j) (i : Insn) → h < length w.plan.holders → insn_of w.woven n ≡ Some i
      → i ≡ insn.Load reg.Ref (local_of w.code h) → Goes n (LoadBefore j h) (kept x.s)
  load_before n j h x i within is load = record {
    after = pushed (held_slot w h ∷ []) (kept x.s);
    is =
        load_at n (local_of w.code h) i (kept x.s) is load ∙ ap (λ m. load_row reg.Ref (m + h) (kept x.s)) (sym (own_count j x))
        ∙ holder_loaded (own x.s) slots h (map (slot_with w.numbers) x.s.stack) x.s.built (held_within h within) (held_refers h within);
    each = λ to follows. subst (λ r. Fits r (pushed (held_slot w h ∷ []) (kept x.s))) (sym follows)
        (same_at (FreeBefore j h) (pushed (held_slot w h ∷ []) (kept x.s)) (ap (option_map (λ s. pushed (held_slot w h ∷ []) (kept s))) x.at));
  }

  -- the entry of the method that frees what a holder holds
  abbrev free_call : ℕ → ℕ
  free_call h = if looped_at w.plan h then w.calls.free_chain else w.calls.free

  pub free_before : (n j h : ℕ) (x : Old j) (i : Insn) → slice_get w.roles n ≡ Some (FreeBefore j h) → h < length w.plan.holders → insn_of w.woven n ≡ Some i → i ≡ insn.Static (free_call h)
      → Goes n (FreeBefore j h) (pushed (held_slot w h ∷ []) (kept x.s))
  free_before n j h x i there within is call = record {
    after = kept x.s;
    is =
        let t = held_type h within in
        woven_row n (insn.Static (free_call h)) (pushed (held_slot w h ∷ []) (kept x.s)) (is ∙ ap Some call)
        ∙ ap (λ a. row_after o w.method n (made_at w.written w.method w.woven) (use_by w.written w.method (insn.Static (free_call h))) (insn.Static (free_call h))
        (pushed (a ∷ []) (kept x.s))) t.1
        ∙ f.frees n j h there n (made_at w.written w.method w.woven) t.0 (kept x.s);
    each = λ to follows. subst (λ r. Fits r (kept x.s)) (sym follows) (same_at (NullBefore j h) (kept x.s) (ap (option_map kept) x.at));
  }

  pub null_before : (n j h : ℕ) (x : Old j) (i : Insn) → insn_of w.woven n ≡ Some i → i ≡ insn.Null → Goes n (NullBefore j h) (kept x.s)
  null_before n j h x i is null = record {
    after = pushed (slot.Null ∷ []) (kept x.s);
    is = null_row n i (kept x.s) is null;
    each = λ to follows. subst (λ r. Fits r (pushed (slot.Null ∷ []) (kept x.s))) (sym follows)
        (same_at (StoreBefore j h) (pushed (slot.Null ∷ []) (kept x.s)) (ap (option_map (λ s. pushed (slot.Null ∷ []) (kept s))) x.at));
  }

  own_short : (j : ℕ) (x : Old j) → trimmed (own x.s) ≡ own x.s
  own_short j x = trimmed_still w.numbers x.s.locals (f.short j x.s x.at)

  pub store_before : (n j h : ℕ) (x : Old j) (i : Insn) → h < length w.plan.holders → insn_of w.woven n ≡ Some i
      → i ≡ insn.Store reg.Ref (local_of w.code h) → Goes n (StoreBefore j h) (pushed (slot.Null ∷ []) (kept x.s))
  store_before n j h x i within is store = record { after = after; is = row; each = each } where
    after : TypeState
    after = record { locals = own x.s ++ set slots h slot.Null; stack = map (slot_with w.numbers) x.s.stack; built = x.s.built }

    row : after_item w.written w.method w.woven n (pushed (slot.Null ∷ []) (kept x.s)) ≡ Some after
    row =
        store_at n (local_of w.code h) i (pushed (slot.Null ∷ []) (kept x.s)) is store
        ∙ ap (λ m. store_row o reg.Ref (m + h) (pushed (slot.Null ∷ []) (kept x.s))) (sym (own_count j x))
        ∙ holder_stored (own x.s) slots o h slot.Null (map (slot_with w.numbers) x.s.stack) x.s.built (own_short j x) (held_short w.types)
        (held_within h within) refl

    fit : state_fits o after (kept x.s) ≡ true
    fit =
        let all = f.counted in
        fits-from o after (kept x.s)
        (record {
          locals = zip-append (Fitting o) (own x.s) (own x.s) (set slots h slot.Null) slots (same_fits (own x.s))
              (held_nulled o f.tree h w.types (omega (arith, within, all)));
          stack = same_fits (map (slot_with w.numbers) x.s.stack);
          built = built-refl x.s.built;
        })

    each : (to : Role) → Follows w.code w.plan (StoreBefore j h) to → Fits to after
    each to entry = below to after (kept x.s) fit (entered j x.s to entry (fits_itself j x))

  -- ---- an old item

  -- the types that each `new` makes
  same_news : (j : ℕ) → made_at w.written w.method w.woven (w.numbers j) ≡ made_at w.given w.method w.code j
  same_news j = by_place (cases_lt j (length w.code.items)) where
    by_place : (j < length w.code.items) ⊎ (length w.code.items ≤ j)
        → option_and_then (made_by w.written w.method) (insn_of w.woven (w.numbers j)) ≡ option_and_then (made_by w.given w.method) (insn_of w.code j)
    by_place (inl within) =
        let at = f.stands.numbered j within in
        let new = Some-from_some_and (insn_of w.woven (w.numbers j)) (HasInsn w.calls w.code w.plan (Keep j)) (f.stands.insns (w.numbers j) (Keep j) at) in
        let old = Some-from_some_and (insn_of w.code j) (λ i. IsRetargeted i new.0 ⊎ IsOpposite i new.0) new.2 in
        ap (option_and_then (made_by w.written w.method)) new.1 ∙ (same_row old.0 new.0 old.2).made w.written w.method ∙ f.made j old.0 old.1
        ∙ sym (ap (option_and_then (made_by w.given w.method)) old.1)
    by_place (inr past) =
        ap (option_and_then (made_by w.written w.method)) (no_insn w.woven (w.numbers j) (f.stands.beyond j past))
        ∙ sym (ap (option_and_then (made_by w.given w.method)) (no_insn w.code j past))

  keep_row : (n j : ℕ) (x : Old j) (old new : Insn) → n ≡ w.numbers j → insn_of w.code j ≡ Some old → insn_of w.woven n ≡ Some new → IsSameRow old new
      → after_item w.written w.method w.woven n (kept x.s) ≡ Some (kept x.after)
  keep_row n j x old new number is new_is same =
      let m = w.method in
      let news = made_at w.given m w.code in
      let others = made_at w.written m w.woven in
      let u = use_by w.given m old in
      let fit : LocalsFit (length x.s.locals) old = subst (λ k. LocalsFit k old) (sym x.meets.locals) (locals_at w.code f.fit j old is) in
      woven_row n new (kept x.s) new_is ∙ same.row o m n others (use_by w.written m new) (kept x.s)
      ∙ ap (λ v. row_after o m n others v old (kept x.s)) (same.used w.written m ∙ f.uses j old x.s is x.at)
      ∙ ap (λ k. row_after o m k others u old (kept x.s)) number
      ∙ rows_blind w.numbers slots f.stands.apart (held_ready w.types) o m j news others same_news u old x.s fit
      ∙ ap (option_map kept) (sym (ap (option_and_then (λ i. row_after o m j news (use_by w.given m i) i x.s)) is) ∙ x.after_is)

  pub keep : (n j : ℕ) (x : Old j) (new : Insn) → n ≡ w.numbers j → insn_of w.woven n ≡ Some new → HasInsn w.calls w.code w.plan (Keep j) new → Goes n (Keep j) (kept x.s)
  keep n j x new number new_is has =
      let old = Some-from_some_and (insn_of w.code j) (λ i. IsRetargeted i new ⊎ IsOpposite i new) has in
      record { after = kept x.after; is = keep_row n j x old.0 new number old.1 new_is (same_row old.0 new old.2); each = each } where
        each : (to : Role) → Follows w.code w.plan (Keep j) to → Fits to (kept x.after)
        each to (inl there) = goes_to j x to there
        each to (inr (inl jump)) =
            subst (λ r. Fits r (kept x.after)) (sym jump) (same_at (JumpOf j) (kept x.after) (ap (option_map kept) (state_after_is j x)))
        each to (inr (inr (falls, on))) = goes_on j x to falls on

  pub jump_of : (n j : ℕ) (x : Old j) (new : Insn) → insn_of w.woven n ≡ Some new → HasInsn w.calls w.code w.plan (JumpOf j) new → Goes n (JumpOf j) (kept x.after)
  jump_of n j x new new_is has = record {
    after = kept x.after;
    is = jump_row n has.1.target new (kept x.after) new_is has.1.is;
    each = λ to there. goes_to j x to there;
  }

  -- ---- after an item

  pub held_at : (j h : ℕ) (x : Old j) → Contains (after_at w.plan j) h → IsHeld w j h x.s x.after
  held_at j h x there = f.held j h x.s x.after there x.at x.after_is

  -- what it leaves has the holder's object on top
  top_is : (j h : ℕ) (x : Old j) → h < length w.plan.holders → (a : IsHeld w j h x.s x.after)
      → map (slot_with w.numbers) x.after.stack ≡ given_slot w h ∷ map (slot_with w.numbers) a.rest
  top_is j h x within a =
      let t = given_type h within in
      ap (map (slot_with w.numbers)) a.top
      ∙ ap (λ s. s ∷ map (slot_with w.numbers) a.rest) (ap (slot_with w.numbers) t.1 ∙ sym t.1)

  abbrev whole_only : TypeState → List Slot → Option TypeState
  whole_only s stack = cond (is_whole stack) (Some (record s { stack = stack })) None

  dup_of : (t : TypeRef) (s : TypeState) (rest : List Slot) → s.stack ≡ slot.Ref t ∷ rest → is_whole s.stack ≡ true
      → move_row insn.Dup s ≡ Some (pushed (slot.Ref t ∷ []) s)
  unfolding move_row
  dup_of t s rest is whole =
      let room : nat_lt (length (slot.Ref t ∷ rest)) 1 ≡ false = le-ltb (length (slot.Ref t ∷ rest)) 1 (omega arith) in
      let all : is_whole (slot.Ref t ∷ slot.Ref t ∷ rest) ≡ true = ap is_whole (sym is) ∙ whole in
      ap (λ l. option_and_then (whole_only s) (moved (record { takes = 1; gives = 0 ∷ 0 ∷ [] }) l)) is
      ∙ ap (λ b. option_and_then (whole_only s) (cond b None (Some (slot.Ref t ∷ slot.Ref t ∷ rest)))) room
      ∙ ap (λ b. cond b (Some (record s { stack = slot.Ref t ∷ slot.Ref t ∷ rest })) None) all
      ∙ ap (λ l. Some (record s { stack = slot.Ref t ∷ l })) (sym is)

  -- what follows a dup, by whether the holder holds a chain
  behind_dup_fits : (j h : ℕ) (x : Old j) → h < length w.plan.holders → (b : Bool) → looped_at w.plan h ≡ b
      → Fits (behind_dup (looped_at w.plan h) j h) (pushed (given_slot w h ∷ []) (kept x.after))
  behind_dup_fits j h x within true is =
      subst (λ b. Fits (behind_dup b j h) (pushed (given_slot w h ∷ []) (kept x.after))) (sym is)
      (same_at (LoadAfter j h) (pushed (given_slot w h ∷ []) (kept x.after))
      (ap (option_map (λ s. pushed (given_slot w h ∷ []) (kept s))) (state_after_is j x)))
  behind_dup_fits j h x within false is =
      subst (λ b. Fits (behind_dup b j h) (pushed (given_slot w h ∷ []) (kept x.after))) (sym is)
      (subst (λ s. Fits (StoreAfter j h) (pushed (s ∷ []) (kept x.after))) (f.plain h within is)
      (same_at (StoreAfter j h) (pushed (held_slot w h ∷ []) (kept x.after))
      (ap (option_map (λ s. pushed (held_slot w h ∷ []) (kept s))) (state_after_is j x))))

  pub dup_after : (n j h : ℕ) (x : Old j) (i : Insn) → Contains (after_at w.plan j) h → insn_of w.woven n ≡ Some i → i ≡ insn.Dup
      → Goes n (DupAfter j h) (kept x.after)
  dup_after n j h x i there is dup =
      let within = f.after j h there in
      let t = given_type h within in
      let a = held_at j h x there in
      let top : map (slot_with w.numbers) x.after.stack ≡ slot.Ref t.0 ∷ map (slot_with w.numbers) a.rest =
      top_is j h x within a ∙ ap (λ s. s ∷ map (slot_with w.numbers) a.rest) t.1 in
      record {
        after = pushed (given_slot w h ∷ []) (kept x.after);
        is =
            dup_row n i (kept x.after) is dup
            ∙ dup_of t.0 (kept x.after) (map (slot_with w.numbers) a.rest) top (whole_with w.numbers x.after.stack ∙ after_whole j x)
            ∙ ap (λ s. Some (pushed (s ∷ []) (kept x.after))) (sym t.1);
        each = λ to follows. subst (λ r. Fits r (pushed (given_slot w h ∷ []) (kept x.after))) (sym follows) (behind_dup_fits j h x within (looped_at w.plan h) refl);
      }

  -- a holder of a chain has two words put on top, and what it had is loaded
  pub load_after : (n j h : ℕ) (x : Old j) (i : Insn) → Contains (after_at w.plan j) h → insn_of w.woven n ≡ Some i
      → i ≡ insn.Load reg.Ref (local_of w.code h) → Goes n (LoadAfter j h) (pushed (given_slot w h ∷ []) (kept x.after))
  load_after n j h x i there is load =
      let within = f.after j h there in
      let a = held_at j h x there in
      let count : length (own x.after) ≡ w.code.max_locals =
      length-map x.after.locals (slot_with w.numbers) ∙ a.count ∙ x.meets.locals in
      record {
        after = pushed (held_slot w h ∷ given_slot w h ∷ []) (kept x.after);
        is =
            load_at n (local_of w.code h) i (pushed (given_slot w h ∷ []) (kept x.after)) is load
            ∙ ap (λ m. load_row reg.Ref (m + h) (pushed (given_slot w h ∷ []) (kept x.after))) (sym count)
            ∙ holder_loaded (own x.after) slots h (given_slot w h ∷ map (slot_with w.numbers) x.after.stack) x.after.built (held_within h within)
            (held_refers h within);
        each = λ to follows. subst (λ r. Fits r (pushed (held_slot w h ∷ given_slot w h ∷ []) (kept x.after))) (sym follows)
            (same_at (LinkAfter j h) (pushed (held_slot w h ∷ given_slot w h ∷ []) (kept x.after))
            (ap (option_map (λ s. pushed (held_slot w h ∷ given_slot w h ∷ []) (kept s))) (state_after_is j x)));
      }

  -- and linked
  pub link_after : (n j h : ℕ) (x : Old j) (i : Insn) → slice_get w.roles n ≡ Some (LinkAfter j h) → Contains (after_at w.plan j) h → looped_at w.plan h ≡ true
      → insn_of w.woven n ≡ Some i → i ≡ insn.Static w.calls.link → Goes n (LinkAfter j h) (pushed (held_slot w h ∷ given_slot w h ∷ []) (kept x.after))
  link_after n j h x i at there looped is call =
      let within = f.after j h there in
      let held = held_type h within in
      let site = given_type h within in
      record {
        after = pushed (held_slot w h ∷ []) (kept x.after);
        is =
            woven_row n (insn.Static w.calls.link) (pushed (held_slot w h ∷ given_slot w h ∷ []) (kept x.after)) (is ∙ ap Some call)
            ∙ (λ k. row_after o w.method n (made_at w.written w.method w.woven) (use_by w.written w.method (insn.Static w.calls.link)) (insn.Static w.calls.link)
            (pushed (held.1 k ∷ site.1 k ∷ []) (kept x.after)))
            ∙ f.links n j h at n (made_at w.written w.method w.woven) held.0 site.0 (kept x.after)
            ∙ ap (λ s. Some (pushed (s ∷ []) (kept x.after))) (sym (f.chained h within looped));
        each = λ to follows. subst (λ r. Fits r (pushed (held_slot w h ∷ []) (kept x.after))) (sym follows)
            (same_at (StoreAfter j h) (pushed (held_slot w h ∷ []) (kept x.after))
            (ap (option_map (λ s. pushed (held_slot w h ∷ []) (kept s))) (state_after_is j x)));
      }

  pub store_after : (n j h : ℕ) (x : Old j) (i : Insn) → Contains (after_at w.plan j) h → insn_of w.woven n ≡ Some i
      → i ≡ insn.Store reg.Ref (local_of w.code h) → Goes n (StoreAfter j h) (pushed (held_slot w h ∷ []) (kept x.after))
  store_after n j h x i there is store =
      let within = f.after j h there in
      let a = held_at j h x there in
      let count : length (own x.after) ≡ w.code.max_locals =
      length-map x.after.locals (slot_with w.numbers) ∙ a.count ∙ x.meets.locals in
      let short : trimmed (own x.after) ≡ own x.after = trimmed_still w.numbers x.after.locals a.short in
      record {
        after = kept x.after;
        is =
            store_at n (local_of w.code h) i (pushed (held_slot w h ∷ []) (kept x.after)) is store
            ∙ ap (λ m. store_row o reg.Ref (m + h) (pushed (held_slot w h ∷ []) (kept x.after))) (sym count)
            ∙ holder_stored (own x.after) slots o h (held_slot w h) (map (slot_with w.numbers) x.after.stack) x.after.built short (held_short w.types)
            (held_within h within) (held_refers h within)
            ∙ ap (λ l. Some (record { locals = own x.after ++ l; stack = map (slot_with w.numbers) x.after.stack; built = x.after.built }))
            (set-get_or slots h slot.Top);
        each = λ to on. goes_on j x to (f.can.goes_on j h there) on;
      }
