-- Typed code with insertions is typed: the states written out, by what each item is for, are a
-- typing of it.
use Rattle.std.proofs.Common.{◌≡◌, refl, sym, ◌∙◌, ap, subst, ℕ, zero, suc, ◌+◌, ◌<◌, ◌≤◌, ◌⊎◌, ◌↔◌, inl, inr, Bool, true, false, List, [], ◌∷◌, ◌++◌, length, length-append, map, replicate, Option, Some, None, is_some, option_and_then, option_map, IsSomeAnd, Contains, ⊎_elim, arith}
use Rattle.std.specs.Prelude.{if◌then◌else◌, slice_get}
use Rattle.std.specs.List.{AllByRecursion}
use Rattle.std.proofs.lemmas.Bool.{false≢true}
use Rattle.std.proofs.lemmas.List.{get_or_past, length-map}
use Rattle.std.proofs.lemmas.Option.{get_or_from_slice_get, none-some, same_Some, slice_get-map, slice_get_within}
use Rattle.fm_base.proofs.OptionFacts.{IsSomeAnd-from_some, IsSomeAnd-weaker, option_map-some, same_value, Some-from_some_and}
use Rattle.fm_base.specs.declared.kinds.TypeRef.{TypeRef}
use Rattle.fm_chain.specs.Chained.{added_words, has_chain, looped_at}
use Rattle.fm_code.proofs.EdgesLemmas.{Contains-first, Contains-later}
use Rattle.fm_code.specs.Edges.{Catches, falls_through, insn_of, IsEdge, IsFlowPath, IsNormalEdge, IsReachable}
use Rattle.fm_code.specs.declared.code_array.Code.{Code}
use Rattle.fm_code.specs.declared.code_array.Handler.{Handler}
use Rattle.fm_code.specs.declared.instructions.Insn.{Insn}
use Rattle.fm_law_relinked.proofs.RowSteps.{whole_with}
use Rattle.fm_law_relinked.specs.Rows.{slot_with}
use Rattle.fm_check_walk.proofs.MergingLemmas.{fits-from, fits-parts, state-trans}
use Rattle.fm_law_spelled.proofs.Growing.{chain_in}
use Rattle.fm_law_woven_flow.proofs.LaidItems.{falls-conditional}
use Rattle.fm_law_woven_flow.specs.Roles.{DupAfter, FallsAt, Follows, FreeBefore, HasHolder, HasInsn, IsBranch, IsEntry, IsOwnerReached, JumpOf, Keep, LinkAfter, LoadAfter, LoadBefore, NullBefore, owner, Role, StartNull, StartStore, StoreAfter, StoreBefore}
use Rattle.fm_place.proofs.SameTypings.{caught_same}
use Rattle.fm_place.specs.Insertions.{after_at}
use Rattle.fm_law_retyped.proofs.KeptRows.{branch_keeps, KeepsLocals}
use Rattle.fm_law_retyped.proofs.RoleRows.{after_small, after_whole, dup_after, entered, entry_count, Fits, free_before, given_type, Goes, held_at, held_type, jump_of, keep, link_after, load_after, load_before, next_old, null_before, Old, old_at, old_state, start_null, start_store, state_after_is, store_after, store_before}
use Rattle.fm_law_retyped.proofs.RoleStates.{AllGoOn, begun, CanRetype, given_slot, held_slot, held_slots, kept_state, Retyping, role_state, role_states, start_state, state_after}
use Rattle.fm_law_retyped.proofs.SlotLists.{begun_count, begun_none, entry_more, held_count}
use Rattle.fm_types.proofs.Order.{fits-refl}
use Rattle.fm_types.proofs.StateOrder.{Fitting}
use Rattle.fm_types.proofs.Zips.{zip-refl}
use Rattle.fm_types.specs.Rows.{row_after}
use Rattle.fm_types.specs.States.{is_whole, pushed, state_fits, TypeState}
use Rattle.fm_types.specs.Typed.{after_item, caught_type, entry_state, FitsAt, FitsHandler, handler_state, IsTypingOf, made_at, MeetsItem, state_at, use_by}
use Rattle.fm_types.specs.declared.slots.Slot.{Slot}
use Rattle.fm_types.specs.declared.slots.Slot.TheVariants as slot
use Rattle.fm_world.specs.Programs.{Outline}
use Rattle.fm_link_supers.proofs.ParentRefusals.{past_none}

-- ---- handlers

each_moved : (P : Handler → Type 0) (moved : Handler → Handler) (handlers : List Handler) → ((h : Handler) → Contains handlers h → P (moved h))
    → AllByRecursion P (map moved handlers)
each_moved P moved [] each = tt
each_moved P moved (h ∷ handlers) each =
    (each h (Contains-first h handlers h refl), each_moved P moved handlers (λ other there. each other (Contains-later h handlers other there)))

pub each_contained : (P : Handler → Type 0) (handlers : List Handler) (h : Handler) → AllByRecursion P handlers → Contains handlers h → P h
each_contained P [] h all (k, inside, there) = absurd (omega (arith, inside))
each_contained P (x ∷ handlers) h all (zero, inside, there) = subst P there all.0
each_contained P (x ∷ handlers) h all (suc k, inside, there) = each_contained P handlers h all.1 (k, omega (arith, inside), there)

-- ---- what is reached is there

path_inside : (code : Code) (j last : ℕ) (path : List ℕ) → IsFlowPath code j path last → (last ≡ j) ⊎ (last < length code.items)
path_inside code j last [] is = inl (sym is)
path_inside code j last (next ∷ path) is = by_rest (path_inside code next last path is.1) where
  edge_inside : IsEdge code j next → next < length code.items
  edge_inside (inl edge) = edge.inside
  edge_inside (inr edge) = edge.inside

  by_rest : (last ≡ next) ⊎ (last < length code.items) → (last ≡ j) ⊎ (last < length code.items)
  by_rest (inl same) = let inside = edge_inside is.0 in inr (omega (arith, same, inside))
  by_rest (inr inside) = inr inside

module _ (w : Retyping) (f : CanRetype w) where
  abbrev o : Outline
  o = w.given.outline

  abbrev kept : TypeState → TypeState
  kept s = kept_state w s

  -- ---- by the roles

  role_at : (n : ℕ) (r : Role) → slice_get w.roles n ≡ Some r → state_at (role_states w) n ≡ role_state w r
  role_at n r there =
      get_or_from_slice_get (map (role_state w) w.roles) n (role_state w r) None
      (slice_get-map (role_state w) w.roles n ∙ ap (option_map (role_state w)) there)

  -- what fits the role's state fits the state of the item
  placed : (n : ℕ) (r : Role) (brought : TypeState) → slice_get w.roles n ≡ Some r → Fits w f r brought → FitsAt w.written (role_states w) n brought
  placed n r brought there fit =
      subst (λ q. IsSomeAnd (state_at (role_states w) n) (λ s. state_fits q brought s ≡ true)) (sym f.outline)
      (subst (λ x. IsSomeAnd x (λ s. state_fits o brought s ≡ true)) (sym (role_at n r there)) fit)

  -- ---- what is caught

  abbrev Catching : Role → TypeState → Type 0
  Catching r s =
      (h : Handler) → Contains w.code.handlers h → IsSomeAnd (owner r) (λ j. Catches j h.handler h)
      → IsSomeAnd (caught_type w.given w.method h) (λ c. (to : Role) → IsEntry w.code h.handler to → Fits w f to (handler_state c s))

  -- the handler takes what this state leaves it
  abbrev Takes : TypeState → Handler → Type 0
  Takes s h = IsSomeAnd (caught_type w.given w.method h) (λ c. FitsAt w.given w.states h.handler (handler_state c s))

  caught_of : (z s : TypeState) → s.locals ≡ (kept z).locals → s.built ≡ z.built → (h : Handler) → Takes z h
      → IsSomeAnd (caught_type w.given w.method h) (λ c. (to : Role) → IsEntry w.code h.handler to → Fits w f to (handler_state c s))
  caught_of z s locals built h takes =
      IsSomeAnd-weaker (caught_type w.given w.method h) (λ c. FitsAt w.given w.states h.handler (handler_state c z))
      (λ c. (to : Role) → IsEntry w.code h.handler to → Fits w f to (handler_state c s))
      (λ c fit to entry. subst (λ t. Fits w f to t) (λ k. record { locals = sym locals k; stack = slot.Ref c ∷ []; built = sym built k })
      (entered w f h.handler (handler_state c z) to entry fit)) takes

  takes_at : (j : ℕ) (x : Old w f j) (h : Handler) → Contains w.code.handlers h → Catches j h.handler h → Takes x.s h
  takes_at j x h listed catches = each_contained (FitsHandler w.given w.method w.states j x.s) w.code.handlers h x.meets.handlers listed catches

  caught_at : (j : ℕ) (x : Old w f j) (s : TypeState) → s.locals ≡ (kept x.s).locals → s.built ≡ x.s.built
      → (h : Handler) → Contains w.code.handlers h → Catches j h.handler h
      → IsSomeAnd (caught_type w.given w.method h) (λ c. (to : Role) → IsEntry w.code h.handler to → Fits w f to (handler_state c s))
  caught_at j x s locals built h listed catches = caught_of x.s s locals built h (takes_at j x h listed catches)

  -- the handlers of an item take what it leaves: where it changes but the stack,
  abbrev AllTake : (j : ℕ) → Old w f j → Type 0
  AllTake j x = (h : Handler) → Contains w.code.handlers h → Catches j h.handler h → Takes x.after h

  take_same : (j : ℕ) (x : Old w f j) → x.after.locals ≡ x.s.locals → x.after.built ≡ x.s.built → AllTake j x
  take_same j x locals built h listed catches =
      IsSomeAnd-weaker (caught_type w.given w.method h) (λ c. FitsAt w.given w.states h.handler (handler_state c x.s))
      (λ c. FitsAt w.given w.states h.handler (handler_state c x.after))
      (λ c fit. subst (FitsAt w.given w.states h.handler) (λ k. record { locals = sym locals k; stack = slot.Ref c ∷ []; built = sym built k }) fit)
      (takes_at j x h listed catches)

  handlers_fit : (c : TypeRef) (s t : TypeState) → state_fits o s t ≡ true → state_fits o (handler_state c s) (handler_state c t) ≡ true
  handlers_fit c s t fit =
      let parts = fits-parts o s t fit in
      fits-from o (handler_state c s) (handler_state c t)
      (record { locals = parts.locals; stack = zip-refl (Fitting o) (fits-refl o f.tree) (slot.Ref c ∷ []); built = parts.built })

  -- and where all their ranges go on
  take_next : (j : ℕ) (x : Old w f j) → FallsAt w.code j → AllGoOn w.code.handlers j → AllTake j x
  take_next j x falls all h listed catches =
      let next = next_old w f j x falls in
      let there : Catches (j + 1) h.handler h = record {
        after_start = let start = catches.after_start in omega (arith, start);
        before_end = all h listed catches.after_start catches.before_end;
        handler_is = refl;
      } in
      IsSomeAnd-weaker (caught_type w.given w.method h) (λ c. FitsAt w.given w.states h.handler (handler_state c next.0.s))
      (λ c. FitsAt w.given w.states h.handler (handler_state c x.after))
      (λ c fit.
      let found = Some-from_some_and (state_at w.states h.handler) (λ s. state_fits o (handler_state c next.0.s) s ≡ true) fit in
      IsSomeAnd-from_some (state_at w.states h.handler) (λ s. state_fits o (handler_state c x.after) s ≡ true) found.0 found.1
      (state-trans o f.tree (handler_state c x.after) (handler_state c next.0.s) found.0 (handlers_fit c x.after next.0.s next.1) found.2))
      (takes_at (j + 1) next.0 h listed there)

  -- ---- each item

  record Fine (n : ℕ) (r : Role) (s : TypeState) : Type 0 where
    locals : length s.locals ≡ w.woven.max_locals
    stack : length s.stack ≤ w.woven.max_stack
    whole : is_whole s.stack ≡ true
    goes : Goes w f n r s
    caught : Catching r s

  kept_locals : (s : TypeState) → length s.locals ≡ w.code.max_locals → length (kept s).locals ≡ w.woven.max_locals
  kept_locals s count =
      let both = length-append (map (slot_with w.numbers) s.locals) (held_slots w.types) in
      let mapped = length-map s.locals (slot_with w.numbers) in
      let holders = held_count w.types in
      let all = f.counted in
      let more = f.more_locals in
      omega (arith, both, mapped, holders, all, more, count)

  -- what is inserted takes a word of stack, and two where a holder holds a chain
  some_words : (b : Bool) → 1 ≤ (if b then 2 else 1)
  some_words true = omega arith
  some_words false = omega arith

  one_word : 1 ≤ added_words w.plan
  one_word = some_words (has_chain w.plan)

  two_words : (h : ℕ) → looped_at w.plan h ≡ true → added_words w.plan ≡ 2
  two_words h looped = ap (λ (b : Bool). if b then 2 else 1) (chain_in w.plan.holders h looped)

  kept_stack : (s : TypeState) → length s.stack ≤ w.code.max_stack → length (kept s).stack + added_words w.plan ≤ w.woven.max_stack
  kept_stack s small = let mapped = length-map s.stack (slot_with w.numbers) in let more = f.more_stack in omega (arith, mapped, more, small)

  fine_start : (n h : ℕ) (r : Role) (stack : List Slot) → owner r ≡ None → length stack ≤ 1 → is_whole stack ≡ true → Goes w f n r (start_state w h stack)
      → Fine n r (start_state w h stack)
  fine_start n h r stack none small whole goes = record {
    locals =
        let count = entry_count w f in
        let holders = begun_count h w.types in
        let both = length-append (entry_state o w.method w.code).locals (begun h w.types) in
        let all = f.counted in
        let more = f.more_locals in
        omega (arith, count, holders, both, all, more);
    stack = let more = f.more_stack in let one = one_word in omega (arith, small, more, one);
    whole = whole;
    goes = goes;
    caught = λ handler listed caught. absurd (subst (λ x. IsSomeAnd x (λ j. Catches j handler.handler handler)) none caught);
  }

  -- with the old item's own stack, or one slot more
  fine_own : (n j : ℕ) (x : Old w f j) (r : Role) → owner r ≡ Some j → Goes w f n r (kept x.s) → Fine n r (kept x.s)
  fine_own n j x r is goes = record {
    locals = kept_locals x.s x.meets.locals;
    stack = let small = kept_stack x.s x.meets.stack in omega (arith, small);
    whole = whole_with w.numbers x.s.stack ∙ x.meets.whole;
    goes = goes;
    caught = λ h listed caught.
        caught_at j x (kept x.s) refl refl h listed (subst (λ x. IsSomeAnd x (λ j. Catches j h.handler h)) is caught);
  }

  fine_more : (n j : ℕ) (x : Old w f j) (r : Role) (top : Slot) → owner r ≡ Some j
      → is_whole (top ∷ map (slot_with w.numbers) x.s.stack) ≡ is_whole (map (slot_with w.numbers) x.s.stack)
      → Goes w f n r (pushed (top ∷ []) (kept x.s)) → Fine n r (pushed (top ∷ []) (kept x.s))
  fine_more n j x r top is same goes = record {
    locals = kept_locals x.s x.meets.locals;
    stack = let small = kept_stack x.s x.meets.stack in let one = one_word in omega (arith, small, one);
    whole = same ∙ whole_with w.numbers x.s.stack ∙ x.meets.whole;
    goes = goes;
    caught = λ h listed caught.
        caught_at j x (pushed (top ∷ []) (kept x.s)) refl refl h listed (subst (λ x. IsSomeAnd x (λ j. Catches j h.handler h)) is caught);
  }

  -- after an item that goes on
  fine_after : (n j : ℕ) (x : Old w f j) (r : Role) (more : List Slot) → owner r ≡ Some j → length x.after.locals ≡ length x.s.locals
      → AllTake j x → FallsAt w.code j → length more ≤ added_words w.plan
      → is_whole (more ++ map (slot_with w.numbers) x.after.stack) ≡ is_whole (map (slot_with w.numbers) x.after.stack)
      → Goes w f n r (pushed more (kept x.after)) → Fine n r (pushed more (kept x.after))
  fine_after n j x r more is count takes falls few same goes = record {
    locals = kept_locals x.after (count ∙ x.meets.locals);
    stack =
        let small = kept_stack x.after (after_small w f j x falls) in
        let both = length-append more (map (slot_with w.numbers) x.after.stack) in
        omega (arith, small, few, both);
    whole = same ∙ whole_with w.numbers x.after.stack ∙ after_whole w f j x;
    goes = goes;
    caught = λ h listed caught.
        caught_of x.after (pushed more (kept x.after)) refl refl h
        (takes h listed (subst (λ x. IsSomeAnd x (λ j. Catches j h.handler h)) is caught));
  }

  whole_ref : (h : ℕ) (stack : List Slot) → h < length w.plan.holders → is_whole (held_slot w h ∷ stack) ≡ is_whole stack
  whole_ref h stack within = ap (λ s. is_whole (s ∷ stack)) (held_type w f h within).1

  whole_given : (h : ℕ) (stack : List Slot) → h < length w.plan.holders → is_whole (given_slot w h ∷ stack) ≡ is_whole stack
  whole_given h stack within = ap (λ s. is_whole (s ∷ stack)) (given_type w f h within).1

  -- ---- by what an item is for

  -- the state of an old item that has a role's state
  own_of : (j : ℕ) (g : TypeState → TypeState) (s : TypeState) → option_map g (state_at w.states j) ≡ Some s → (x : Old w f j) × (g x.s ≡ s)
  own_of j g s is =
      let found = option_map-some g (state_at w.states j) s is in
      (old_at w f j found.0 found.1, ap g (old_state w f j found.0 found.1) ∙ found.2)

  after_of : (j : ℕ) (g : TypeState → TypeState) (s : TypeState) → option_map g (state_after w j) ≡ Some s → (x : Old w f j) × (g x.after ≡ s)
  after_of j g s is = by_state (state_at w.states j) refl where
    by_state : (found : Option TypeState) → state_at w.states j ≡ found → (x : Old w f j) × (g x.after ≡ s)
    by_state None at =
        absurd (none-some s (sym (ap (λ x. option_map g (option_and_then (after_item w.given w.method w.code j) x)) at) ∙ is))
    by_state (Some t) at =
        let x = old_at w f j t at in
        (x, same_Some (g x.after) s (sym (ap (option_map g) (state_after_is w f j x)) ∙ is))

  held_take : (j h : ℕ) (x : Old w f j) → Contains (after_at w.plan j) h → AllTake j x
  held_take j h x there =
      ⊎_elim (λ locals. take_same j x locals (held_at w f j h x there).built) (take_next j x (f.can.goes_on j h there)) (held_at w f j h x there).locals

  branch_of : (j : ℕ) (x : Old w f j) → IsSomeAnd (insn_of w.code j) IsBranch → KeepsLocals x.s x.after × FallsAt w.code j
  branch_of j x there =
      let found = Some-from_some_and (insn_of w.code j) IsBranch there in
      let i = found.0 in
      let branch : IsBranch i = found.2 in
      let row : row_after o w.method j (made_at w.given w.method w.code) (use_by w.given w.method i) i x.s ≡ Some x.after =
      sym (ap (option_and_then (λ y. row_after o w.method j (made_at w.given w.method w.code) (use_by w.given w.method y) y x.s)) found.1) ∙ x.after_is in
      let cut = ap (λ y. row_after o w.method j (made_at w.given w.method w.code) (use_by w.given w.method i) y x.s) (sym branch.is) ∙ row in (
        branch_keeps o w.method j (made_at w.given w.method w.code) (use_by w.given w.method i) branch.condition branch.target x.s x.after cut,
        IsSomeAnd-from_some (insn_of w.code j) (λ y. falls_through y ≡ true) i found.1 (ap falls_through branch.is ∙ falls-conditional branch.condition branch.target),
      )

  fine : (n : ℕ) (r : Role) (s : TypeState) → slice_get w.roles n ≡ Some r → role_state w r ≡ Some s → Fine n r s
  fine n r s there state = by_role r s state (f.stands.holders n r there) there
      (Some-from_some_and (insn_of w.woven n) (HasInsn w.calls w.code w.plan r) (f.stands.insns n r there)) where
        by_role : (r : Role) (s : TypeState) → role_state w r ≡ Some s → HasHolder w.plan r → slice_get w.roles n ≡ Some r
            → (i : Insn) × (insn_of w.woven n ≡ Some i) × HasInsn w.calls w.code w.plan r i → Fine n r s
        by_role (StartNull h) s state within there (i, is, has) =
            subst (Fine n (StartNull h)) (same_Some (start_state w h []) s state)
            (fine_start n h (StartNull h) [] refl (omega arith) refl (start_null w f n h i is has))
        by_role (StartStore h) s state within there (i, is, has) =
            subst (Fine n (StartStore h)) (same_Some (start_state w h (slot.Null ∷ [])) s state)
            (fine_start n h (StartStore h) (slot.Null ∷ []) refl (omega arith) refl (start_store w f n h i within is has))
        by_role (LoadBefore j h) s state within there (i, is, has) =
            let found = own_of j kept s state in
            subst (Fine n (LoadBefore j h)) found.1
            (fine_own n j found.0 (LoadBefore j h) refl (load_before w f n j h found.0 i (f.before j h within) is has))
        by_role (FreeBefore j h) s state within there (i, is, has) =
            let found = own_of j (λ t. pushed (held_slot w h ∷ []) (kept t)) s state in
            let h_within = f.before j h within in
            subst (Fine n (FreeBefore j h)) found.1
            (fine_more n j found.0 (FreeBefore j h) (held_slot w h) refl (whole_ref h (map (slot_with w.numbers) found.0.s.stack) h_within)
            (free_before w f n j h found.0 i there h_within is has))
        by_role (NullBefore j h) s state within there (i, is, has) =
            let found = own_of j kept s state in
            subst (Fine n (NullBefore j h)) found.1 (fine_own n j found.0 (NullBefore j h) refl (null_before w f n j h found.0 i is has))
        by_role (StoreBefore j h) s state within there (i, is, has) =
            let found = own_of j (λ t. pushed (slot.Null ∷ []) (kept t)) s state in
            subst (Fine n (StoreBefore j h)) found.1
            (fine_more n j found.0 (StoreBefore j h) slot.Null refl refl (store_before w f n j h found.0 i (f.before j h within) is has))
        by_role (Keep j) s state within there (i, is, has) =
            let found = own_of j kept s state in
            subst (Fine n (Keep j)) found.1
            (fine_own n j found.0 (Keep j) refl (keep w f n j found.0 i (f.stands.kept_once n j there) is has))
        by_role (JumpOf j) s state within there (i, is, has) =
            let found = after_of j kept s state in
            let branch = branch_of j found.0 has.0 in
            subst (Fine n (JumpOf j)) found.1
            (fine_after n j found.0 (JumpOf j) [] refl (ap length branch.0.locals) (take_same j found.0 branch.0.locals branch.0.built) branch.1
            (omega arith) refl (jump_of w f n j found.0 i is has))
        by_role (DupAfter j h) s state within there (i, is, has) =
            let found = after_of j kept s state in
            subst (Fine n (DupAfter j h)) found.1
            (fine_after n j found.0 (DupAfter j h) [] refl (held_at w f j h found.0 within).count (held_take j h found.0 within)
            (f.can.goes_on j h within) (omega arith) refl
            (dup_after w f n j h found.0 i within is has))
        by_role (StoreAfter j h) s state within there (i, is, has) =
            let found = after_of j (λ t. pushed (held_slot w h ∷ []) (kept t)) s state in
            subst (Fine n (StoreAfter j h)) found.1
            (fine_after n j found.0 (StoreAfter j h) (held_slot w h ∷ []) refl (held_at w f j h found.0 within).count (held_take j h found.0 within)
            (f.can.goes_on j h within) one_word
            (whole_ref h (map (slot_with w.numbers) found.0.after.stack) (f.after j h within)) (store_after w f n j h found.0 i within is has))
        by_role (LoadAfter j h) s state (within, looped) there (i, is, has) =
            let found = after_of j (λ t. pushed (given_slot w h ∷ []) (kept t)) s state in
            subst (Fine n (LoadAfter j h)) found.1
            (fine_after n j found.0 (LoadAfter j h) (given_slot w h ∷ []) refl (held_at w f j h found.0 within).count (held_take j h found.0 within)
            (f.can.goes_on j h within) one_word
            (whole_given h (map (slot_with w.numbers) found.0.after.stack) (f.after j h within)) (load_after w f n j h found.0 i within is has))
        by_role (LinkAfter j h) s state (within, looped) there (i, is, has) =
            let found = after_of j (λ t. pushed (held_slot w h ∷ given_slot w h ∷ []) (kept t)) s state in
            let stack = map (slot_with w.numbers) found.0.after.stack in
            let two = two_words h looped in
            subst (Fine n (LinkAfter j h)) found.1
            (fine_after n j found.0 (LinkAfter j h) (held_slot w h ∷ given_slot w h ∷ []) refl (held_at w f j h found.0 within).count
            (held_take j h found.0 within) (f.can.goes_on j h within) (omega (arith, two))
            (whole_ref h (given_slot w h ∷ stack) (f.after j h within) ∙ whole_given h stack (f.after j h within))
            (link_after w f n j h found.0 i there within looped is has))

  -- ---- the typing

  meets : (n : ℕ) (r : Role) (s : TypeState) → slice_get w.roles n ≡ Some r → Fine n r s → MeetsItem w.written w.method w.woven (role_states w) n s
  meets n r s there x = record {
    locals = x.locals;
    stack = x.stack;
    whole = x.whole;
    row = IsSomeAnd-from_some (after_item w.written w.method w.woven n s)
        (λ after. (next : ℕ) → IsNormalEdge w.woven n next → FitsAt w.written (role_states w) next after) x.goes.after x.goes.is leads;
    handlers = subst (AllByRecursion (FitsHandler w.written w.method (role_states w) n s)) (sym f.stands.handlers_are)
        (each_moved (FitsHandler w.written w.method (role_states w) n s) w.moved w.code.handlers handles);
  } where
    leads : (next : ℕ) → IsNormalEdge w.woven n next → FitsAt w.written (role_states w) next x.goes.after
    leads next edge =
        let e = f.stands.edges n next edge in
        let same : e.from ≡ r = same_value (slice_get w.roles n) e.from r e.from_is there in
        placed next e.to x.goes.after e.to_is (x.goes.each e.to (subst (λ z. Follows w.code w.plan z e.to) same e.follows))

    handles : (h : Handler) → Contains w.code.handlers h → FitsHandler w.written w.method (role_states w) n s (w.moved h)
    handles h listed catches =
        let c = f.stands.caught n r h there listed catches in
        let same = caught_same w.given w.written w.method h (w.moved h) f.outline (f.stands.catch_class h) (f.caught h listed) in
        let own = Some-from_some_and (caught_type w.given w.method h)
        (λ t. (to : Role) → IsEntry w.code h.handler to → Fits w f to (handler_state t s)) (x.caught h listed c.caught) in
        IsSomeAnd-from_some (caught_type w.written w.method (w.moved h)) (λ t. FitsAt w.written (role_states w) (w.moved h).handler (handler_state t s))
        own.0 (same ∙ own.1) (placed (w.moved h).handler c.to (handler_state own.0 s) c.to_is (own.2 c.to c.entered))

  -- a role has a state exactly where its old item is reached
  abbrev HasState : Role → Type 0
  HasState r = (is_some (role_state w r) ≡ true) ↔ (IsOwnerReached w.code (owner r))

  own_reached : (j : ℕ) (g : TypeState → TypeState) → (is_some (option_map g (state_at w.states j)) ≡ true) ↔ (IsReachable w.code j)
  own_reached j g =
      let both = f.typing.reachable j in
      let same = mapped_some (state_at w.states j) in
      ((λ is. both.0 (sym same ∙ is)), (λ reached. same ∙ both.1 reached)) where
        mapped_some : (x : Option TypeState) → is_some (option_map g x) ≡ is_some x
        mapped_some None = refl
        mapped_some (Some s) = refl

  after_reached : (j : ℕ) (g : TypeState → TypeState) → (is_some (option_map g (state_after w j)) ≡ true) ↔ (IsReachable w.code j)
  after_reached j g =
      let both = f.typing.reachable j in
      let same = by_state (state_at w.states j) refl in
      ((λ is. both.0 (sym same ∙ is)), (λ reached. same ∙ both.1 reached)) where
        by_state : (found : Option TypeState) → state_at w.states j ≡ found → is_some (option_map g (state_after w j)) ≡ is_some (state_at w.states j)
        by_state None at = ap (λ x. is_some (option_map g (option_and_then (after_item w.given w.method w.code j) x))) at ∙ sym (ap is_some at)
        by_state (Some s) at = ap (λ x. is_some (option_map g x)) (state_after_is w f j (old_at w f j s at)) ∙ sym (ap is_some at)

  has_state : (r : Role) → HasState r
  has_state (StartNull h) = ((λ is. tt), (λ reached. refl))
  has_state (StartStore h) = ((λ is. tt), (λ reached. refl))
  has_state (LoadBefore j h) = own_reached j kept
  has_state (FreeBefore j h) = own_reached j (λ s. pushed (held_slot w h ∷ []) (kept s))
  has_state (NullBefore j h) = own_reached j kept
  has_state (StoreBefore j h) = own_reached j (λ s. pushed (slot.Null ∷ []) (kept s))
  has_state (Keep j) = own_reached j kept
  has_state (JumpOf j) = after_reached j kept
  has_state (DupAfter j h) = after_reached j kept
  has_state (LoadAfter j h) = after_reached j (λ s. pushed (given_slot w h ∷ []) (kept s))
  has_state (LinkAfter j h) = after_reached j (λ s. pushed (held_slot w h ∷ given_slot w h ∷ []) (kept s))
  has_state (StoreAfter j h) = after_reached j (λ s. pushed (held_slot w h ∷ []) (kept s))

  count : length (role_states w) ≡ length w.woven.items
  count = length-map w.roles (role_state w) ∙ f.stands.one_each

  reaches : (n : ℕ) → (is_some (state_at (role_states w) n) ≡ true) ↔ (IsReachable w.woven n)
  reaches n = by_role (slice_get w.roles n) refl where
    by_role : (found : Option Role) → slice_get w.roles n ≡ found → (is_some (state_at (role_states w) n) ≡ true) ↔ (IsReachable w.woven n)
    by_role (Some r) there =
        let same = ap is_some (role_at n r there) in
        let own = has_state r in
        let reached = f.stands.reached n r there in
        ((λ is. reached.1 (own.0 (sym same ∙ is))), (λ path. same ∙ own.1 (reached.0 path)))
    by_role None none = ((λ is. absurd (false≢true (sym (ap is_some past) ∙ is))), (λ path. absurd (outside path))) where
      behind : length w.roles ≤ n
      behind = past_none w.roles n none

      past : state_at (role_states w) n ≡ None
      past = let all = length-map w.roles (role_state w) in get_or_past (role_states w) n None (omega (arith, all, behind))

      outside : IsReachable w.woven n → ⊥
      outside path = by_place (path_inside w.woven 0 n path.0 path.1) where
        by_place : (n ≡ 0) ⊎ (n < length w.woven.items) → ⊥
        by_place (inl zero_is) =
            let first = slice_get_within w.roles 0 (StartNull 0) f.stands.first in omega (arith, zero_is, first, behind)
        by_place (inr inside) = let all = f.stands.one_each in omega (arith, inside, all, behind)

  first_is : state_at (role_states w) 0 ≡ Some (entry_state w.written.outline w.method w.woven)
  first_is =
      let e = entry_state o w.method w.code in
      let all = f.counted in
      let none : begun 0 w.types ≡ replicate (length w.plan.holders) slot.Top = begun_none w.types ∙ ap (λ n. replicate n slot.Top) all in
      role_at 0 (StartNull 0) f.stands.first
      ∙ (λ k. Some (record { locals = e.locals ++ none k; stack = []; built = e.built }))
      ∙ ap Some (sym (entry_more o w.method w.code w.woven (length w.plan.holders) f.more_locals (entry_count w f)))
      ∙ (λ k. Some (entry_state (sym f.outline k) w.method w.woven))

  pub retyped : IsTypingOf w.written w.method w.woven (role_states w)
  retyped = record {
    one_each = count;
    reachable = reaches;
    stays_inside = f.stands.stays_inside f.typing.stays_inside;
    first = first_is;
    items = items;
  } where
    items : (n : ℕ) (s : TypeState) → state_at (role_states w) n ≡ Some s → MeetsItem w.written w.method w.woven (role_states w) n s
    items n s at = by_role (slice_get w.roles n) refl where
      by_role : (found : Option Role) → slice_get w.roles n ≡ found → MeetsItem w.written w.method w.woven (role_states w) n s
      by_role (Some r) there = meets n r s there (fine n r s there (sym (role_at n r there) ∙ at))
      by_role None none =
          let behind = past_none w.roles n none in
          let all = length-map w.roles (role_state w) in
          absurd (none-some s (sym (get_or_past (role_states w) n None (omega (arith, all, behind))) ∙ at))
