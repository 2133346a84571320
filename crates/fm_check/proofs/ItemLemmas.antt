-- What an item brings on, and what that shows of typings; and that states at which no item waits are the least typing.
use Rattle.std.proofs.Common.{◌≡◌, ◌≢◌, refl, sym, ◌∙◌, ap, inl, inr, ⊎_elim, ℕ, zero, suc, ◌+◌, ◌<◌, ◌≤◌, ◌==◌, Bool, true, false, List, [], ◌∷◌, ◌++◌, length, reverse, take, get_or, set, replicate, Option, Some, None, is_some, option_and_then, cond, Contains, subst, count_by, sum_by, arith, length-set}
use Rattle.std.specs.Prelude.{Any, slice_get}
use Rattle.std.specs.List.{AllByRecursion, slice_index_or}
use Rattle.std.specs.Option.{option_map}
use Rattle.std.proofs.lemmas.Bool.{and_from, and_parts, cases_eq, cases_lt, eqb-true, eq-eqb, false≢true}
use Rattle.std.proofs.lemmas.List.{append-nil, get_or-set_same, get_or-replicate, get_or-set_other, get_or_past, length-replicate, reverse-reverse}
use Rattle.std.proofs.lemmas.List.Sums.{sum_by-set}
use Rattle.std.proofs.lemmas.List.Elements.{All-contains, All-from_recursion, Contains-append_left, Contains-push, Contains-push_cases}
use Rattle.fm_check_handlers.proofs.HandlerLemmas.{each_handler, handlers_later}
use Rattle.fm_base.proofs.OptionFacts.{IsSomeAnd-at_some, IsSomeAnd-from_some, option_map-some, same_value, Some-from_some_and}
use Rattle.fm_check_walk.proofs.MergingLemmas.{state-refl, state-trans}
use Rattle.fm_check_walk.proofs.WalkLemmas.{fits_at, fits_later, fits_one, given_at, kept-locals, kept-stack, reachable-more, Went-none, Went-then, with_waiting-waits}
use Rattle.fm_check_walk.proofs.RisenLemmas.{alike-then, same_locals}
use Rattle.fm_types.specs.declared.known_state.SlotPlace.{SlotPlace}
use Rattle.fm_check_walk.specs.inner.Ranks.{rank_at}
use Rattle.fm_check_walk.specs.inner.Risen.{IsAlikeBut}
use Rattle.fm_check_walk.specs.inner.Walks.{Brings, is_marked, IsForced, IsKept, not_begun, Pops, risen_at, Rises, Stands, Untypable, waiting_count, Walked, Went, with_risen, with_state, work_left}
use Rattle.fm_check.specs.inner.Steps.{BringsAll, BringsOn, falls_off, GoesOver, HasSettled, IsItem, IsLeast, IsMet, IsMetBut, IsNearlyMet, next_items, Takes, Walking}
use Rattle.fm_check_handlers.specs.inner.Runs.{BringsHandlers}
use Rattle.fm_check_walk.specs.inner.Tasks.{IsSound, is_within, Task}
use Rattle.fm_code.proofs.EdgesLemmas.{insn_inside}
use Rattle.fm_code.specs.Edges.{Catches, falls_through, insn_of, IsEdge, IsFlowPath, IsNormalEdge, IsReachable, LeadsTo}
use Rattle.fm_code.specs.SpellsCode.{targets_of}
use Rattle.fm_code.specs.declared.code_array.Code.{Code}
use Rattle.fm_code.specs.declared.code_array.Item.{Item}
use Rattle.fm_code.specs.declared.instructions.Insn.{Insn}
use Rattle.fm_flow.proofs.CodeFacts.{items_counted, targets_inside}
use Rattle.fm_flow.proofs.RisingLemmas.{Contains-take_more}
use Rattle.fm_base.proofs.RowFacts.{has_inside}
use Rattle.fm_types.proofs.RowOrder.{rows-keep_order, rows-keep_whole}
use Rattle.fm_types.specs.Rows.{row_after}
use Rattle.fm_types.specs.States.{state_fits, TypeState}
use Rattle.fm_types.specs.Typed.{after_item, caught_type, entry_state, FitsAt, FitsHandler, handler_state, IsTypingOf, made_at, state_at, use_by}

-- ---- instructions

-- an instruction that was read
read_item : (items : List Item) (j : ℕ) (d : Item) → j < length items → slice_get items j ≡ Some (slice_index_or items j d)
read_item [] j d inside = absurd (omega arith)
read_item (y ∷ items) zero d inside = refl
read_item (y ∷ items) (suc j) d inside = read_item items j d (omega arith)

pub read_insn : (code : Code) (items : List Item) (j : ℕ) (d : Item) → items ≡ code.items → j < length code.items
    → insn_of code j ≡ Some (slice_index_or items j d).insn
read_insn code items j d same inside =
    ap (option_map (λ (item : Item). item.insn)) (read_item code.items j d inside)
    ∙ ap (λ (xs : List Item). Some (slice_index_or xs j d).insn) (sym same)

there_item : (items : List Item) (j : ℕ) → j < length items → (x : Item) × (slice_get items j ≡ Some x)
there_item [] j inside = absurd (omega arith)
there_item (y ∷ items) zero inside = (y, refl)
there_item (y ∷ items) (suc j) inside = there_item items j (omega arith)

pub there_insn : (code : Code) (j : ℕ) → j < length code.items → (i : Insn) × (insn_of code j ≡ Some i)
there_insn code j inside =
    let found = there_item code.items j inside in
    (found.0.insn, ap (option_map (λ (item : Item). item.insn)) found.1)

pub item_small : (t : Task) (j : ℕ) (i : Insn) → IsSound t → IsItem t j i → j < 65535
item_small t j i sound at = let inside = insn_inside t.code j i at.is in let few = (items_counted t.code sound.rules).1 in omega arith

-- ---- rows

row_at : Task → ℕ → Insn → TypeState → Option TypeState
row_at t j i s = row_after t.program.outline t.number j (made_at t.program t.number t.code) (use_by t.program t.number i) i s

pub after-row : (t : Task) (j : ℕ) (i : Insn) (s : TypeState) → insn_of t.code j ≡ Some i
    → after_item t.program t.number t.code j s
    ≡ row_after t.program.outline t.number j (made_at t.program t.number t.code) (use_by t.program t.number i) i s
after-row t j i s is =
    ap (option_and_then (λ (x : Insn). row_after t.program.outline t.number j (made_at t.program t.number t.code) (use_by t.program t.number x) x s)) is

-- what is known of the row of an item, where there is a typing
record RowBelow (t : Task) (states : List (Option TypeState)) (j : ℕ) (s : TypeState) : Type 0 where
  given : TypeState
  is : after_item t.program t.number t.code j s ≡ Some given
  edges : (next : ℕ) → IsNormalEdge t.code j next → FitsAt t.program states next given

row_below : (t : Task) (states : List (Option TypeState)) (j : ℕ) (i : Insn) (s : TypeState) → IsSound t → IsForced t j s → insn_of t.code j ≡ Some i
    → IsTypingOf t.program t.number t.code states → RowBelow t states j s
row_below t states j i s sound forced is typing =
    let o = t.program.outline in
    let found = fits_one t states j s (forced.below states typing) in
    let meets = typing.items j found.state found.is in
    let row = Some-from_some_and (after_item t.program t.number t.code j found.state)
    (λ after. (next : ℕ) → IsNormalEdge t.code j next → FitsAt t.program states next after) meets.row in
    let above = sym (after-row t j i found.state is) ∙ row.1 in
    let kept = rows-keep_order o sound.tree t.number j (made_at t.program t.number t.code) (use_by t.program t.number i) i s found.state row.0
    forced.whole meets.whole found.fits above in
    let own = Some-from_some_and (row_after o t.number j (made_at t.program t.number t.code) (use_by t.program t.number i) i s)
    (λ given. state_fits o given row.0 ≡ true) kept in
    record {
      given = own.0;
      is = after-row t j i s is ∙ own.1;
      edges = λ next edge.
          let last = fits_one t states next row.0 (row.2 next edge) in
          fits_at t states next own.0 last.state last.is (state-trans o sound.tree own.0 row.0 last.state own.2 last.fits);
    }

-- a row that isn't met
pub row_unmet : (t : Task) (j : ℕ) (i : Insn) (s : TypeState) → IsSound t → IsForced t j s → insn_of t.code j ≡ Some i
    → after_item t.program t.number t.code j s ≡ None → Untypable t
row_unmet t j i s sound forced is none states typing =
    let row = row_below t states j i s sound forced is typing in
    let found = row.is in cc

pub row_unmet_at : (t : Task) (j : ℕ) (s : TypeState) → IsSound t → IsForced t j s → after_item t.program t.number t.code j s ≡ None → Untypable t
row_unmet_at t j s sound forced none =
    let found = there_insn t.code j forced.inside in row_unmet t j found.0 s sound forced found.1 none

-- the state after an item is brought on
pub next_forced : (t : Task) (j next : ℕ) (i : Insn) (s after : TypeState) → IsSound t → IsForced t j s → insn_of t.code j ≡ Some i
    → after_item t.program t.number t.code j s ≡ Some after → LeadsTo i j next → next < length t.code.items → IsForced t next after
next_forced t j next i s after sound forced is gives leads inside =
    let edge : IsNormalEdge t.code j next = record { inside = inside; leads = IsSomeAnd-from_some (insn_of t.code j) (λ x. LeadsTo x j next) i is leads } in
    record {
      reachable = reachable-more t.code j next forced.reachable (inl edge);
      inside = inside;
      whole = rows-keep_whole t.program.outline sound.tree t.number j (made_at t.program t.number t.code) (use_by t.program t.number i) i s after
          forced.whole (sym (after-row t j i s is) ∙ gives);
      below = λ states typing.
          let row = row_below t states j i s sound forced is typing in
          let same : row.given ≡ after = let found = row.is in cc in
          subst (λ (x : TypeState). FitsAt t.program states next x) same (row.edges next edge);
    }

-- control goes on past the last item
pub off_end : (t : Task) (j : ℕ) (i : Insn) → IsItem t j i → falls_off t.code i j ≡ true → Untypable t
off_end t j i at falls states typing =
    let parts = and_parts (falls_through i) (j + 1 == length t.code.items) falls in
    typing.stays_inside (record {
      item = j;
      reachable = at.reachable;
      last = eqb-true (j + 1) (length t.code.items) parts.1;
      falls = IsSomeAnd-from_some (insn_of t.code j) (λ x. falls_through x ≡ true) i at.is parts.0;
    })

-- ---- several items

pub BringsAll-none : (t : Task) (s : TypeState) (w : Walked) → IsSound t → Stands t w → BringsAll t [] s w w
BringsAll-none t s w sound stands = record { went = Went-none t w sound stands; fits = λ item found. absurd (let inside = found.1 in omega arith) }

pub BringsAll-more : (t : Task) (items : List ℕ) (k : ℕ) (s : TypeState) (a b c : Walked) → IsSound t → k < length items
    → BringsAll t (take k items) s a b → Brings t (get_or items k 0) s b c → BringsAll t (take (k + 1) items) s a c
BringsAll-more t items k s a b c sound inside so_far one = record {
  went = Went-then t a b c sound so_far.went one.went;
  fits = λ item found.
      ⊎_elim (λ earlier. fits_later t b c item s sound one.went.rises (so_far.fits item earlier))
      (λ (same : get_or items k 0 ≡ item). subst (λ (n : ℕ). FitsAt t.program c.states n s) same one.fits)
      ((Contains-take_more items k item inside).0 found);
}

-- the items to which an instruction leads
pub leads_from : (i : Insn) (j next : ℕ) → Contains (next_items i j) next → LeadsTo i j next
leads_from i j next found = by_fall (falls_through i) refl found where
  by_fall : (b : Bool) → falls_through i ≡ b → Contains (targets_of i ++ cond b ((j + 1) ∷ []) []) next → LeadsTo i j next
  by_fall true falls h =
      ⊎_elim (λ named. inl named) (λ (same : j + 1 ≡ next). inr (falls, sym same)) (Contains-push_cases (targets_of i) (j + 1) next h)
  by_fall false stays h = inl (subst (λ (xs : List ℕ). Contains xs next) (append-nil (targets_of i)) h)

pub leads_to : (i : Insn) (j next : ℕ) → LeadsTo i j next → Contains (next_items i j) next
leads_to i j next (inl named) = Contains-append_left (targets_of i) (cond (falls_through i) ((j + 1) ∷ []) []) next named
leads_to i j next (inr (falls, same)) =
    let pushed : Contains (targets_of i ++ (j + 1) ∷ []) next =
    subst (λ (n : ℕ). Contains (targets_of i ++ (j + 1) ∷ []) n) (sym same) (Contains-push (targets_of i) (j + 1)) in
    subst (λ (b : Bool). Contains (targets_of i ++ cond b ((j + 1) ∷ []) []) next) (sym falls) pushed

each_got : (P : Item → Type 0) (items : List Item) (j : ℕ) (x : Item) → slice_get items j ≡ Some x → AllByRecursion P items → P x
each_got P [] j x e all = absurd cc
each_got P (y ∷ items) zero x e all = let same : y ≡ x = cc in subst P same all.0
each_got P (y ∷ items) (suc j) x e all = each_got P items j x e all.1

-- these are items
pub next_inside : (t : Task) (j next : ℕ) (i : Insn) → IsSound t → insn_of t.code j ≡ Some i → falls_off t.code i j ≡ false → LeadsTo i j next
    → next < length t.code.items
next_inside t j next i sound is stays (inl named) =
    let Inside : Item → Type 0 = λ (item : Item). AllByRecursion (λ target. target < length t.code.items) (targets_of item.insn) in
    let found = option_map-some (λ (item : Item). item.insn) (slice_get t.code.items j) i is in
    let all = each_got Inside t.code.items j found.0 found.1 (targets_inside t.code sound.rules) in
    All-contains (λ target. target < length t.code.items) (targets_of i) next
    (All-from_recursion (λ target. target < length t.code.items) (targets_of i)
    (subst (λ (x : Insn). AllByRecursion (λ target. target < length t.code.items) (targets_of x)) found.2 all))
    named
next_inside t j next i sound is stays (inr (falls, same)) =
    let inside = insn_inside t.code j i is in
    let apart : j + 1 ≢ length t.code.items = λ e.
    false≢true (sym stays ∙ and_from (falls_through i) (j + 1 == length t.code.items) falls (eq-eqb (j + 1) (length t.code.items) e)) in
    omega arith

pub items_forced : (t : Task) (j : ℕ) (i : Insn) (after : TypeState) → IsSound t → IsItem t j i → falls_off t.code i j ≡ false
    → ((next : ℕ) → LeadsTo i j next → next < length t.code.items → IsForced t next after)
    → (next : ℕ) → Contains (next_items i j) next → IsForced t next after
items_forced t j i after sound at stays forced next found =
    let leads = leads_from i j next found in
    forced next leads (next_inside t j next i sound at.is stays leads)

pub BringsOn-all : (t : Task) (j : ℕ) (i : Insn) (after : TypeState) (old new : Walked) → falls_off t.code i j ≡ false
    → BringsAll t (next_items i j) after old new → BringsOn t j i after old new
BringsOn-all t j i after old new stays all = record {
  went = all.went;
  fits = λ next leads inside. all.fits next (leads_to i j next leads);
  stays = stays;
}

-- ---- an item is gone over

is_met : (t : Task) (j : ℕ) (s after : TypeState) (i : Insn) (old middle new : Walked) → IsSound t → IsKept t j s → insn_of t.code j ≡ Some i
    → after_item t.program t.number t.code j s ≡ Some after → BringsHandlers t j s t.code.handlers old middle → BringsOn t j i after middle new
    → IsMet t new.states j s
is_met t j s after i old middle new sound kept is gives caught on = record {
  meets = record {
    locals = kept-locals t.code s kept.within;
    stack = kept-stack t.code s kept.within;
    whole = kept.forced.whole;
    row = IsSomeAnd-from_some (after_item t.program t.number t.code j s)
        (λ given. (next : ℕ) → IsNormalEdge t.code j next → FitsAt t.program new.states next given) after gives
        (λ next edge. on.fits next (IsSomeAnd-at_some (insn_of t.code j) (λ x. LeadsTo x j next) i is edge.leads) edge.inside);
    handlers = handlers_later t middle new j s t.code.handlers sound on.went.rises caught.fits;
  };
  inside = IsSomeAnd-from_some (insn_of t.code j) (λ x. falls_through x ≡ true → j + 1 < length t.code.items) i is
      (λ falls. next_inside t j (j + 1) i sound is on.stays (inr (falls, refl)));
}

pub GoesOver-item : (t : Task) (j : ℕ) (s after : TypeState) (i : Insn) (old middle new : Walked) → IsSound t → Stands t old
    → state_at old.states j ≡ Some s → insn_of t.code j ≡ Some i → after_item t.program t.number t.code j s ≡ Some after
    → BringsHandlers t j s t.code.handlers old middle → BringsOn t j i after middle new → GoesOver t j old new
GoesOver-item t j s after i old middle new sound stands at is gives caught on = record {
  went = Went-then t old middle new sound caught.went on.went;
  met = λ u also.
      let same : s ≡ u = cc in
      subst (λ (x : TypeState). IsMet t new.states j x) same
      (is_met t j s after i old middle new sound (stands.each j s at) is gives caught on);
}

-- an item without a state
pub GoesOver-none : (t : Task) (j : ℕ) (w : Walked) → IsSound t → Stands t w → state_at w.states j ≡ None → GoesOver t j w w
GoesOver-none t j w sound stands none = record { went = Went-none t w sound stands; met = λ s is. absurd cc }

-- ---- the walk

pub met_later : (t : Task) (a b : Walked) (j : ℕ) (s : TypeState) → IsSound t → Rises t.program.outline a b → IsMet t a.states j s → IsMet t b.states j s
met_later t a b j s sound rises met =
    let row = Some-from_some_and (after_item t.program t.number t.code j s)
    (λ given. (next : ℕ) → IsNormalEdge t.code j next → FitsAt t.program a.states next given) met.meets.row in
    record {
      meets = record {
        locals = met.meets.locals;
        stack = met.meets.stack;
        whole = met.meets.whole;
        row = IsSomeAnd-from_some (after_item t.program t.number t.code j s)
            (λ given. (next : ℕ) → IsNormalEdge t.code j next → FitsAt t.program b.states next given) row.0 row.1
            (λ next edge. fits_later t a b next row.0 sound rises (row.2 next edge));
        handlers = handlers_later t a b j s t.code.handlers sound rises met.meets.handlers;
      };
      inside = met.inside;
    }

-- an item is taken off the list
pub Stands-taken : (t : Task) (item : ℕ) (w taken : Walked) → Stands t w → Takes item w taken → Stands t taken
Stands-taken t item w taken stands takes =
    let seen : (j : ℕ) → state_at taken.states j ≡ state_at w.states j = λ j. ap (λ (states : List (Option TypeState)). state_at states j) takes.states in
    record {
      one_each = ap length takes.states ∙ stands.one_each;
      one_mark = ap length takes.leaves.marks ∙ length-set w.marks item false ∙ stands.one_mark;
      one_rise = ap length takes.risen ∙ length-set w.risen item (Some []) ∙ stands.one_rise;
      first = seen 0 ∙ stands.first;
      each = λ j s is. stands.each j s (sym (seen j) ∙ is);
    }

pub taken-inside : (t : Task) (item : ℕ) (w taken : Walked) → Stands t w → Takes item w taken → item < length t.code.items
taken-inside t item w taken stands takes =
    let marked = has_inside w.marks item takes.leaves.waited in let one = stands.one_mark in omega (arith, marked, one)

-- the item waits no longer, and nothing rose there from here on
pub takes-popped : (item : ℕ) (w popped taken : Walked) → Pops item w popped → taken ≡ with_risen item (Some []) popped → Takes item w taken
takes-popped item w popped taken pops is = record {
  states = ap (λ (x : Walked). x.states) is ∙ pops.states;
  leaves = record { waited = pops.leaves.waited; marks = ap (λ (x : Walked). x.marks) is ∙ pops.leaves.marks };
  risen = ap (λ (x : Walked). x.risen) is ∙ ap (λ risen. set risen item (Some [])) pops.risen;
}

pub popped-rise : (t : Task) (item : ℕ) (w popped : Walked) → Stands t w → Pops item w popped → item < length popped.risen
popped-rise t item w popped stands pops =
    let marked = has_inside w.marks item pops.leaves.waited in
    let one_mark = stands.one_mark in
    let one = stands.one_rise in
    let same = ap length pops.risen in
    omega (arith, marked, one_mark, one, same)

-- what rose at an item that was taken off the list, and at another one
taken-rise : (t : Task) (item : ℕ) (w taken : Walked) → Stands t w → Takes item w taken → risen_at taken item ≡ Some []
taken-rise t item w taken stands takes =
    let below = taken-inside t item w taken stands takes in
    let one = stands.one_rise in
    ap (λ (xs : List (Option (List SlotPlace))). get_or xs item None) takes.risen ∙ get_or-set_same w.risen item (Some []) None (omega arith)

other-rise : (item j : ℕ) (w taken : Walked) → Takes item w taken → j ≢ item → risen_at taken j ≡ risen_at w j
other-rise item j w taken takes apart =
    ap (λ (xs : List (Option (List SlotPlace))). get_or xs j None) takes.risen ∙ get_or-set_other w.risen item j (Some []) None apart

-- what is known of its state
pub taken-met : (t : Task) (item : ℕ) (w taken : Walked) → Walking t w → Takes item w taken → IsMetBut t taken.states (risen_at w item) item
taken-met t item w taken walking takes =
    subst (λ (states : List (Option TypeState)). IsMetBut t states (risen_at w item) item) (sym takes.states) (walking.closed item)

-- less is left to do once it was gone over
pub work-less : (t : Task) (item : ℕ) (w taken new : Walked) → Takes item w taken → Went t taken new → work_left t new < work_left t w
work-less t item w taken new takes went =
    let falls = went.falls in
    let one : Bool → ℕ = λ mark. cond mark 1 0 in
    let sums : count_by (λ mark. mark) (set w.marks item false) + one (get_or w.marks item false) ≡ waiting_count w + one false =
    sum_by-set one w.marks item false false (has_inside w.marks item takes.leaves.waited) in
    let was : one (get_or w.marks item false) ≡ 1 = ap one takes.leaves.waited in
    let marks : waiting_count taken ≡ count_by (λ mark. mark) (set w.marks item false) = ap (λ (xs : List Bool). count_by (λ mark. mark) xs) takes.leaves.marks in
    let states = ap (λ (xs : List (Option TypeState)). sum_by (rank_at t.program.outline t.code) xs) takes.states in
    omega (arith, falls, sums, was, marks, states)

-- an item that was nearly met, and whose state then rose
nearly-tracked : (t : Task) (a b : Walked) (j : ℕ) (few locals : List SlotPlace) (before s : TypeState) → IsSound t → Rises t.program.outline a b
    → ((k : SlotPlace) → Contains few k → Contains locals k) → IsNearlyMet t a.states few j before → IsAlikeBut locals s before
    → state_fits t.program.outline before s ≡ true → IsNearlyMet t b.states locals j s
nearly-tracked t a b j few locals before s sound rises among nearly alike fits = record {
  before = nearly.before;
  met = met_later t a b j nearly.before sound rises nearly.met;
  alike = alike-then few locals s before nearly.before among alike nearly.alike;
  below = state-trans t.program.outline sound.tree nearly.before before s nearly.below fits;
}

-- a state that was there before fits the one that is there now
risen-above : (t : Task) (a b : Walked) (j : ℕ) (before s : TypeState) → Rises t.program.outline a b → state_at a.states j ≡ Some before
    → state_at b.states j ≡ Some s → state_fits t.program.outline before s ≡ true
risen-above t a b j before s rises was is =
    let found = fits_one t b.states j before (rises.rises j before was) in
    let same : found.state ≡ s = same_value (state_at b.states j) found.state s found.is is in
    ap (state_fits t.program.outline before) (sym same) ∙ found.fits

-- and gone over
pub Walking-more : (t : Task) (item : ℕ) (w taken new : Walked) → IsSound t → Walking t w → Takes item w taken → GoesOver t item taken new → Walking t new
Walking-more t item w taken new sound walking takes goes = record {
  stands = goes.went.stands;
  closed = λ j s locals is known.
      let tracked = goes.went.rises.tracks j locals s known is in
      ⊎_elim
      (λ (this : j ≡ item).
      record {
        before = tracked.before;
        met = subst (λ (n : ℕ). IsMet t new.states n tracked.before) (sym this)
            (goes.met tracked.before (ap (λ (n : ℕ). state_at taken.states n) (sym this) ∙ tracked.was));
        alike = tracked.alike;
        below = risen-above t taken new j tracked.before s goes.went.rises tracked.was is;
      })
      (λ (apart : j ≢ item).
      let was : state_at w.states j ≡ Some tracked.before = ap (λ (states : List (Option TypeState)). state_at states j) (sym takes.states) ∙ tracked.was in
      let nearly = walking.closed j tracked.before tracked.known was (sym (other-rise item j w taken takes apart) ∙ tracked.is_known) in
      let moved = subst (λ (states : List (Option TypeState)). IsNearlyMet t states tracked.known j tracked.before) (sym takes.states) nearly in
      nearly-tracked t taken new j tracked.known locals tracked.before s sound goes.went.rises tracked.among moved tracked.alike
      (risen-above t taken new j tracked.before s goes.went.rises tracked.was is))
      (cases_eq j item);
  quiet = λ j s is.
      ⊎_elim
      (λ (same : (state_at new.states j ≡ state_at taken.states j) × (risen_at new j ≡ risen_at taken j)).
      ⊎_elim
      (λ (this : j ≡ item). inl (same.1 ∙ ap (risen_at taken) this ∙ taken-rise t item w taken walking.stands takes))
      (λ (apart : j ≢ item).
      let was : state_at w.states j ≡ Some s = ap (λ (states : List (Option TypeState)). state_at states j) (sym takes.states) ∙ sym same.0 ∙ is in
      ⊎_elim (λ (none : risen_at w j ≡ Some []). inl (same.1 ∙ other-rise item j w taken takes apart ∙ none))
      (λ (waited : is_marked w j ≡ true).
      inr (goes.went.rises.still j
      (ap (λ (xs : List Bool). get_or xs j false) takes.leaves.marks ∙ get_or-set_other w.marks item j false false apart ∙ waited)))
      (walking.quiet j s was))
      (cases_eq j item))
      (λ waits. inr waits)
      (goes.went.rises.changed j);
}

-- ---- the end

-- states that are alike but for no local
alike_none : (s other : TypeState) → IsAlikeBut [] s other → s ≡ other
alike_none s other h =
    let locals : s.locals ≡ other.locals =
    same_locals s.locals other.locals h.locals.size (λ k. h.locals.apart k (λ found. let inside = found.1 in omega arith)) in
    let words : reverse s.stack ≡ reverse other.stack =
    same_locals (reverse s.stack) (reverse other.stack) h.words.size (λ k. h.words.apart k (λ found. let inside = found.1 in omega arith)) in
    let stack : s.stack ≡ other.stack = sym (reverse-reverse s.stack) ∙ ap reverse words ∙ reverse-reverse other.stack in
    ap (λ x. record s { locals = x }) locals
    ∙ ap (λ x. record s { locals = other.locals; stack = x }) stack
    ∙ ap (λ x. record s { locals = other.locals; stack = other.stack; built = x }) h.built

settled_met : (t : Task) (w : Walked) (j : ℕ) (s : TypeState) → HasSettled t w → state_at w.states j ≡ Some s → IsMet t w.states j s
settled_met t w j s settled is =
    ⊎_elim
    (λ (none : risen_at w j ≡ Some []).
    let nearly = settled.walking.closed j s [] is none in
    subst (λ (x : TypeState). IsMet t w.states j x) (sym (alike_none s nearly.before nearly.alike)) nearly.met)
    (λ (waits : is_marked w j ≡ true). absurd (false≢true (sym (settled.done j) ∙ waits)))
    (settled.walking.quiet j s is)

some_fits : (t : Task) (states : List (Option TypeState)) (j : ℕ) (s : TypeState) → FitsAt t.program states j s → (u : TypeState) × (state_at states j ≡ Some u)
some_fits t states j s h = let found = fits_one t states j s h in (found.state, found.is)

-- where an item has a state, so have the ends of its edges
edge_state : (t : Task) (w : Walked) (j next : ℕ) (s : TypeState) → HasSettled t w → state_at w.states j ≡ Some s → IsEdge t.code j next
    → (u : TypeState) × (state_at w.states next ≡ Some u)
edge_state t w j next s settled is (inl edge) =
    let met = settled_met t w j s settled is in
    let row = Some-from_some_and (after_item t.program t.number t.code j s)
    (λ given. (next : ℕ) → IsNormalEdge t.code j next → FitsAt t.program w.states next given) met.meets.row in
    some_fits t w.states next row.0 (row.2 next edge)
edge_state t w j next s settled is (inr edge) = by_entry edge.caught where
  by_entry : Any (Catches j next) t.code.handlers → (u : TypeState) × (state_at w.states next ≡ Some u)
  by_entry (k, h, inside, there, catches) =
      let met = settled_met t w j s settled is in
      let same = catches.handler_is in
      let own : Catches j h.handler h = record { after_start = catches.after_start; before_end = catches.before_end; handler_is = refl } in
      let fits = each_handler (FitsHandler t.program t.number w.states j s) t.code.handlers h (k, inside, there) met.meets.handlers own in
      let caught = Some-from_some_and (caught_type t.program t.number h) (λ c. FitsAt t.program w.states h.handler (handler_state c s)) fits in
      let found = some_fits t w.states h.handler (handler_state caught.0 s) caught.2 in
      (found.0, ap (λ (n : ℕ). state_at w.states n) (sym same) ∙ found.1)

path_state : (t : Task) (w : Walked) (path : List ℕ) (a b : ℕ) (s : TypeState) → HasSettled t w → state_at w.states a ≡ Some s → IsFlowPath t.code a path b
    → is_some (state_at w.states b) ≡ true
path_state t w [] a b s settled is same = ap is_some (ap (λ (n : ℕ). state_at w.states n) (sym same) ∙ is)
path_state t w (next ∷ path) a b s settled is (edge, rest) =
    let found = edge_state t w a next s settled is edge in
    path_state t w path next b found.0 settled found.1 rest

some-state : (o : Option TypeState) → is_some o ≡ true → (s : TypeState) × (o ≡ Some s)
some-state (Some s) h = (s, refl)
some-state None h = absurd (false≢true h)

-- the states are a typing
pub settled-typing : (t : Task) (w : Walked) → HasSettled t w → IsTypingOf t.program t.number t.code w.states
settled-typing t w settled =
    let stands = settled.walking.stands in
    let reached : (j : ℕ) → IsReachable t.code j → is_some (state_at w.states j) ≡ true = λ j reachable.
    path_state t w reachable.0 0 j (entry_state t.program.outline t.number t.code) settled stands.first reachable.1 in
    record {
      one_each = stands.one_each;
      reachable = λ j. (λ is. let found = some-state (state_at w.states j) is in (stands.each j found.0 found.1).forced.reachable, reached j);
      stays_inside = λ off.
          let found = some-state (state_at w.states off.item) (reached off.item off.reachable) in
          let met = settled_met t w off.item found.0 settled found.1 in
          let insn = Some-from_some_and (insn_of t.code off.item) (λ i. falls_through i ≡ true) off.falls in
          let inside = IsSomeAnd-at_some (insn_of t.code off.item) (λ i. falls_through i ≡ true → off.item + 1 < length t.code.items) insn.0 insn.1 met.inside insn.2 in
          let last = off.last in omega arith;
      first = stands.first;
      items = λ j s is. (settled_met t w j s settled is).meets;
    }

-- and fit those of each typing
pub settled-least : (t : Task) (w : Walked) → HasSettled t w → (states : List (Option TypeState)) → IsTypingOf t.program t.number t.code states
    → (j : ℕ) (s : TypeState) → state_at w.states j ≡ Some s → FitsAt t.program states j s
settled-least t w settled states typing j s is = (settled.walking.stands.each j s is).forced.below states typing

-- ---- the beginning

no_state : (n j : ℕ) → state_at (replicate n None) j ≡ None
no_state n j =
    ⊎_elim (λ (below : j < n). get_or-replicate n j None None below)
    (λ (past : n ≤ j). get_or_past (replicate n None) j None (let size = length-replicate {A = Option TypeState} n None in omega arith))
    (cases_lt j n)

pub entry_forced : (t : Task) → IsSound t → IsForced t 0 (entry_state t.program.outline t.number t.code)
unfolding entry_state
entry_forced t sound = record {
  reachable = ([], refl);
  inside = (items_counted t.code sound.rules).0;
  whole = refl;
  below = λ states typing.
      fits_at t states 0 (entry_state t.program.outline t.number t.code) (entry_state t.program.outline t.number t.code) typing.first
      (state-refl t.program.outline sound.tree (entry_state t.program.outline t.number t.code));
}

-- nothing is noted yet
abbrev unnoted : ℕ → List (Option (List SlotPlace))
unnoted n = replicate n None

none_risen : (n j : ℕ) → get_or (set (unnoted n) 0 None) j None ≡ None
none_risen zero j = refl
none_risen (suc n) zero = refl
none_risen (suc n) (suc j) =
    ⊎_elim (λ (below : j < n). get_or-replicate {A = Option (List SlotPlace)} n j None None below)
    (λ (past : n ≤ j). get_or_past (unnoted n) j None (let size = length-replicate {A = Option (List SlotPlace)} n None in omega arith))
    (cases_lt j n)

-- only the first item has a state, and waits
pub Walking-first : (t : Task) (s : TypeState) → IsSound t → s ≡ entry_state t.program.outline t.number t.code → is_within t.code s ≡ true
    → Walking t (with_state 0 None s (not_begun (length t.code.items)))
Walking-first t s sound is within =
    let n = length t.code.items in
    let entry = entry_state t.program.outline t.number t.code in
    let put : Walked = record (not_begun n) { states = set (replicate n None) 0 (Some s); risen = set (replicate n None) 0 None } in
    let some = (items_counted t.code sound.rules).0 in
    let marks = length-replicate n false in
    let waits = with_waiting-waits 0 put (omega (arith, some, marks)) in
    let size : length (replicate n None) ≡ n = length-replicate {A = Option TypeState} n None in
    let kept : IsKept t 0 s = record { forced = subst (λ (x : TypeState). IsForced t 0 x) (sym is) (entry_forced t sound); within = within } in
    let seen : (j : ℕ) → state_at (with_state 0 None s (not_begun n)).states j ≡ state_at (set (replicate n None) 0 (Some s)) j =
    λ j. ap (λ (states : List (Option TypeState)). state_at states j) waits.states in
    let only : (j : ℕ) (u : TypeState) → state_at (with_state 0 None s (not_begun n)).states j ≡ Some u → (j ≡ 0) × (s ≡ u) = λ j u there.
    ⊎_elim
    (λ (this : (j ≡ 0) × (state_at (set (replicate n None) 0 (Some s)) j ≡ Some s)).
    (this.0, same_value (state_at (set (replicate n None) 0 (Some s)) j) s u this.1 (sym (seen j) ∙ there)))
    (λ (other : (j ≢ 0) × (state_at (set (replicate n None) 0 (Some s)) j ≡ state_at (replicate n None) j)).
    let never : None ≡ Some u = sym (no_state n j) ∙ sym other.1 ∙ sym (seen j) ∙ there in absurd cc)
    (given_at (replicate n None) 0 j s (omega arith)) in
    record {
      stands = record {
        one_each = ap length waits.states ∙ length-set (replicate n None) 0 (Some s) ∙ size;
        one_mark = waits.one_mark ∙ length-replicate n false;
        one_rise = ap length waits.risen ∙ length-set (replicate n None) 0 None ∙ length-replicate {A = Option (List SlotPlace)} n None;
        first = seen 0 ∙ get_or-set_same (replicate n None) 0 (Some s) None (omega arith) ∙ ap Some is;
        each = λ j u there.
            let found = only j u there in
            subst (λ (k : ℕ). IsKept t k u) (sym found.0) (subst (λ (x : TypeState). IsKept t 0 x) found.1 kept);
      };
      closed = λ j u locals there known.
          let never : None ≡ Some locals =
          sym (none_risen n j) ∙ ap (λ (xs : List (Option (List SlotPlace))). get_or xs j None) (sym waits.risen) ∙ known in
          absurd cc;
      quiet = λ j u there. inr (subst (λ (k : ℕ). is_marked (with_state 0 None s (not_begun n)) k ≡ true) (sym (only j u there).0) waits.listed);
    }

pub settled-is_least : (t : Task) (w : Walked) → HasSettled t w → IsLeast t w.states
settled-is_least t w settled = record { typing = settled-typing t w settled; least = settled-least t w settled }
