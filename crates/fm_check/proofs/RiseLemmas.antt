-- Slots that are carried on: that an item is met of which some places were carried on.
use Rattle.std.proofs.Common.{◌≡◌, refl, sym, ◌∙◌, ap, ⊎_elim, ℕ, ◌+◌, ◌-◌, ◌<◌, ◌==◌, ◌&&◌, Bool, true, false, List, [], ◌∷◌, length, map, take, get_or, All, Option, Some, None, Contains, subst, arith}
use Rattle.std.specs.Prelude.{IsSomeAnd}
use Rattle.std.specs.List.{AllByRecursion, AllZip}
use Rattle.std.proofs.lemmas.Bool.{eqb-true}
use Rattle.std.proofs.lemmas.List.Elements.{All-contains, Contains-get_or, recursion_from_All}
use Rattle.fm_check_walk.proofs.CarryLemmas.{all_held, all_room_later, room_fits, slot_carried}
use Rattle.fm_base.proofs.OptionFacts.{IsSomeAnd-at_some, IsSomeAnd-from_some, Some-from_some_and}
use Rattle.fm_base.specs.declared.kinds.TypeRef.{TypeRef}
use Rattle.fm_check.proofs.ItemLemmas.{after-row, item_small, leads_from, leads_to, met_later, next_forced, next_inside}
use Rattle.fm_check_handlers.proofs.HandlerLemmas.{caught_alike, caught_forced, each_handler, locals_held, locals_in}
use Rattle.fm_check_walk.proofs.WalkLemmas.{kept-locals, kept-stack, fits_one, Went-none, Went-then}
use Rattle.fm_check_walk.proofs.PlaceLemmas.{same_longs}
use Rattle.fm_check_walk.proofs.RowFrames.{row-carried}
use Rattle.fm_types.specs.declared.known_state.SlotPlace.{SlotPlace}
use Rattle.fm_check_walk.specs.declared.risen.Rise.{Rise}
use Rattle.fm_check_walk.specs.inner.Risen.{is_local, IsAlikeBut, IsCarried, IsLeftAlone, leaves_alone, locals_of, rise_of, words_taken}
use Rattle.fm_types.specs.inner.Places.{slot_at}
use Rattle.fm_check_handlers.specs.declared.runs.Level.{Level}
use Rattle.fm_check_handlers.specs.inner.Runs.{GivesAll, has_room}
use Rattle.fm_check_walk.specs.inner.Walks.{Carries, HasRoom, IsForced, IsKept, Stands, Walked}
use Rattle.fm_check.specs.inner.Steps.{CarriesAll, CarriesOn, falls_off, GoesOver, HandlerHasRoom, IsMet, IsNearlyMet, IsReady, next_items}
use Rattle.fm_check_walk.specs.inner.Tasks.{IsSound, Task}
use Rattle.fm_code.proofs.EdgesLemmas.{Contains-filter, Contains-from_filter, Contains-map}
use Rattle.fm_code.specs.Edges.{Catches, falls_through, insn_of, IsNormalEdge, LeadsTo}
use Rattle.fm_code.specs.declared.code_array.Handler.{Handler}
use Rattle.fm_code.specs.declared.instructions.Insn.{Insn}
use Rattle.fm_flow.proofs.RisingLemmas.{Contains-take_more}
use Rattle.fm_types.proofs.StateOrder.{IsShaped}
use Rattle.fm_types.proofs.Zips.{Follows}
use Rattle.fm_types.specs.Rows.{row_after}
use Rattle.fm_types.specs.States.{state_fits, TypeState}
use Rattle.fm_types.specs.Typed.{after_item, caught_type, FitsAt, FitsHandler, handler_state, made_at, state_at, use_by}
use Rattle.fm_world.specs.Programs.{Outline}
use Rattle.fm_world.specs.declared.uses.Use.{Use}

-- ---- several items

pub CarriesAll-none : (t : Task) (rises : List Rise) (w : Walked) → IsSound t → Stands t w → CarriesAll t [] rises w w
CarriesAll-none t rises w sound stands =
    record { went = Went-none t w sound stands; room = λ item found. absurd (let inside = found.1 in omega arith) }

pub CarriesAll-more : (t : Task) (items : List ℕ) (rises : List Rise) (k : ℕ) (a b c : Walked) → IsSound t → k < length items
    → CarriesAll t (take k items) rises a b → Carries t (get_or items k 0) rises b c → CarriesAll t (take (k + 1) items) rises a c
CarriesAll-more t items rises k a b c sound inside so_far one = record {
  went = Went-then t a b c sound so_far.went one.went;
  room = λ item found.
      ⊎_elim (λ earlier. all_room_later t b c item rises sound one.went.rises (so_far.room item earlier))
      (λ (same : get_or items k 0 ≡ item). subst (λ (n : ℕ). All (HasRoom t c.states n) rises) same one.room)
      ((Contains-take_more items k item inside).0 found);
}

pub CarriesOn-both : (t : Task) (item : ℕ) (i : Insn) (rises : List Rise) (given : List Level) (a b c : Walked) → IsSound t
    → GivesAll (has_room t (locals_of rises)) t item given a b → CarriesAll t (next_items i item) rises b c → CarriesOn t item i rises a c
CarriesOn-both t item i rises given a b c sound caught all = record {
  went = Went-then t a b c sound caught.went all.went;
  handlers = recursion_from_All (HandlerHasRoom t c.states item (locals_of rises)) t.code.handlers (λ n d below.
      let h = get_or t.code.handlers n d in
      λ (catches : Catches item h.handler h).
      all_room_later t b c h.handler (locals_of rises) sound all.went.rises
      (caught.done h (record { listed = Contains-get_or t.code.handlers n d below; after_start = catches.after_start; before_end = catches.before_end })));
  items = all.room;
}

-- ---- the rows of states that are alike

-- the words that lie below those that the row of an item takes
abbrev pub words_below : Task → Insn → TypeState → ℕ
words_below t i s = length s.stack - words_taken t.program.outline (use_by t.program t.number i) i

-- the state after an item, beside that after a state like its own
record AfterAlike (t : Task) (j : ℕ) (places : List SlotPlace) (s known : TypeState) : Type 0 where
  after : TypeState
  is : after_item t.program t.number t.code j s ≡ Some after
  carried : IsCarried (λ p. Contains places p) (slot_at s) after known

after_alike : (t : Task) (j : ℕ) (i : Insn) (places : List SlotPlace) (s before known : TypeState) → insn_of t.code j ≡ Some i → IsAlikeBut places s before
    → AllZip IsShaped s.stack before.stack
    → ((p : SlotPlace) → Contains places p → leaves_alone i (words_below t i s) p (slot_at s p) ≡ true)
    → after_item t.program t.number t.code j before ≡ Some known → AfterAlike t j places s known
after_alike t j i places s before known is alike shaped alone gives =
    by_given (row_after o t.number j news used i s) (row_after o t.number j news used i before) (after-row t j i s is)
    (sym (after-row t j i before is) ∙ gives)
    (row-carried (λ p. Contains places p) (slot_at s) o t.number j news used i s before shaped alone alike) where
      o : Outline
      o = t.program.outline

      news : ℕ → Option TypeRef
      news = made_at t.program t.number t.code

      used : Use
      used = use_by t.program t.number i

      by_given : (x y : Option TypeState) → after_item t.program t.number t.code j s ≡ x → y ≡ Some known
          → Follows (IsCarried (λ p. Contains places p) (slot_at s)) x y → AfterAlike t j places s known
      by_given x None e f h = absurd cc
      by_given None (Some b) e f h = absurd h
      by_given (Some a) (Some b) e f h =
          let same : b ≡ known = cc in
          record { after = a; is = e; carried = subst (IsCarried (λ p. Contains places p) (slot_at s) a) same h }

left_alone : (i : Insn) (below : ℕ) (s : TypeState) (places : List SlotPlace) → All (IsLeftAlone i below) (map (rise_of s) places) → (p : SlotPlace)
    → Contains places p → leaves_alone i below p (slot_at s p) ≡ true
left_alone i below s places all p found =
    All-contains (IsLeftAlone i below) (map (rise_of s) places) (rise_of s p) all (Contains-map (rise_of s) places p found)

-- the places of which it was asked
pub asked-alone : (i : Insn) (below words : ℕ) (s : TypeState) (places asked : List SlotPlace) (rises given : List Rise) → given ≡ rises
    → rises ≡ map (rise_of s) asked → asked ≡ places → below ≡ words → All (IsLeftAlone i below) given → All (IsLeftAlone i words) (map (rise_of s) places)
asked-alone i below words s places asked rises given same found all enough h =
    subst (λ (n : ℕ). All (IsLeftAlone i n) (map (rise_of s) places)) enough
    (subst (λ (xs : List Rise). All (IsLeftAlone i below) xs) (same ∙ found ∙ ap (λ (ps : List SlotPlace). map (rise_of s) ps) all) h)

-- those of locals are
pub rises_local : (rises : List Rise) (rise : Rise) → Contains (locals_of rises) rise → is_local rise.place ≡ true
rises_local rises rise found = (Contains-from_filter (λ (r : Rise). is_local r.place) rises rise found).1

-- ---- an item of which some places are carried on

stays_inside : (t : Task) (j : ℕ) (i : Insn) → insn_of t.code j ≡ Some i
    → IsSomeAnd (insn_of t.code j) (λ i. falls_through i ≡ true → j + 1 < length t.code.items) → falls_off t.code i j ≡ false
stays_inside t j i is inside = by_tests (falls_through i) (j + 1 == length t.code.items) refl refl where
  by_tests : (p q : Bool) → falls_through i ≡ p → (j + 1 == length t.code.items) ≡ q → (p && q) ≡ false
  by_tests false q e f = refl
  by_tests true false e f = refl
  by_tests true true e f =
      let below = IsSomeAnd-at_some (insn_of t.code j) (λ i. falls_through i ≡ true → j + 1 < length t.code.items) i is inside e in
      let last = eqb-true (j + 1) (length t.code.items) f in
      absurd (omega (arith, below, last))

-- the longs of a state are where they were
longs_kept : (t : Task) (w : Walked) (j : ℕ) (s before : TypeState) → IsKept t j s → IsMet t w.states j before
    → state_fits t.program.outline before s ≡ true → AllZip IsShaped s.stack before.stack
longs_kept t w j s before kept met below = same_longs t.program.outline s before below met.meets.whole kept.forced.whole

-- what is asked before
pub ready : (t : Task) (j : ℕ) (i : Insn) (s : TypeState) (places : List SlotPlace) (w : Walked) → IsSound t → Stands t w → state_at w.states j ≡ Some s
    → insn_of t.code j ≡ Some i → IsNearlyMet t w.states places j s → All (IsLeftAlone i (words_below t i s)) (map (rise_of s) places)
    → IsReady t w j i (map (rise_of s) places)
ready t j i s places w sound stands at is nearly alone = record {
  small = item_small t j i sound (record { reachable = forced.reachable; is = is });
  handlers = λ h listed catches.
      let fits = each_handler (FitsHandler t.program t.number w.states j nearly.before) t.code.handlers h listed nearly.met.meets.handlers catches in
      let caught = Some-from_some_and (caught_type t.program t.number h) (λ c. FitsAt t.program w.states h.handler (handler_state c nearly.before)) fits in
      let found = fits_one t w.states h.handler (handler_state caught.0 nearly.before) caught.2 in
      record {
        state = found.state;
        there = found.is;
        brought = handler_state caught.0 s;
        forced = caught_forced t j h caught.0 s sound forced listed catches.after_start catches.before_end caught.1;
        slots = locals_held s caught.0 (map (rise_of s) places) (all_held s s places (λ p within. refl));
      };
  items = λ next found.
      let leads = leads_from i j next found in
      let inside = next_inside t j next i sound is (stays_inside t j i is nearly.met.inside) leads in
      let edge : IsNormalEdge t.code j next = record { inside = inside; leads = IsSomeAnd-from_some (insn_of t.code j) (λ x. LeadsTo x j next) i is leads } in
      let there = fits_one t w.states next row.0 (row.2 next edge) in
      record {
        state = there.state;
        there = there.is;
        brought = after.after;
        forced = next_forced t j next i s after.after sound forced is after.is leads inside;
        slots = all_held s after.after places
            (λ p within. slot_carried (λ q. Contains places q) (slot_at s) after.after row.0 p after.carried within);
      };
} where
  kept : IsKept t j s
  kept = stands.each j s at

  forced : IsForced t j s
  forced = kept.forced

  row : (known : TypeState) × (after_item t.program t.number t.code j nearly.before ≡ Some known)
      × ((next : ℕ) → IsNormalEdge t.code j next → FitsAt t.program w.states next known)
  row =
      Some-from_some_and (after_item t.program t.number t.code j nearly.before)
      (λ known. (next : ℕ) → IsNormalEdge t.code j next → FitsAt t.program w.states next known) nearly.met.meets.row

  after : AfterAlike t j places s row.0
  after = after_alike t j i places s nearly.before row.0 is nearly.alike (longs_kept t w j s nearly.before kept nearly.met nearly.below)
      (left_alone i (words_below t i s) s places alone) row.1

-- there is room at each of the places
room_at : (t : Task) (states : List (Option TypeState)) (j : ℕ) (s : TypeState) (places : List SlotPlace) → All (HasRoom t states j) (map (rise_of s) places)
    → (p : SlotPlace) → Contains places p → HasRoom t states j (rise_of s p)
room_at t states j s places room p among =
    All-contains (HasRoom t states j) (map (rise_of s) places) (rise_of s p) room (Contains-map (rise_of s) places p among)

-- and at those of locals
local_room_at : (t : Task) (states : List (Option TypeState)) (j : ℕ) (s : TypeState) (places : List SlotPlace)
    → All (HasRoom t states j) (locals_of (map (rise_of s) places)) → (p : SlotPlace) → Contains (locals_in places) p → HasRoom t states j (rise_of s p)
local_room_at t states j s places room p among =
    let found = Contains-from_filter is_local places p among in
    All-contains (HasRoom t states j) (locals_of (map (rise_of s) places)) (rise_of s p) room
    (Contains-filter (λ (r : Rise). is_local r.place) (map (rise_of s) places) (rise_of s p) (Contains-map (rise_of s) places p found.0) found.1)

both_by_recursion : (P Q R : Handler → Type 0) → ((h : Handler) → P h → Q h → R h) → (hs : List Handler) → AllByRecursion P hs → AllByRecursion Q hs
    → AllByRecursion R hs
both_by_recursion P Q R each [] p q = tt
both_by_recursion P Q R each (h ∷ hs) p q = (each h p.0 q.0, both_by_recursion P Q R each hs p.1 q.1)

-- and what is left after
pub GoesOver-carried : (t : Task) (j : ℕ) (i : Insn) (s : TypeState) (places : List SlotPlace) (w new : Walked) → IsSound t → Stands t w
    → state_at w.states j ≡ Some s → insn_of t.code j ≡ Some i → IsNearlyMet t w.states places j s
    → All (IsLeftAlone i (words_below t i s)) (map (rise_of s) places)
    → CarriesOn t j i (map (rise_of s) places) w new → GoesOver t j w new
GoesOver-carried t j i s places w new sound stands at is nearly alone carries = record {
  went = carries.went;
  met = λ u also. let same : s ≡ u = cc in subst (λ (x : TypeState). IsMet t new.states j x) same is_met;
} where
  kept : IsKept t j s
  kept = stands.each j s at

  met : IsMet t new.states j nearly.before
  met = met_later t w new j nearly.before sound carries.went.rises nearly.met

  row : (known : TypeState) × (after_item t.program t.number t.code j nearly.before ≡ Some known)
      × ((next : ℕ) → IsNormalEdge t.code j next → FitsAt t.program new.states next known)
  row =
      Some-from_some_and (after_item t.program t.number t.code j nearly.before)
      (λ known. (next : ℕ) → IsNormalEdge t.code j next → FitsAt t.program new.states next known) met.meets.row

  after : AfterAlike t j places s row.0
  after = after_alike t j i places s nearly.before row.0 is nearly.alike (longs_kept t new j s nearly.before kept met nearly.below)
      (left_alone i (words_below t i s) s places alone) row.1

  on_handler : (h : Handler) → FitsHandler t.program t.number new.states j nearly.before h
      → HandlerHasRoom t new.states j (locals_of (map (rise_of s) places)) h → FitsHandler t.program t.number new.states j s h
  on_handler h fitting room catches =
      let caught = Some-from_some_and (caught_type t.program t.number h) (λ c. FitsAt t.program new.states h.handler (handler_state c nearly.before))
      (fitting catches) in
      IsSomeAnd-from_some (caught_type t.program t.number h) (λ c. FitsAt t.program new.states h.handler (handler_state c s)) caught.0 caught.1
      (room_fits t new.states h.handler (locals_in places) (slot_at s) (handler_state caught.0 s) (handler_state caught.0 nearly.before)
      (caught_alike places s nearly.before caught.0 nearly.alike) caught.2 (local_room_at t new.states h.handler s places (room catches)))

  is_met : IsMet t new.states j s
  is_met = record {
    meets = record {
      locals = kept-locals t.code s kept.within;
      stack = kept-stack t.code s kept.within;
      whole = kept.forced.whole;
      row = IsSomeAnd-from_some (after_item t.program t.number t.code j s)
          (λ given. (next : ℕ) → IsNormalEdge t.code j next → FitsAt t.program new.states next given) after.after after.is
          (λ next edge.
          room_fits t new.states next places (slot_at s) after.after row.0 after.carried (row.2 next edge)
          (room_at t new.states next s places
          (carries.items next (leads_to i j next (IsSomeAnd-at_some (insn_of t.code j) (λ x. LeadsTo x j next) i is edge.leads)))));
      handlers = both_by_recursion (FitsHandler t.program t.number new.states j nearly.before)
          (HandlerHasRoom t new.states j (locals_of (map (rise_of s) places))) (FitsHandler t.program t.number new.states j s) on_handler t.code.handlers
          met.meets.handlers carries.handlers;
    };
    inside = met.inside;
  }
