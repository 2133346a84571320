-- What items give to handlers by runs: a state that has room for what they gave, and that all handlers of a run's entries have room for it.
use Rattle.std.proofs.Common.{◌≡◌, refl, sym, ◌∙◌, ap, inl, inr, ◌⊎◌, ⊎_elim, ℕ, suc, ◌+◌, ◌/◌, ◌<◌, ◌≤◌, ◌||◌, not, Bool, true, false, List, [], ◌∷◌, ◌++◌, length, map, take, get_or, set, All, Option, Some, None, Contains, subst, arith}
use Rattle.std.specs.Prelude.{IsSomeAnd}
use Rattle.std.proofs.Math.Seq.{map-set_same}
use Rattle.std.proofs.lemmas.Bool.{cases_lt, false≢true}
use Rattle.std.proofs.lemmas.List.{get_or-map, get_or_past, length-map, take_more}
use Rattle.std.proofs.lemmas.List.Elements.{All-contains, Contains-append_left, Contains-get_or, Contains-push, Contains-push_cases, recursion_from_All}
use Rattle.fm_base.proofs.ContainsFacts.{Contains-none}
use Rattle.fm_base.proofs.OptionFacts.{IsSomeAnd-at_some, IsSomeAnd-from_some, same_value, Some-from_some_and}
use Rattle.fm_base.specs.declared.kinds.TypeRef.{TypeRef}
use Rattle.fm_check_handlers.proofs.HandlerLemmas.{caught_forced, each_handler, caught_alike, locals_in}
use Rattle.fm_check_walk.proofs.WalkLemmas.{kept-locals, fits_at, fits_later, fits_one, FitsOne, Went-none, Went-then}
use Rattle.fm_check_walk.proofs.MergingLemmas.{built-trans, fits-from, fits-parts, FitsByParts}
use Rattle.fm_check_walk.proofs.PlaceLemmas.{place_wanted, slot-fits, with_slot-above, with_slot-alike, with_slot-read, zip-from}
use Rattle.fm_check_walk.proofs.CarryLemmas.{all_held, all_room_later, can_carry_later, raised_forced, room_fits}
use Rattle.fm_check_handlers.proofs.RunLemmas.{Contains-set_cases, got_entries, inside_level}
use Rattle.fm_check_walk.proofs.RisenLemmas.{alike-more, alike-refl, alike-then}
use Rattle.fm_types.specs.declared.known_state.KnownState.{KnownState}
use Rattle.fm_types.specs.declared.known_state.SlotPlace.{SlotPlace}
use Rattle.fm_types.specs.declared.known_state.SlotPlace.TheVariants as place
use Rattle.fm_check_walk.specs.declared.risen.Rise.{Rise}
use Rattle.fm_check_handlers.specs.declared.catching.Giving.{Giving}
use Rattle.fm_check_handlers.specs.declared.catching.Giving.TheVariants as giving
use Rattle.fm_check_handlers.specs.declared.runs.Level.{Level}
use Rattle.fm_check_handlers.specs.declared.runs.Run.{Run}
use Rattle.fm_check_walk.specs.inner.Risen.{AreBeside, is_local, rise_of}
use Rattle.fm_types.specs.inner.Places.{HasPlace, slot_at, with_slot, without_words}
use Rattle.fm_check_handlers.specs.inner.Runs.{AreGiven, AreLeft, entries_at, entries_in, entries_of, GivesAll, GivesLevel, GivesLevels, GivesRun, halved, has_room, Holds, is_brought, is_open, is_open_to, is_taken, IsAsked, IsCovered, IsGiven, IsGuarded, IsHeld, IsLaid, IsRaised, LeavesAll, MayGive, RaisesOne, RaisesRun, shape, Wanted, BringsHandlers, CarriesHandlers}
use Rattle.fm_check_walk.specs.inner.Walks.{CanCarry, HasRoom, IsForced, Rises, Stands, Walked, Went}
use Rattle.fm_check_walk.specs.inner.Tasks.{is_within, IsSound, Task}
use Rattle.fm_code.proofs.EdgesLemmas.{Contains-from_filter, Contains-map}
use Rattle.fm_code.specs.Edges.{Catches}
use Rattle.fm_code.specs.declared.code_array.Handler.{Handler}
use Rattle.fm_types.proofs.LeastJoins.{join-least}
use Rattle.fm_types.proofs.Order.{fits-refl, fits-trans}
use Rattle.fm_types.proofs.StateOrder.{Fitting}
use Rattle.fm_types.specs.Fits.{fits}
use Rattle.fm_types.specs.Joins.{IsJoin, join}
use Rattle.fm_types.specs.States.{local_at, TypeState}
use Rattle.fm_types.specs.Typings.{known_state, type_state}
use Rattle.fm_types.specs.Typed.{caught_type, FitsAt, FitsHandler, handler_state, state_at}
use Rattle.fm_types.specs.declared.slots.Slot.{Slot}
use Rattle.fm_types.specs.declared.slots.Slot.TheVariants as slot
use Rattle.fm_world.specs.Programs.{Outline}

-- ---- a state is raised

-- it has room
pub RaisesOne-none : (t : Task) (rise : Rise) (s : TypeState) (places : List SlotPlace) → IsSound t → fits t.program.outline rise.slot (slot_at s rise.place) ≡ true
    → RaisesOne t rise s s places places
RaisesOne-none t rise s places sound room = record {
  still = λ p found. found;
  only = λ p found. inl found;
  alike = alike-refl places s;
  above = λ p. fits-refl t.program.outline sound.tree (slot_at s p);
  room = room;
  forced = λ item caught brought first second same. first;
}

-- what handlers get of a state of which a local was raised
local_forced : (t : Task) (item : ℕ) (p : SlotPlace) (caught : TypeRef) (s brought : TypeState) (x : Slot) → is_local p ≡ true → IsSound t
    → IsForced t item (handler_state caught s) → IsForced t item brought → slot_at brought p ≡ x
    → IsForced t item (handler_state caught (with_slot p (join t.program.outline (slot_at s p) x) s))
local_forced t item (place.Local k) caught s brought x local sound first second same =
    raised_forced t item (place.Local k) (handler_state caught s) brought x sound first second same refl
local_forced t item (place.Word k) caught s brought x local sound first second same = absurd (false≢true local)

-- it hadn't
pub RaisesOne-set : (t : Task) (rise : Rise) (s : TypeState) (places : List SlotPlace) → IsSound t → is_local rise.place ≡ true
    → fits t.program.outline rise.slot (slot_at s rise.place) ≡ false
    → RaisesOne t rise s (with_slot rise.place (join t.program.outline (slot_at s rise.place) rise.slot) s) places (places ++ rise.place ∷ [])
RaisesOne-set t rise s places sound local unfit = record {
  still = λ p found. Contains-append_left places (rise.place ∷ []) p found;
  only = λ p found. Contains-push_cases places rise.place p found;
  alike = alike-more (rise.place ∷ []) (places ++ rise.place ∷ []) new s
      (λ p found. ⊎_elim (λ (none : Contains [] p). absurd (Contains-none p none))
      (λ (same : rise.place ≡ p). subst (λ (q : SlotPlace). Contains (places ++ rise.place ∷ []) q) same (Contains-push places rise.place))
      (Contains-push_cases [] rise.place p found))
      (with_slot-alike s rise.place joined);
  above = λ p. slot-fits o s new p (with_slot-above o sound.tree s rise.place joined least.first);
  room = ap (fits o rise.slot) (with_slot-read rise.place joined s inside) ∙ least.second;
  forced = λ item caught brought first second same. local_forced t item rise.place caught s brought rise.slot local sound first second same;
} where
  o : Outline
  o = t.program.outline

  joined : Slot
  joined = join o (slot_at s rise.place) rise.slot

  new : TypeState
  new = with_slot rise.place joined s

  least : IsJoin o (slot_at s rise.place) rise.slot joined
  least = join-least o sound.tree (slot_at s rise.place) rise.slot

  inside : HasPlace s rise.place
  inside = place_wanted o rise.slot s rise.place unfit

pub IsRaised-none : (t : Task) (s : TypeState) → IsRaised t [] s s []
IsRaised-none t s = record {
  alike = alike-refl [] s;
  local = λ p found. absurd (Contains-none p found);
  room = λ rise found. absurd (Contains-none rise found);
  forced = λ item caught first asked. first;
}

pub IsRaised-more : (t : Task) (rises : List Rise) (k : ℕ) (d : Rise) (s a b : TypeState) (old new : List SlotPlace) → IsSound t → k < length rises
    → ((rise : Rise) → Contains rises rise → is_local rise.place ≡ true) → IsRaised t (take k rises) s a old
    → RaisesOne t (get_or rises k d) a b old new → IsRaised t (take (k + 1) rises) s b new
IsRaised-more t rises k d s a b old new sound inside local so_far one =
    subst (λ (xs : List Rise). IsRaised t xs s b new) (sym (take_more rises k d inside)) (record {
      alike = alike-then old new b a s one.still one.alike so_far.alike;
      local = λ p found.
          ⊎_elim (λ (early : Contains old p). so_far.local p early)
          (λ (same : this.place ≡ p). subst (λ (q : SlotPlace). is_local q ≡ true) same (local this (Contains-get_or rises k d inside)))
          (one.only p found);
      room = λ rise found.
          ⊎_elim
          (λ (early : Contains (take k rises) rise).
          fits-trans o sound.tree rise.slot (slot_at a rise.place) (slot_at b rise.place) (so_far.room rise early) (one.above rise.place))
          (λ (same : this ≡ rise). subst (λ (r : Rise). fits o r.slot (slot_at b r.place) ≡ true) same one.room)
          (Contains-push_cases (take k rises) this rise found);
      forced = λ item caught first asked.
          one.forced item caught asked.brought
          (so_far.forced item caught first (record {
            brought = asked.brought;
            forced = asked.forced;
            slots = λ rise found. asked.slots rise (Contains-append_left (take k rises) (this ∷ []) rise found);
          }))
          asked.forced (asked.slots this (Contains-push (take k rises) this));
    }) where
      o : Outline
      o = t.program.outline

      this : Rise
      this = get_or rises k d

-- ---- what was given to a run

-- what the handlers have room for they have room for later
held-later : (t : Task) (a b : Walked) (s : TypeState) (h : Handler) → IsSound t → Rises t.program.outline a b → IsHeld t a.states s h → IsHeld t b.states s h
held-later t a b s h sound rises held = record {
  caught = held.caught;
  is = held.is;
  forced = held.forced;
  fits = fits_later t a b h.handler (handler_state held.caught s) sound rises held.fits;
}

pub given-later : (t : Task) (a b : Walked) (run : Run) → IsSound t → Rises t.program.outline a b → IsGiven t a.states run → IsGiven t b.states run
given-later t a b run sound rises given = λ known is h found. held-later t a b (known_state known) h sound rises (given known is h found)

-- the slots can be carried to the handler of one of the entries
can_asked : (t : Task) (w : Walked) (j : ℕ) (rises : List Rise) → CanCarry t w j rises → IsAsked t j rises
can_asked t w j rises can = record {
  brought = can.brought;
  forced = can.forced;
  slots = λ rise found. All-contains (λ r. slot_at can.brought r.place ≡ r.slot) rises rise can.slots found;
}

-- in its own locals a handler gets what is in those of the item
local_got : (caught : TypeRef) (s : TypeState) (p : SlotPlace) → is_local p ≡ true → slot_at (handler_state caught s) p ≡ slot_at s p
local_got caught s (place.Local k) local = refl
local_got caught s (place.Word k) local = absurd (false≢true local)

-- what was raised can be carried to the handlers
pub raised_can : (t : Task) (w : Walked) (rises : List Rise) (old new : TypeState) (places : List SlotPlace) (h : Handler)
    → IsHeld t w.states old h → IsRaised t rises old new places → CanCarry t w h.handler rises → CanCarry t w h.handler (map (rise_of new) places)
raised_can t w rises old new places h held raised can = record {
  state = can.state;
  there = can.there;
  brought = handler_state held.caught new;
  forced = raised.forced h.handler held.caught held.forced (can_asked t w h.handler rises can);
  slots = all_held new (handler_state held.caught new) places (λ p found. local_got held.caught new p (raised.local p found));
}

-- and then they have room for the raised state
raised_held : (t : Task) (w later : Walked) (rises : List Rise) (old new : TypeState) (places : List SlotPlace) (h : Handler) → IsSound t
    → Rises t.program.outline w later → IsHeld t w.states old h → IsRaised t rises old new places → CanCarry t w h.handler rises
    → All (HasRoom t later.states h.handler) (map (rise_of new) places) → IsHeld t later.states new h
raised_held t w later rises old new places h sound rising held raised can room = record {
  caught = held.caught;
  is = held.is;
  forced = raised.forced h.handler held.caught held.forced (can_asked t w h.handler rises can);
  fits = room_fits t later.states h.handler (locals_in places) (slot_at new) (handler_state held.caught new) (handler_state held.caught old)
      (caught_alike places new old held.caught raised.alike)
      (fits_later t w later h.handler (handler_state held.caught old) sound rising held.fits)
      (λ p among. All-contains (HasRoom t later.states h.handler) (map (rise_of new) places) (rise_of new p) room
      (Contains-map (rise_of new) places p (Contains-from_filter is_local places p among).0));
}

-- and for the slots
held_room : (t : Task) (states : List (Option TypeState)) (rises : List Rise) (old new : TypeState) (places : List SlotPlace) (h : Handler) → IsSound t
    → IsHeld t states new h → IsRaised t rises old new places → ((rise : Rise) → Contains rises rise → is_local rise.place ≡ true)
    → has_room t rises states h
held_room t states rises old new places h sound held raised local = λ n d below.
    let rise = get_or rises n d in
    let found = Contains-get_or rises n d below in
    let above = fits_one t states h.handler (handler_state held.caught new) held.fits in
    let at = slot-fits t.program.outline (handler_state held.caught new) above.state rise.place above.fits in
    let got = local_got held.caught new rise.place (local rise found) in
    IsSomeAnd-from_some (state_at states h.handler) (λ s. fits t.program.outline rise.slot (slot_at s rise.place) ≡ true) above.state above.is
    (fits-trans t.program.outline sound.tree rise.slot (slot_at new rise.place) (slot_at above.state rise.place) (raised.room rise found)
    (ap (λ x. fits t.program.outline x (slot_at above.state rise.place)) (sym got) ∙ at))

-- nothing was given to the handlers of a run before
pub GivesRun-none : (t : Task) (rises : List Rise) (run : Run) (old new : Walked) → run.given ≡ None → CarriesHandlers t rises run.entries.items old new
    → GivesRun (has_room t rises) t run run old new
GivesRun-none t rises run old new none carries = record {
  went = carries.went;
  same = refl;
  held = λ known is h found. absurd cc;
  done = carries.room;
}

-- what was given was raised, and what rose carried to them
pub GivesRun-raised : (t : Task) (rises : List Rise) (run given : Run) (before after : KnownState) (places : List SlotPlace) (old new : Walked) → IsSound t
    → ((rise : Rise) → Contains rises rise → is_local rise.place ≡ true) → run.given ≡ Some before → given.given ≡ Some after
    → given.entries.items ≡ run.entries.items → IsGiven t old.states run
    → ((h : Handler) → Contains run.entries.items h → CanCarry t old h.handler rises)
    → IsRaised t rises (known_state before) (known_state after) places
    → CarriesHandlers t (map (rise_of (known_state after)) places) run.entries.items old new → GivesRun (has_room t rises) t run given old new
GivesRun-raised t rises run given before after places old new sound local was is same held can raised carries = record {
  went = carries.went;
  same = same;
  held = λ known e h found.
      let this = same_value given.given after known is e in
      subst (λ (x : KnownState). IsHeld t new.states (known_state x) h) this (now h (subst (λ (es : List Handler). Contains es h) same found));
  done = λ h found.
      held_room t new.states rises (known_state before) (known_state after) places h sound (now h found) raised local;
} where
  now : (h : Handler) → Contains run.entries.items h → IsHeld t new.states (known_state after) h
  now h found =
      raised_held t old new rises (known_state before) (known_state after) places h sound carries.went.rises (held before was h found) raised (can h found)
      (carries.room h found)

-- what is left of the slots can be carried to the handlers
pub left_can : (t : Task) (w : Walked) (rises left : List Rise) (run given : Run) → LeavesAll rises run given left ⊎ RaisesRun t rises run given left
    → IsGiven t w.states run → ((h : Handler) → Contains run.entries.items h → CanCarry t w h.handler rises)
    → (h : Handler) → Contains given.entries.items h → CanCarry t w h.handler left
left_can t w rises left run given (inl none) held can h found =
    subst (λ (xs : List Rise). CanCarry t w h.handler xs) (sym none.all)
    (can h (subst (λ (r : Run). Contains r.entries.items h) none.same found))
left_can t w rises left run given (inr one) held can h found =
    let there : Contains run.entries.items h = subst (λ (es : List Handler). Contains es h) one.same found in
    subst (λ (xs : List Rise). CanCarry t w h.handler xs) (sym one.left_is)
    (raised_can t w rises (known_state one.before) (known_state one.after) one.places h (held one.before one.was h there) one.raised (can h there))

-- and was
pub left_gives : (t : Task) (rises left : List Rise) (run given : Run) (old new : Walked) → IsSound t
    → ((rise : Rise) → Contains rises rise → is_local rise.place ≡ true) → LeavesAll rises run given left ⊎ RaisesRun t rises run given left
    → IsGiven t old.states run → ((h : Handler) → Contains run.entries.items h → CanCarry t old h.handler rises)
    → CarriesHandlers t left given.entries.items old new → GivesRun (has_room t rises) t run given old new
left_gives t rises left run given old new sound local (inl none) held can carries =
    subst (λ (r : Run). GivesRun (has_room t rises) t run r old new) (sym none.same)
    (GivesRun-none t rises run old new none.none
    (subst (λ (xs : List Rise). CarriesHandlers t xs run.entries.items old new) none.all
    (subst (λ (r : Run). CarriesHandlers t left r.entries.items old new) none.same carries)))
left_gives t rises left run given old new sound local (inr one) held can carries =
    GivesRun-raised t rises run given one.before one.after one.places old new sound local one.was one.is one.same held can one.raised
    (subst (λ (xs : List Rise). CarriesHandlers t xs run.entries.items old new) one.left_is
    (subst (λ (es : List Handler). CarriesHandlers t left es old new) one.same carries))

-- a run without entries
pub GivesRun-nothing : (W : Wanted) (t : Task) (run : Run) (w : Walked) → IsSound t → Stands t w → IsGiven t w.states run → length run.entries.items ≡ 0
    → GivesRun W t run run w w
GivesRun-nothing W t run w sound stands given none = record {
  went = Went-none t w sound stands;
  same = refl;
  held = given;
  done = λ h found. absurd (omega (arith, found.1, none));
}

-- nothing rose
pub CarriesHandlers-nothing : (t : Task) (rises : List Rise) (handlers : List Handler) (w : Walked) → IsSound t → Stands t w → length rises ≡ 0
    → CarriesHandlers t rises handlers w w
CarriesHandlers-nothing t rises handlers w sound stands none =
    record { went = Went-none t w sound stands; room = λ h found n d below. absurd (omega (arith, below, none)) }

-- ---- an item's state is brought to a run

-- what is put is in locals
pub all_local : (count : ℕ) (others : List Slot) (s : TypeState) (rises : List Rise) → AreBeside count others s rises
    → (rise : Rise) → Contains rises rise → is_local rise.place ≡ true
all_local count others s rises beside rise found =
    ⊎_elim (λ (none : Contains [] rise). absurd (Contains-none rise none))
    (λ (was : (k : ℕ) × (rise_of s (place.Local k) ≡ rise)). subst (λ (r : Rise). is_local r.place ≡ true) was.1 refl)
    (beside.only rise found)

-- and can be carried to the handlers of entries that hold the item
pub brought_can : (t : Task) (w : Walked) (item count : ℕ) (others : List Slot) (s given : TypeState) (rises : List Rise) (h : Handler) → IsSound t
    → IsForced t item s → Holds t.code.handlers item h → IsHeld t w.states given h → AreBeside count others s rises → CanCarry t w h.handler rises
brought_can t w item count others s given rises h sound forced holds held beside =
    let found = fits_one t w.states h.handler (handler_state held.caught given) held.fits in
    record {
      state = found.state;
      there = found.is;
      brought = handler_state held.caught s;
      forced = caught_forced t item h held.caught s sound forced holds.listed holds.after_start holds.before_end held.is;
      slots = λ n d below.
          let rise = get_or rises n d in
          ⊎_elim (λ (none : Contains [] rise). absurd (Contains-none rise none))
          (λ (was : (k : ℕ) × (rise_of s (place.Local k) ≡ rise)).
          subst (λ (r : Rise). slot_at (handler_state held.caught s) r.place ≡ r.slot) was.1 refl)
          (beside.only rise (Contains-get_or rises n d below));
    }

-- what was given for a run that is open
record IsOpen (run : Run) (wanted : Bool) : Type 0 where
  given : KnownState
  is : run.given ≡ Some given
  built : (wanted || not given.built) ≡ true

open_given : (run : Run) (built : Bool) (given : Option KnownState) → run.given ≡ given → is_open run built ≡ true → IsOpen run built
open_given run built None is opens = absurd (false≢true (ap (is_open_to built) (sym is) ∙ opens))
open_given run built (Some given) is opens = record { given = given; is = is; built = ap (is_open_to built) (sym is) ∙ opens }

-- the item's own state fits where there is room for all its locals
open_fits : (t : Task) (w : Walked) (s given : TypeState) (rises : List Rise) (h : Handler) → IsSound t → Stands t w → is_within t.code s ≡ true
    → (s.built || not given.built) ≡ true → IsHeld t w.states given h → AreBeside t.code.max_locals given.locals s rises → has_room t rises w.states h
    → IsSomeAnd (caught_type t.program t.number h) (λ c. FitsAt t.program w.states h.handler (handler_state c s))
open_fits t w s given rises h sound stands within built held beside room =
    IsSomeAnd-from_some (caught_type t.program t.number h) (λ c. FitsAt t.program w.states h.handler (handler_state c s)) held.caught held.is
    (fits_at t w.states h.handler (handler_state held.caught s) u above.is
    (fits-from o (handler_state held.caught s) u (record {
      locals = zip-from (Fitting o) s.locals u.locals (size ∙ sym other_size) each;
      stack = parts.stack;
      built = built-trans s.built given.built u.built built parts.built;
    }))) where
      o : Outline
      o = t.program.outline

      above : FitsOne t w.states h.handler (handler_state held.caught given)
      above = fits_one t w.states h.handler (handler_state held.caught given) held.fits

      u : TypeState
      u = above.state

      parts : FitsByParts o (handler_state held.caught given) u
      parts = fits-parts o (handler_state held.caught given) u above.fits

      size : length s.locals ≡ t.code.max_locals
      size = kept-locals t.code s within

      other_size : length u.locals ≡ t.code.max_locals
      other_size = kept-locals t.code u (stands.each h.handler u above.is).within

      each : (k : ℕ) → fits o (local_at s.locals k) (local_at u.locals k) ≡ true
      each k =
          ⊎_elim
          (λ (below : k < t.code.max_locals).
          ⊎_elim
          (λ (found : Contains rises (rise_of s (place.Local k))).
          IsSomeAnd-at_some (state_at w.states h.handler) (λ x. fits o (local_at s.locals k) (local_at x.locals k) ≡ true) u above.is
          (All-contains (HasRoom t w.states h.handler) rises (rise_of s (place.Local k)) room found))
          (λ (same : local_at s.locals k ≡ local_at given.locals k).
          ap (λ x. fits o x (local_at u.locals k)) same ∙ slot-fits o (handler_state held.caught given) u (place.Local k) above.fits)
          (beside.there k below))
          (λ (past : t.code.max_locals ≤ k).
          let first : local_at s.locals k ≡ slot.Top = get_or_past s.locals k slot.Top (omega (arith, past, size)) in
          let second : local_at u.locals k ≡ slot.Top = get_or_past u.locals k slot.Top (omega (arith, past, other_size)) in
          ap (λ x. fits o x (local_at u.locals k)) first ∙ ap (fits o slot.Top) second ∙ fits-refl o sound.tree slot.Top)
          (cases_lt k t.code.max_locals)

-- the state was joined into what was given
pub GivesRun-open : (t : Task) (item : ℕ) (s : TypeState) (rises : List Rise) (run given : Run) (old new : Walked) → IsSound t
    → is_within t.code s ≡ true → is_open run s.built ≡ true → IsGiven t old.states run → AreLeft t.code.max_locals run s rises
    → GivesRun (has_room t rises) t run given old new → GivesRun (is_brought t item s) t run given old new
GivesRun-open t item s rises run given old new sound within opens held left gives = record {
  went = gives.went;
  same = gives.same;
  held = gives.held;
  done = λ h found catches.
      let was = open_given run s.built run.given refl opens in
      open_fits t new s (known_state was.given) rises h sound gives.went.stands within was.built
      (held-later t old new (known_state was.given) h sound gives.went.rises (held was.given was.is h found)) (left was.given was.is) (gives.done h found);
}

pub open_can : (t : Task) (w : Walked) (item : ℕ) (s : TypeState) (rises : List Rise) (run : Run) → IsSound t → IsForced t item s
    → is_open run s.built ≡ true → IsGiven t w.states run → AreLeft t.code.max_locals run s rises
    → ((h : Handler) → Contains run.entries.items h → Holds t.code.handlers item h)
    → (h : Handler) → Contains run.entries.items h → CanCarry t w h.handler rises
open_can t w item s rises run sound forced opens given left holds h found =
    let was = open_given run s.built run.given refl opens in
    brought_can t w item t.code.max_locals was.given.locals s (known_state was.given) rises h sound forced (holds h found) (given was.given was.is h found)
    (left was.given was.is)

-- what is put is in locals
pub open_local : (count : ℕ) (s : TypeState) (rises : List Rise) (run : Run) → is_open run s.built ≡ true → AreLeft count run s rises
    → (rise : Rise) → Contains rises rise → is_local rise.place ≡ true
open_local count s rises run opens left rise found =
    let was = open_given run s.built run.given refl opens in
    all_local count was.given.locals s rises (left was.given was.is) rise found

-- it was brought to each handler, and given
pub GivesRun-brought : (t : Task) (item : ℕ) (s : TypeState) (run given : Run) (now : KnownState) (old new : Walked) → IsSound t → IsForced t item s
    → given.given ≡ Some now → known_state now ≡ without_words s → given.entries.items ≡ run.entries.items
    → ((h : Handler) → Contains run.entries.items h → Holds t.code.handlers item h)
    → BringsHandlers t item s run.entries.items old new → GivesRun (is_brought t item s) t run given old new
GivesRun-brought t item s run given now old new sound forced is bare same holds brings = record {
  went = brings.went;
  same = same;
  held = λ known e h found.
      let this = same_value given.given now known is e in
      let there : Contains run.entries.items h = subst (λ (es : List Handler). Contains es h) same found in
      subst (λ (x : TypeState). IsHeld t new.states x h) (sym bare ∙ ap known_state this) (here h there);
  done = λ h found. each_handler (FitsHandler t.program t.number new.states item s) run.entries.items h found brings.fits;
} where
  here : (h : Handler) → Contains run.entries.items h → IsHeld t new.states (without_words s) h
  here h found =
      let holding = holds h found in
      let catches : Catches item h.handler h = record { after_start = holding.after_start; before_end = holding.before_end; handler_is = refl } in
      let fitting = each_handler (FitsHandler t.program t.number new.states item s) run.entries.items h found brings.fits catches in
      let caught = Some-from_some_and (caught_type t.program t.number h) (λ c. FitsAt t.program new.states h.handler (handler_state c s)) fitting in
      record {
        caught = caught.0;
        is = caught.1;
        forced = caught_forced t item h caught.0 s sound forced holding.listed holding.after_start holding.before_end caught.1;
        fits = caught.2;
      }

-- ---- levels

-- what is wanted stays so
abbrev pub Stays : Task → Wanted → Type 0
Stays t W = (a b : Walked) (h : Handler) → Rises t.program.outline a b → W a.states h → W b.states h

pub stays-room : (t : Task) (rises : List Rise) → IsSound t → Stays t (has_room t rises)
stays-room t rises sound = λ a b h rising room. all_room_later t a b h.handler rises sound rising room

pub stays-brought : (t : Task) (item : ℕ) (s : TypeState) → IsSound t → Stays t (is_brought t item s)
stays-brought t item s sound = λ a b h rises fitting catches.
    let found = Some-from_some_and (caught_type t.program t.number h) (λ c. FitsAt t.program a.states h.handler (handler_state c s)) (fitting catches) in
    IsSomeAnd-from_some (caught_type t.program t.number h) (λ c. FitsAt t.program b.states h.handler (handler_state c s)) found.0 found.1
    (fits_later t a b h.handler (handler_state found.0 s) sound rises found.2)

pub stays-taken : (t : Task) (item : ℕ) (given : Giving) → IsSound t → Stays t (is_taken t item given)
stays-taken t item (giving.State s) sound = stays-brought t item (type_state s.now) sound
stays-taken t item (giving.Locals rises) sound = stays-room t rises.now sound

-- what may be given still may
pub MayGive-later : (t : Task) (a b : Walked) (item : ℕ) (given : Giving) → Went t a b → MayGive t a item given → MayGive t b item given
MayGive-later t a b item (giving.State s) went may = may
MayGive-later t a b item (giving.Locals rises) went may =
    record { local = may.local; carried = λ h holds. can_carry_later t a b h.handler rises.now went (may.carried h holds) }

-- a level without such a run
pub GivesLevel-past : (W : Wanted) (t : Task) (place : ℕ) (runs : List Run) (w : Walked) → IsSound t → Stands t w → AreGiven t w.states runs
    → length runs ≤ place → GivesLevel W t place runs runs w w
GivesLevel-past W t place runs w sound stands given past = record {
  went = Went-none t w sound stands;
  same = refl;
  held = given;
  done = λ h found.
      let size = length-map runs (λ (run : Run). run.entries.items) in
      let none : entries_in runs place ≡ [] = get_or_past (entries_of runs) place [] (omega (arith, past, size)) in
      absurd (Contains-none h (subst (λ (es : List Handler). Contains es h) none found));
}

-- one with it
pub GivesLevel-set : (W : Wanted) (t : Task) (place : ℕ) (runs : List Run) (run given : Run) (d : Run) (old new : Walked) → IsSound t → place < length runs
    → run ≡ get_or runs place d → AreGiven t old.states runs → GivesRun W t run given old new
    → GivesLevel W t place runs (set runs place given) old new
GivesLevel-set W t place runs run given d old new sound inside read all gives = record {
  went = gives.went;
  same = map-set_same (λ (r : Run). r.entries.items) runs place given d (gives.same ∙ ap (λ (r : Run). r.entries.items) read);
  held = λ r found.
      ⊎_elim (λ (same : given ≡ r). subst (λ (x : Run). IsGiven t new.states x) same gives.held)
      (λ (other : Contains runs r). given-later t old new r sound gives.went.rises (all r other))
      (Contains-set_cases runs place given r found);
  done = λ h found.
      gives.done h (subst (λ (es : List Handler). Contains es h) (sym (got_entries runs place d inside) ∙ ap (λ (r : Run). r.entries.items) (sym read)) found);
}

-- what is asked of the entries of the run that was read
pub entries_read : (runs : List Run) (place : ℕ) (run d : Run) (h : Handler) → place < length runs → run ≡ get_or runs place d
    → Contains run.entries.items h → Contains (entries_in runs place) h
entries_read runs place run d h inside read found =
    subst (λ (es : List Handler). Contains es h) (ap (λ (r : Run). r.entries.items) read ∙ got_entries runs place d inside) found

pub given_read : (t : Task) (states : List (Option TypeState)) (runs : List Run) (place : ℕ) (run d : Run) → place < length runs
    → run ≡ get_or runs place d → AreGiven t states runs → IsGiven t states run
given_read t states runs place run d inside read all =
    subst (λ (r : Run). IsGiven t states r) (sym read) (all (get_or runs place d) (Contains-get_or runs place d inside))

-- the entries of a level that was read
pub level_read : (levels : List Level) (index : ℕ) (level d : Level) → index < length levels → level ≡ get_or levels index d
    → get_or (shape levels) index [] ≡ entries_of level.runs.items
level_read levels index level d inside read =
    get_or-map (λ (l : Level). entries_of l.runs.items) levels index d [] inside ∙ ap (λ (l : Level). entries_of l.runs.items) (sym read)

-- those at a place of it
pub place_read : (levels given : List Level) (item index : ℕ) (level d : Level) (h : Handler) → index < length given → level ≡ get_or given index d
    → shape given ≡ shape levels → Contains (entries_in level.runs.items (halved index item)) h → Contains (entries_at (shape levels) index item) h
place_read levels given item index level d h inside read same found =
    subst (λ (es : List (List Handler)). Contains (get_or es (halved index item) []) h)
    (sym (level_read given index level d inside read) ∙ ap (λ (x : List (List (List Handler))). get_or x index []) same) found

pub level_given : (t : Task) (states : List (Option TypeState)) (levels : List Level) (index : ℕ) (level d : Level) → index < length levels
    → level ≡ get_or levels index d → IsGuarded t states levels → AreGiven t states level.runs.items
level_given t states levels index level d inside read guarded =
    subst (λ (l : Level). AreGiven t states l.runs.items) (sym read) (guarded.given (get_or levels index d) (Contains-get_or levels index d inside))

-- as many levels
pub same_length : (levels given : List Level) → shape given ≡ shape levels → length given ≡ length levels
same_length levels given same =
    sym (length-map given (λ (l : Level). entries_of l.runs.items)) ∙ ap length same ∙ length-map levels (λ (l : Level). entries_of l.runs.items)

-- the place of an item's run of the next level
pub halved-more : (level item : ℕ) → halved (level + 1) item ≡ halved level item / 2
halved-more level item = let next : level + 1 ≡ suc level = omega arith in ap (λ (n : ℕ). halved n item) next

pub GivesLevels-none : (W : Wanted) (t : Task) (item : ℕ) (levels : List Level) (w : Walked) → IsSound t → Stands t w → IsGuarded t w.states levels
    → GivesLevels W t item 0 levels levels w w
GivesLevels-none W t item levels w sound stands guarded = record {
  went = Went-none t w sound stands;
  guarded = guarded;
  same = refl;
  done = λ level h below found. absurd (omega arith);
}

pub GivesLevels-more : (W : Wanted) (t : Task) (item index : ℕ) (levels given : List Level) (level next d : Level) (a b c : Walked) → IsSound t → Stays t W
    → index < length given → level ≡ get_or given index d → GivesLevels W t item index levels given a b
    → GivesLevel W t (halved index item) level.runs.items next.runs.items b c
    → GivesLevels W t item (index + 1) levels (set given index next) a c
GivesLevels-more W t item index levels given level next d a b c sound stays inside read so_far one = record {
  went = Went-then t a b c sound so_far.went one.went;
  guarded = record {
    covered = subst (λ (x : List (List (List Handler))). IsCovered t.code.handlers x) (sym kept) so_far.guarded.covered;
    given = λ l found.
        ⊎_elim (λ (same : next ≡ l). subst (λ (x : Level). AreGiven t c.states x.runs.items) same one.held)
        (λ (other : Contains given l). λ run there. given-later t b c run sound one.went.rises (so_far.guarded.given l other run there))
        (Contains-set_cases given index next l found);
  };
  same = kept ∙ so_far.same;
  done = λ k h below found.
      ⊎_elim (λ (early : k < index). stays b c h one.went.rises (so_far.done k h early found))
      (λ (late : index ≤ k).
      let last : k ≡ index = omega (arith, below, late) in
      let there : Contains (entries_at (shape levels) index item) h = subst (λ (n : ℕ). Contains (entries_at (shape levels) n item) h) last found in
      one.done h (subst (λ (es : List (List Handler)). Contains (get_or es (halved index item) []) h)
      (ap (λ (x : List (List (List Handler))). get_or x index []) (sym so_far.same) ∙ level_read given index level d inside read) there))
      (cases_lt k index);
} where
  kept : shape (set given index next) ≡ shape given
  kept = map-set_same (λ (l : Level). entries_of l.runs.items) given index next d (one.same ∙ ap (λ (l : Level). entries_of l.runs.items) read)

pub GivesAll-all : (W : Wanted) (t : Task) (item count : ℕ) (levels given : List Level) (old new : Walked) → length levels ≤ count
    → GivesLevels W t item count levels given old new → GivesAll W t item given old new
GivesAll-all W t item count levels given old new all gives = record {
  went = gives.went;
  guarded = gives.guarded;
  done = λ h holds.
      let met = gives.guarded.covered.covers item h holds in
      let found : Contains (entries_at (shape levels) met.0 item) h =
      subst (λ (x : List (List (List Handler))). Contains (entries_at x met.0 item) h) gives.same met.1 in
      let inside = inside_level (shape levels) met.0 item h found in
      let size = length-map levels (λ (l : Level). entries_of l.runs.items) in
      gives.done met.0 h (omega (arith, inside, size, all)) found;
}

-- an item's state was brought to all handlers
pub all_brought : (t : Task) (item : ℕ) (s : TypeState) (given : List Level) (old new : Walked) → GivesAll (is_brought t item s) t item given old new
    → BringsHandlers t item s t.code.handlers old new
all_brought t item s given old new gives = record {
  went = gives.went;
  fits = recursion_from_All (FitsHandler t.program t.number new.states item s) t.code.handlers (λ n d below.
      let h = get_or t.code.handlers n d in
      λ (catches : Catches item h.handler h).
      gives.done h (record { listed = Contains-get_or t.code.handlers n d below; after_start = catches.after_start; before_end = catches.before_end }) catches);
}

-- what is as it was is guarded as before
pub guarded-later : (t : Task) (a b : Walked) (levels : List Level) → IsSound t → Rises t.program.outline a b → IsGuarded t a.states levels
    → IsGuarded t b.states levels
guarded-later t a b levels sound rises guarded = record {
  covered = guarded.covered;
  given = λ level found run there. given-later t a b run sound rises (guarded.given level found run there);
}

-- at first nothing was given
pub guarded-first : (t : Task) (states : List (Option TypeState)) (levels : List Level) → IsLaid t.code.handlers levels → IsGuarded t states levels
guarded-first t states levels laid = record {
  covered = laid.covered;
  given = λ level found run there known is h among. let none = laid.fresh level found run there in absurd cc;
}
