-- Slots that are carried to an item: what one that its state has no room for shows or leaves, and what it has room for.
use Rattle.std.proofs.Common.{◌≡◌, ◌≢◌, refl, sym, ◌∙◌, ap, inl, inr, ◌⊎◌, ⊎_elim, ℕ, ◌+◌, ◌<◌, ◌||◌, not, Bool, true, false, List, [], ◌∷◌, length, map, take, get_or, reverse, set, All, Option, Some, None, Contains, subst, arith}
use Rattle.std.proofs.lemmas.Bool.{cases_eq, false≢true}
use Rattle.std.proofs.lemmas.List.{get_or-set_same, length-reverse}
use Rattle.std.proofs.lemmas.List.Elements.{All-more, Contains-get_or, length_all_zip}
use Rattle.fm_base.proofs.ContainsFacts.{Contains-cons_cases}
use Rattle.fm_base.proofs.OptionFacts.{IsSomeAnd-at_some, IsSomeAnd-from_some, same_value, Some-from_some_and}
use Rattle.fm_check_walk.proofs.MergingLemmas.{fits-from, fits-parts}
use Rattle.fm_check_walk.proofs.PlaceLemmas.{lost-fits, place_wanted, slot-fits, slot-less, with_slot-above, with_slot-alike, with_slot-below, with_slot-read, with_slot-whole, with_slot-within, zip-from, zip-turned}
use Rattle.fm_check_walk.proofs.WalkLemmas.{fits_at, fits_one, first_unfit, noted-tracked, Went-given, Went-none, Went-then, with_waiting-waits}
use Rattle.fm_types.specs.declared.known_state.SlotPlace.{SlotPlace}
use Rattle.fm_types.specs.declared.known_state.SlotPlace.TheVariants as place
use Rattle.fm_check_walk.specs.declared.risen.Rise.{Rise}
use Rattle.fm_check_walk.specs.inner.Ranks.{IsBounded, state_rank, rank_at}
use Rattle.fm_check_walk.specs.inner.Risen.{is_lost, IsAlikeBut, IsCarried, noted, rise_of}
use Rattle.fm_types.specs.inner.Places.{HasPlace, slot_at, with_slot}
use Rattle.fm_check_walk.specs.inner.Walks.{CanCarry, CanCarryOne, Carries, CarriesOne, HasRoom, IsForced, IsKept, risen_at, Rises, Stands, Untypable, Walked, Went, with_state}
use Rattle.fm_check_walk.specs.inner.Tasks.{IsSound, Task}
use Rattle.fm_code.proofs.EdgesLemmas.{Contains-from_map, Contains-later}
use Rattle.fm_types.proofs.LeastJoins.{join-least}
use Rattle.fm_types.proofs.Order.{fits-trans}
use Rattle.fm_types.proofs.StateOrder.{Fitting}
use Rattle.fm_types.specs.Fits.{fits}
use Rattle.fm_types.specs.Joins.{IsJoin, join}
use Rattle.fm_types.specs.States.{state_fits, TypeState}
use Rattle.fm_types.specs.Typed.{FitsAt, IsTypingOf, state_at}
use Rattle.fm_types.specs.declared.slots.Slot.{Slot}
use Rattle.fm_world.specs.Programs.{Outline}

-- ---- a slot is carried to an item

-- the state that is given is there
given-there : (item : ℕ) (rose : Option (List SlotPlace)) (new : TypeState) (w : Walked) → item < length w.states
    → item < length w.marks → state_at (with_state item rose new w).states item ≡ Some new
given-there item rose new w inside marks =
    let waits = with_waiting-waits item (record w { states = set w.states item (Some new); risen = set w.risen item rose }) marks in
    ap (λ (states : List (Option TypeState)). state_at states item) waits.states ∙ get_or-set_same w.states item (Some new) None inside

-- its state has room
pub carried_room : (t : Task) (item : ℕ) (rise : Rise) (state : TypeState) (w : Walked) → IsSound t → Stands t w → state_at w.states item ≡ Some state
    → fits t.program.outline rise.slot (slot_at state rise.place) ≡ true → CarriesOne t item rise w w
carried_room t item rise state w sound stands is fitting = record {
  went = Went-none t w sound stands;
  room = IsSomeAnd-from_some (state_at w.states item) (λ s. fits t.program.outline rise.slot (slot_at s rise.place) ≡ true) state is fitting;
}

-- the first item's state hasn't
pub carried_first : (t : Task) (item : ℕ) (rise : Rise) (state : TypeState) (w : Walked) → item ≡ 0 → Stands t w → CanCarryOne t w item rise
    → state_at w.states item ≡ Some state → fits t.program.outline rise.slot (slot_at state rise.place) ≡ false → Untypable t
carried_first t item rise state w here stands can is unfit =
    first_unfit t w can.brought state stands (subst (λ (n : ℕ). IsForced t n can.brought) here can.forced)
    (ap (λ (n : ℕ). state_at w.states n) (sym here) ∙ is) (by_fit (state_fits t.program.outline can.brought state) refl) where
      by_fit : (b : Bool) → state_fits t.program.outline can.brought state ≡ b → state_fits t.program.outline can.brought state ≡ false
      by_fit false e = e
      by_fit true e =
          absurd
          (false≢true (sym unfit ∙ ap (λ x. fits t.program.outline x (slot_at state rise.place)) (sym can.slot)
          ∙ slot-fits t.program.outline can.brought state rise.place e))

-- in a typing the state that both fit, which has room for the join of both
record AboveBoth (t : Task) (states : List (Option TypeState)) (item : ℕ) (p : SlotPlace) (own brought : TypeState) : Type 0 where
  state : TypeState
  is : state_at states item ≡ Some state
  below : state_fits t.program.outline own state ≡ true
  room : fits t.program.outline (join t.program.outline (slot_at own p) (slot_at brought p)) (slot_at state p) ≡ true

above_both : (t : Task) (states : List (Option TypeState)) (item : ℕ) (p : SlotPlace) (own brought : TypeState) → IsSound t → IsForced t item own
    → IsForced t item brought → IsTypingOf t.program t.number t.code states → AboveBoth t states item p own brought
above_both t states item p own brought sound first second typing =
    let o = t.program.outline in
    let above = fits_one t states item own (first.below states typing) in
    let other = fits_one t states item brought (second.below states typing) in
    let same : other.state ≡ above.state = same_value (state_at states item) other.state above.state other.is above.is in
    let least = join-least o sound.tree (slot_at own p) (slot_at brought p) in
    record {
      state = above.state;
      is = above.is;
      below = above.fits;
      room = least.least (slot_at above.state p) (slot-fits o own above.state p above.fits)
          (slot-fits o brought above.state p (ap (state_fits o brought) (sym same) ∙ other.fits));
    }

-- a word of its state would be lost
pub carried_lost : (t : Task) (item : ℕ) (rise : Rise) (state : TypeState) (w : Walked) → IsSound t → Stands t w → CanCarryOne t w item rise
    → state_at w.states item ≡ Some state → fits t.program.outline rise.slot (slot_at state rise.place) ≡ false
    → is_lost rise.place (join t.program.outline (slot_at state rise.place) rise.slot) ≡ true → Untypable t
carried_lost t item rise state w sound stands can is unfit lost states typing =
    let o = t.program.outline in
    let kept = stands.each item state is in
    let above = above_both t states item rise.place state can.brought sound kept.forced can.forced typing in
    let same : join o (slot_at state rise.place) rise.slot ≡ join o (slot_at state rise.place) (slot_at can.brought rise.place) =
    ap (join o (slot_at state rise.place)) (sym can.slot) in
    false≢true (sym unfit
    ∙ lost-fits o state above.state rise.place rise.slot (join o (slot_at state rise.place) (slot_at can.brought rise.place))
    (ap (is_lost rise.place) (sym same) ∙ lost) above.below kept.forced.whole (typing.items item above.state above.is).whole above.room)

-- the state with the join of both is below those of all typings
pub raised_forced : (t : Task) (item : ℕ) (p : SlotPlace) (own brought : TypeState) (x : Slot) → IsSound t → IsForced t item own → IsForced t item brought
    → slot_at brought p ≡ x → is_lost p (join t.program.outline (slot_at own p) x) ≡ false
    → IsForced t item (with_slot p (join t.program.outline (slot_at own p) x) own)
raised_forced t item p own brought x sound first second is kept = record {
  reachable = first.reachable;
  inside = first.inside;
  whole = with_slot-whole o own p joined (join-least o sound.tree (slot_at own p) x).first kept first.whole;
  below = λ states typing.
      let above = above_both t states item p own brought sound first second typing in
      fits_at t states item (with_slot p joined own) above.state above.is
      (with_slot-below o own above.state p joined above.below
      (ap (λ y. fits o (join o (slot_at own p) y) (slot_at above.state p)) (sym is) ∙ above.room));
} where
  o : Outline
  o = t.program.outline

  joined : Slot
  joined = join o (slot_at own p) x

-- its state gets room
pub carried_raised : (t : Task) (item most : ℕ) (rise : Rise) (state : TypeState) (w : Walked) → IsSound t → Stands t w → CanCarryOne t w item rise
    → (item ≡ 0 → ⊥) → state_at w.states item ≡ Some state → IsBounded (slot_at state rise.place)
    → fits t.program.outline rise.slot (slot_at state rise.place) ≡ false
    → is_lost rise.place (join t.program.outline (slot_at state rise.place) rise.slot) ≡ false
    → CarriesOne t item rise w
    (with_state item (noted most (risen_at w item) (Some (rise.place ∷ [])))
    (with_slot rise.place (join t.program.outline (slot_at state rise.place) rise.slot) state) w)
carried_raised t item most rise state w sound stands can later is bounded unfit holds = record {
  went = went;
  room = IsSomeAnd-from_some (state_at now.states item) (λ s. fits o rise.slot (slot_at s rise.place) ≡ true) new there
      (ap (fits o rise.slot) (with_slot-read rise.place joined state inside) ∙ least.second);
} where
  o : Outline
  o = t.program.outline

  own : Slot
  own = slot_at state rise.place

  joined : Slot
  joined = join o own rise.slot

  new : TypeState
  new = with_slot rise.place joined state

  rose : Option (List SlotPlace)
  rose = noted most (risen_at w item) (Some (rise.place ∷ []))

  now : Walked
  now = with_state item rose new w

  least : IsJoin o own rise.slot joined
  least = join-least o sound.tree own rise.slot

  inside : HasPlace state rise.place
  inside = place_wanted o rise.slot state rise.place unfit

  kept : IsKept t item state
  kept = stands.each item state is

  back : (b : Bool) → fits o joined own ≡ b → fits o joined own ≡ false
  back false e = e
  back true e = absurd (false≢true (sym unfit ∙ fits-trans o sound.tree rise.slot joined own least.second e))

  went : Went t w now
  went =
      Went-given t item rose new w sound stands
      (record {
        forced = raised_forced t item rise.place state can.brought rise.slot sound kept.forced can.forced can.slot holds;
        within = with_slot-within t.code rise.place joined state kept.within;
      })
      later
      (λ s also.
      let same : state ≡ s = same_value (state_at w.states item) state s is also in
      ap (λ (x : TypeState). state_fits o x new) (sym same) ∙ with_slot-above o sound.tree state rise.place joined least.first)
      (subst (λ (x : Option TypeState). state_rank o new < rank_at o t.code x) (sym is)
      (slot-less o sound.tree state rise.place joined inside bounded least.first (back (fits o joined own) refl)))
      (noted-tracked w item most (Some (rise.place ∷ [])) new state is
      (λ places e.
      let same : rise.place ∷ [] ≡ places = cc in
      subst (λ (xs : List SlotPlace). IsAlikeBut xs new state) same (with_slot-alike state rise.place joined)))

  there : state_at now.states item ≡ Some new
  there = given-there item rose new w (let one = stands.one_each in let below = kept.forced.inside in omega arith)
      (let one_mark = stands.one_mark in let below = kept.forced.inside in omega (arith, one_mark, below))

-- ---- what was carried stays

room_later : (t : Task) (a b : Walked) (j : ℕ) (rise : Rise) → IsSound t → Rises t.program.outline a b → HasRoom t a.states j rise → HasRoom t b.states j rise
room_later t a b j rise sound rises h =
    let o = t.program.outline in
    let Room : TypeState → Type 0 = λ s. fits o rise.slot (slot_at s rise.place) ≡ true in
    let before = Some-from_some_and (state_at a.states j) Room h in
    let after = fits_one t b.states j before.0 (rises.rises j before.0 before.1) in
    IsSomeAnd-from_some (state_at b.states j) Room after.state after.is
    (fits-trans o sound.tree rise.slot (slot_at before.0 rise.place) (slot_at after.state rise.place) before.2
    (slot-fits o before.0 after.state rise.place after.fits))

pub all_room_later : (t : Task) (a b : Walked) (j : ℕ) (rises : List Rise) → IsSound t → Rises t.program.outline a b → All (HasRoom t a.states j) rises
    → All (HasRoom t b.states j) rises
all_room_later t a b j rises sound rising h = λ k d below. room_later t a b j (get_or rises k d) sound rising (h k d below)

can_later : (t : Task) (a b : Walked) (j : ℕ) (rises : List Rise) → Rises t.program.outline a b → CanCarry t a j rises → CanCarry t b j rises
can_later t a b j rises rising can =
    let found = fits_one t b.states j can.state (rising.rises j can.state can.there) in
    record { state = found.state; there = found.is; brought = can.brought; forced = can.forced; slots = can.slots }

pub can_one : (t : Task) (a b : Walked) (j k : ℕ) (d : Rise) (rises : List Rise) → Rises t.program.outline a b → CanCarry t a j rises → k < length rises
    → CanCarryOne t b j (get_or rises k d)
can_one t a b j k d rises rising can below =
    let later = can_later t a b j rises rising can in
    record { state = later.state; there = later.there; brought = can.brought; forced = can.forced; slot = can.slots k d below }

-- ---- several slots

pub Carries-none : (t : Task) (item : ℕ) (w : Walked) → IsSound t → Stands t w → Carries t item [] w w
Carries-none t item w sound stands = record { went = Went-none t w sound stands; room = λ k d below. absurd (omega arith) }

pub Carries-more : (t : Task) (item : ℕ) (rises : List Rise) (k : ℕ) (d : Rise) (a b c : Walked) → IsSound t → k < length rises
    → Carries t item (take k rises) a b → CarriesOne t item (get_or rises k d) b c → Carries t item (take (k + 1) rises) a c
Carries-more t item rises k d a b c sound inside so_far one = record {
  went = Went-then t a b c sound so_far.went one.went;
  room = All-more (HasRoom t c.states item) rises k d inside (all_room_later t b c item (take k rises) sound one.went.rises so_far.room) one.room;
}

pub can_carry_later : (t : Task) (a b : Walked) (j : ℕ) (rises : List Rise) → Went t a b → CanCarry t a j rises → CanCarry t b j rises
can_carry_later t a b j rises went can = can_later t a b j rises went.rises can

-- ---- states that are alike

-- states that are alike have the slots that are carried
pub slot_carried : (P : SlotPlace → Type 0) (v : SlotPlace → Slot) (s other : TypeState) (p : SlotPlace) → IsCarried P v s other → P p → slot_at s p ≡ v p
slot_carried P v s other (place.Local k) h within = h.locals.among k within
slot_carried P v s other (place.Word k) h within = h.words.among k within

pub all_held : (s brought : TypeState) (places : List SlotPlace) → ((p : SlotPlace) → Contains places p → slot_at brought p ≡ slot_at s p)
    → All (λ rise. slot_at brought rise.place ≡ rise.slot) (map (rise_of s) places)
all_held s brought places holds = λ n d below.
    let found = Contains-from_map (rise_of s) places (get_or (map (rise_of s) places) n d) (Contains-get_or (map (rise_of s) places) n d below) in
    subst (λ (rise : Rise). slot_at brought rise.place ≡ rise.slot) found.2 (holds found.0 found.1)

same_place : (p q : SlotPlace) → (p ≡ q) ⊎ (p ≢ q)
same_place (place.Local j) (place.Local k) =
    ⊎_elim (λ (same : j ≡ k). inl (ap (λ n. place.Local n) same)) (λ (apart : j ≢ k). inr (λ e. apart (let same : j ≡ k = cc in same))) (cases_eq j k)
same_place (place.Word j) (place.Word k) =
    ⊎_elim (λ (same : j ≡ k). inl (ap (λ n. place.Word n) same)) (λ (apart : j ≢ k). inr (λ e. apart (let same : j ≡ k = cc in same))) (cases_eq j k)
same_place (place.Local j) (place.Word k) = inr (λ e. cc)
same_place (place.Word j) (place.Local k) = inr (λ e. cc)

among_or_not : (xs : List SlotPlace) (p : SlotPlace) → Contains xs p ⊎ (Contains xs p → ⊥)
among_or_not [] p = inr (λ found. let inside = found.1 in omega arith)
among_or_not (x ∷ xs) p =
    ⊎_elim (λ (same : p ≡ x). inl (0, omega arith, sym same))
    (λ (apart : p ≢ x).
    ⊎_elim (λ (later : Contains xs p). inl (Contains-later x xs p later))
    (λ (never : Contains xs p → ⊥). inr (λ found. ⊎_elim (λ (same : p ≡ x). apart same) never (Contains-cons_cases x xs p found)))
    (among_or_not xs p))
    (same_place p x)

-- what a state brings fits at each place
slot_room : (o : Outline) (P : SlotPlace → Type 0) (v : SlotPlace → Slot) (a known u : TypeState) (p : SlotPlace) → IsCarried P v a known
    → state_fits o known u ≡ true → (P p ⊎ (P p → ⊥)) → (P p → fits o (v p) (slot_at u p) ≡ true) → fits o (slot_at a p) (slot_at u p) ≡ true
slot_room o P v a known u p carried fitting (inl within) room =
    ap (λ x. fits o x (slot_at u p)) (slot_carried P v a known p carried within) ∙ room within
slot_room o P v a known u (place.Local k) carried fitting (inr without) room =
    ap (λ x. fits o x (slot_at u (place.Local k))) (carried.locals.apart k without) ∙ slot-fits o known u (place.Local k) fitting
slot_room o P v a known u (place.Word k) carried fitting (inr without) room =
    ap (λ x. fits o x (slot_at u (place.Word k))) (carried.words.apart k without) ∙ slot-fits o known u (place.Word k) fitting

-- a state fits where one that is like it fits and there is room at the other places
carried_fits : (o : Outline) (places : List SlotPlace) (v : SlotPlace → Slot) (a known u : TypeState) → IsCarried (λ p. Contains places p) v a known
    → state_fits o known u ≡ true → ((p : SlotPlace) → Contains places p → fits o (v p) (slot_at u p) ≡ true)
    → state_fits o a u ≡ true
carried_fits o places v a known u carried fitting room =
    let parts = fits-parts o known u fitting in
    let deep = length_all_zip (Fitting o) known.stack u.stack parts.stack in
    let turned = length-reverse known.stack in
    let other = length-reverse u.stack in
    let words = carried.words.size in
    let each : (p : SlotPlace) → fits o (slot_at a p) (slot_at u p) ≡ true =
    λ p. slot_room o (λ q. Contains places q) v a known u p carried fitting (among_or_not places p) (λ found. room p found) in
    fits-from o a u (record {
      locals = zip-from (Fitting o) a.locals u.locals (carried.locals.size ∙ length_all_zip (Fitting o) known.locals u.locals parts.locals)
          (λ k. each (place.Local k));
      stack = zip-turned (Fitting o) a.stack u.stack
          (zip-from (Fitting o) (reverse a.stack) (reverse u.stack) (omega (arith, words, deep, turned, other)) (λ k. each (place.Word k)));
      built = ap (λ (b : Bool). b || not u.built) carried.built ∙ parts.built;
    })

-- ---- what an item has room for

-- an item has room for what a state brings that is like one for which it has
pub room_fits : (t : Task) (states : List (Option TypeState)) (j : ℕ) (places : List SlotPlace) (v : SlotPlace → Slot) (a known : TypeState)
    → IsCarried (λ p. Contains places p) v a known → FitsAt t.program states j known
    → ((p : SlotPlace) → Contains places p → HasRoom t states j (record { place = p; slot = v p })) → FitsAt t.program states j a
room_fits t states j places v a known carried fitting room =
    let found = fits_one t states j known fitting in
    fits_at t states j a found.state found.is
    (carried_fits t.program.outline places v a known found.state carried found.fits (λ p among.
    IsSomeAnd-at_some (state_at states j) (λ u. fits t.program.outline (v p) (slot_at u p) ≡ true) found.state found.is (room p among)))
