use Rattle.std.proofs.Common.{◌≡◌, ◌∙◌, sym, ap, subst, true, false, [], ◌∷◌, Some, None}
use Rattle.fm_check_walk.proofs.PlaceLemmas.{place_wanted}
use Rattle.fm_check_walk.proofs.CarryLemmas.{carried_first, carried_lost, carried_raised, carried_room}
use Rattle.fm_check_walk.proofs.WalkLemmas.{state_seen}
use Rattle.fm_check_walk.specs.inner.Ranks.{IsBounded}
use Rattle.fm_check_walk.specs.inner.Risen.{is_lost, noted}
use Rattle.fm_types.specs.Typings.{known_state}
use Rattle.fm_types.specs.inner.Places.{HasPlace, slot_at, with_slot}
use Rattle.fm_check_walk.specs.inner.Walks.{CarriesOne, risen_at, Walked, walked, with_state}
use Rattle.fm_check_walk.specs.inner.Tasks.{task}
use Rattle.fm_types.specs.Fits.{fits}
use Rattle.fm_types.specs.Joins.{join}
use Rattle.fm_types.specs.States.{TypeState}
use Rattle.fm_types.specs.declared.slots.Slot.{Slot}
use Rattle.fm_check_walk.proofs.walk.Walk.carry.Goals as goal

pub returns-in_default : goal.returns-in_default
returns-in_default c =
    let none = state_seen c.args.self.now.states.items c.as_slice.result.now c.args.item None c.as_slice.ensures.value c.in_default.ensures in
    let there = c.requires.carried.there in
    absurd cc

pub returns-then-fits : goal.returns-then-fits
returns-then-fits c =
    let o = c.args.method.now.program.now.outline in
    let state = known_state c.in-Some.state.now in
    let is = state_seen c.args.self.now.states.items c.as_slice.result.now c.args.item (Some state) c.as_slice.ensures.value c.in-Some.ensures in
    let fitting : fits o c.args.rise.slot (slot_at state c.args.rise.place) ≡ true =
    ap (fits o c.args.rise.slot) (sym c.slot_at-own.ensures) ∙ sym c.fits.ensures ∙ c.if-fits.true in
    carried_room (task c.args.method.now) c.args.item c.args.rise state (walked c.args.self.now) c.requires.sound c.requires.stands is fitting

pub returns-then-item-eq0 : goal.returns-then-item-eq0
returns-then-item-eq0 c =
    let t = task c.args.method.now in
    let state = known_state c.in-Some.state.now in
    let is = state_seen c.args.self.now.states.items c.as_slice.result.now c.args.item (Some state) c.as_slice.ensures.value c.in-Some.ensures in
    let unfit : fits t.program.outline c.args.rise.slot (slot_at state c.args.rise.place) ≡ false =
    ap (fits t.program.outline c.args.rise.slot) (sym c.slot_at-own.ensures) ∙ sym c.fits.ensures ∙ c.if-fits.false in
    carried_first t c.args.item c.args.rise state (walked c.args.self.now) c.if-item-eq0.true c.requires.stands c.requires.carried is unfit

pub raise_slot-requires-clause-place : goal.raise_slot-requires-clause-place
raise_slot-requires-clause-place c = λ s at.
    let o = c.args.method.now.program.now.outline in
    let state = known_state c.in-Some.state.now in
    let is = state_seen c.args.self.now.states.items c.as_slice.result.now c.args.item (Some state) c.as_slice.ensures.value c.in-Some.ensures in
    let same : state ≡ s = cc in
    let unfit : fits o c.args.rise.slot (slot_at state c.args.rise.place) ≡ false =
    ap (fits o c.args.rise.slot) (sym c.slot_at-own.ensures) ∙ sym c.fits.ensures ∙ c.if-fits.false in
    subst (λ (x : TypeState). HasPlace x c.args.rise.place) same (place_wanted o c.args.rise.slot state c.args.rise.place unfit)

pub returns-then-is_lost : goal.returns-then-is_lost
returns-then-is_lost c =
    let t = task c.args.method.now in
    let o = t.program.outline in
    let state = known_state c.in-Some.state.now in
    let is = state_seen c.args.self.now.states.items c.as_slice.result.now c.args.item (Some state) c.as_slice.ensures.value c.in-Some.ensures in
    let own = c.slot_at-own.ensures in
    let unfit : fits o c.args.rise.slot (slot_at state c.args.rise.place) ≡ false =
    ap (fits o c.args.rise.slot) (sym own) ∙ sym c.fits.ensures ∙ c.if-fits.false in
    let joined : c.join-joined.result ≡ join o (slot_at state c.args.rise.place) c.args.rise.slot =
    c.join-joined.ensures ∙ ap (λ x. join o x c.args.rise.slot) own in
    carried_lost t c.args.item c.args.rise state (walked c.args.self.now) c.requires.sound c.requires.stands c.requires.carried is unfit
    (ap (is_lost c.args.rise.place) (sym joined) ∙ sym c.is_lost.ensures ∙ c.if-is_lost.true)

pub returns : goal.returns
returns c =
    let t = task c.args.method.now in
    let w = walked c.args.self.now in
    let o = t.program.outline in
    let state = known_state c.in-Some.state.now in
    let is = state_seen c.args.self.now.states.items c.as_slice.result.now c.args.item (Some state) c.as_slice.ensures.value c.in-Some.ensures in
    let own = c.slot_at-own.ensures in
    let unfit : fits o c.args.rise.slot (slot_at state c.args.rise.place) ≡ false =
    ap (fits o c.args.rise.slot) (sym own) ∙ sym c.fits.ensures ∙ c.if-fits.false in
    let joined : c.join-joined.result ≡ join o (slot_at state c.args.rise.place) c.args.rise.slot =
    c.join-joined.ensures ∙ ap (λ x. join o x c.args.rise.slot) own in
    let After : Slot → Type 0 = λ x. walked c.raise_slot.new.self ≡ with_state c.args.item
    (noted c.most_noted.result (risen_at w c.args.item) (Some (c.args.rise.place ∷ []))) (with_slot c.args.rise.place x state) w in
    let Done : Walked → Type 0 = λ x. CarriesOne t c.args.item c.args.rise w x in
    subst Done (sym (subst After joined (c.in_ok-raise_slot.ensures state is)))
    (carried_raised t c.args.item c.most_noted.result c.args.rise state w c.requires.sound c.requires.stands c.requires.carried
    c.if-item-eq0.false is (subst IsBounded own c.law_bounded.ensures) unfit
    (ap (is_lost c.args.rise.place) (sym joined) ∙ sym c.is_lost.ensures ∙ c.if-is_lost.false))
