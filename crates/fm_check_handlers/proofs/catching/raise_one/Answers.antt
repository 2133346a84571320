use Rattle.std.proofs.Common.{◌≡◌, ◌∙◌, sym, ap, subst, true, false, List}
use Rattle.fm_check_handlers.proofs.GivingLemmas.{RaisesOne-none, RaisesOne-set}
use Rattle.fm_check_walk.proofs.PlaceLemmas.{place_wanted}
use Rattle.fm_types.specs.declared.known_state.SlotPlace.{SlotPlace}
use Rattle.fm_types.specs.Typings.{known_state}
use Rattle.fm_types.specs.inner.Places.{slot_at, with_slot}
use Rattle.fm_check_handlers.specs.inner.Runs.{RaisesOne}
use Rattle.fm_check_walk.specs.inner.Tasks.{task}
use Rattle.fm_types.specs.Fits.{fits}
use Rattle.fm_types.specs.Joins.{join}
use Rattle.fm_types.specs.States.{TypeState}
use Rattle.fm_check_handlers.proofs.catching.raise_one.Goals as goal

pub returns-then-fits : goal.returns-then-fits
returns-then-fits c =
    let t = task c.args.method.now in
    let s = known_state c.args.given.now in
    let room : fits t.program.outline c.args.rise.slot (slot_at s c.args.rise.place) ≡ true =
    ap (fits t.program.outline c.args.rise.slot) (sym c.slot_at-own.ensures) ∙ sym c.fits.ensures ∙ c.if-fits.true in
    RaisesOne-none t c.args.rise s c.args.places.now.items c.requires.sound room

pub set-requires : goal.set-requires
set-requires c =
    let o = c.args.method.now.program.now.outline in
    let s = known_state c.args.given.now in
    let unfit : fits o c.args.rise.slot (slot_at s c.args.rise.place) ≡ false =
    ap (fits o c.args.rise.slot) (sym c.slot_at-own.ensures) ∙ sym c.fits.ensures ∙ c.if-fits.false in
    place_wanted o c.args.rise.slot s c.args.rise.place unfit

pub returns : goal.returns
returns c =
    let t = task c.args.method.now in
    let o = t.program.outline in
    let s = known_state c.args.given.now in
    let own = c.slot_at-own.ensures in
    let unfit : fits o c.args.rise.slot (slot_at s c.args.rise.place) ≡ false =
    ap (fits o c.args.rise.slot) (sym own) ∙ sym c.fits.ensures ∙ c.if-fits.false in
    let joined : c.join.result ≡ join o (slot_at s c.args.rise.place) c.args.rise.slot =
    c.join.ensures ∙ ap (λ x. join o x c.args.rise.slot) own in
    let after : known_state c.set.new.self ≡ with_slot c.args.rise.place (join o (slot_at s c.args.rise.place) c.args.rise.slot) s =
    c.in_ok-set.ensures ∙ ap (λ x. with_slot c.args.rise.place x s) joined in
    let States : TypeState → Type 0 = λ x. RaisesOne t c.args.rise s x c.args.places.now.items c.push.new.self.items in
    let Places : List SlotPlace → Type 0 =
    λ xs. RaisesOne t c.args.rise s (with_slot c.args.rise.place (join o (slot_at s c.args.rise.place) c.args.rise.slot) s) c.args.places.now.items xs in
    subst States (sym after)
    (subst Places (sym c.in_ok-push.ensures.items) (RaisesOne-set t c.args.rise s c.args.places.now.items c.requires.sound c.requires.local unfit))
