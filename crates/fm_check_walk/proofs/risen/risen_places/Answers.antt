use Rattle.std.proofs.Common.{rules, ◌≡◌, ◌∙◌, refl, sym, subst, List, ◌++◌, map}
use Rattle.fm_check_walk.proofs.RisenLemmas.{alike-from_places}
use Rattle.fm_types.specs.declared.known_state.SlotPlace.{SlotPlace}
use Rattle.fm_types.specs.declared.known_state.SlotPlace.TheVariants as place
use Rattle.fm_check_walk.specs.inner.Risen.{IsAlikeBut}
use Rattle.fm_types.specs.Typings.{type_state}
use Rattle.fm_check_walk.proofs.risen.risen_places.Goals as goal

pub returns : goal.returns
returns c = λ found e.
    let after = type_state c.args.after.now in
    let before = type_state c.args.before.now in
    let built : after.built ≡ before.built = search rules in
    let locals = c.in_ok-locals.locals.items in
    let words = c.in_ok-words.words.items in
    let is : c.extend_from_slice.new.self.items ≡ map (λ k. place.Local k) locals ++ map (λ h. place.Word h) words = search rules in
    let same : c.extend_from_slice.new.self.items ≡ found = sym c.new.ensures ∙ (let one : c.new.result ≡ found = cc in one) in
    subst (λ (places : List SlotPlace). IsAlikeBut places after before) same
    (alike-from_places locals words c.extend_from_slice.new.self.items after.locals before.locals c.slots.result.now c.slots-2.result.now after before is
    c.in_ok-locals.ensures refl refl c.in_ok-words.ensures c.slots.ensures c.slots-2.ensures c.requires.locals c.requires.stack built)
