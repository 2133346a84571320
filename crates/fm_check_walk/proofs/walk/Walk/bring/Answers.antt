use Rattle.std.proofs.Common.{◌≡◌, ◌∙◌, false, sym, ap, subst, None, Some}
use Rattle.std.specs.Option.{option_map}
use Rattle.fm_check_walk.proofs.WalkLemmas.{Brings-first, Brings-fit, Brings-joined, few_locals, few_words, joined_level, no_join, state_copied, state_seen, too_large}
use Rattle.fm_check_walk.specs.inner.Risen.{noted}
use Rattle.fm_check_walk.specs.inner.Walks.{Brings, risen_at, Walked, walked, with_state}
use Rattle.fm_check_walk.specs.inner.Tasks.{task}
use Rattle.fm_types.specs.States.{state_fits, TypeState}
use Rattle.fm_types.specs.Typings.{known_state, type_state}
use Rattle.fm_check_walk.proofs.walk.Walk.bring.Goals as goal

pub returns-then-not-is_within : goal.returns-then-not-is_within
returns-then-not-is_within c =
    too_large (task c.args.method.now) c.args.item (type_state c.args.brought.now) c.requires.forced (sym c.is_within.ensures ∙ c.if-not-is_within.true)

pub returns-in_default : goal.returns-in_default
returns-in_default c =
    let t = task c.args.method.now in
    let w = walked c.args.self.now in
    let s = type_state c.args.brought.now in
    let none = state_seen c.args.self.now.states.items c.as_slice.result.now c.args.item None c.as_slice.ensures.value c.in_default.ensures in
    let is = c.in_ok-begin.ensures ∙ ap (λ (x : TypeState). with_state c.args.item None x w) c.in_ok-first.ensures in
    let Done : Walked → Type 0 = λ x. Brings t c.args.item s w x in
    subst Done (sym is)
    (Brings-first t c.args.item s w c.requires.sound c.requires.stands c.requires.forced (sym c.is_within.ensures ∙ c.if-not-is_within.false) none)

pub returns-then-state_fits : goal.returns-then-state_fits
returns-then-state_fits c =
    let old = known_state c.in-Some.known.now in
    let is = state_seen c.args.self.now.states.items c.as_slice.result.now c.args.item (Some old) c.as_slice.ensures.value c.in-Some.ensures in
    Brings-fit (task c.args.method.now) c.args.item (type_state c.args.brought.now) old (walked c.args.self.now) c.requires.sound c.requires.stands is
    (sym c.state_fits.ensures ∙ c.if-state_fits.true)

pub returns-in_default-2 : goal.returns-in_default-2
returns-in_default-2 c =
    let old = type_state c.in_ok-state.state in
    let is = state_copied c.args.self.now.states.items c.as_slice.result.now c.args.item (known_state c.in-Some.known.now) old c.as_slice.ensures.value
    c.in-Some.ensures c.in_ok-state.ensures in
    no_join (task c.args.method.now) (walked c.args.self.now) c.args.item (type_state c.args.brought.now) old c.requires.sound c.requires.stands
    c.requires.forced is (sym c.in_ok-joined.ensures ∙ ap (option_map type_state) c.in_default-2.is)

pub risen_places-requires-clause-locals : goal.risen_places-requires-clause-locals
risen_places-requires-clause-locals c =
    let gives = sym c.in_ok-joined.ensures ∙ ap (option_map type_state) c.in-Some-2.is in
    (joined_level c.args.method.now.program.now.outline (type_state c.in_ok-state.state) (type_state c.args.brought.now)
    (type_state c.in-Some-2.joined) c.requires.sound.tree gives).locals

pub risen_places-requires-clause-stack : goal.risen_places-requires-clause-stack
risen_places-requires-clause-stack c =
    let gives = sym c.in_ok-joined.ensures ∙ ap (option_map type_state) c.in-Some-2.is in
    (joined_level c.args.method.now.program.now.outline (type_state c.in_ok-state.state) (type_state c.args.brought.now)
    (type_state c.in-Some-2.joined) c.requires.sound.tree gives).stack

pub risen_places-requires-clause-few_locals : goal.risen_places-requires-clause-few_locals
risen_places-requires-clause-few_locals c =
    let old = type_state c.in_ok-state.state in
    let is = state_copied c.args.self.now.states.items c.as_slice.result.now c.args.item (known_state c.in-Some.known.now) old c.as_slice.ensures.value
    c.in-Some.ensures c.in_ok-state.ensures in
    let gives = sym c.in_ok-joined.ensures ∙ ap (option_map type_state) c.in-Some-2.is in
    let level = joined_level c.args.method.now.program.now.outline old (type_state c.args.brought.now) (type_state c.in-Some-2.joined)
    c.requires.sound.tree gives in
    few_locals (task c.args.method.now).code old (type_state c.in-Some-2.joined) level (c.requires.stands.each c.args.item old is).within
    c.law_few.ensures

pub risen_places-requires-clause-few_words : goal.risen_places-requires-clause-few_words
risen_places-requires-clause-few_words c =
    let old = type_state c.in_ok-state.state in
    let is = state_copied c.args.self.now.states.items c.as_slice.result.now c.args.item (known_state c.in-Some.known.now) old c.as_slice.ensures.value
    c.in-Some.ensures c.in_ok-state.ensures in
    let gives = sym c.in_ok-joined.ensures ∙ ap (option_map type_state) c.in-Some-2.is in
    let level = joined_level c.args.method.now.program.now.outline old (type_state c.args.brought.now) (type_state c.in-Some-2.joined)
    c.requires.sound.tree gives in
    few_words (task c.args.method.now).code old (type_state c.in-Some-2.joined) level (c.requires.stands.each c.args.item old is).within
    c.law_few-2.ensures

pub returns : goal.returns
returns c =
    let t = task c.args.method.now in
    let w = walked c.args.self.now in
    let s = type_state c.args.brought.now in
    let old = type_state c.in_ok-state.state in
    let joined = type_state c.in-Some-2.joined in
    let is = state_copied c.args.self.now.states.items c.as_slice.result.now c.args.item (known_state c.in-Some.known.now) old c.as_slice.ensures.value
    c.in-Some.ensures c.in_ok-state.ensures in
    let gives = sym c.in_ok-joined.ensures ∙ ap (option_map type_state) c.in-Some-2.is in
    let unfit : state_fits t.program.outline s old ≡ false =
    ap (state_fits t.program.outline s) c.in_ok-state.ensures ∙ sym c.state_fits.ensures ∙ c.if-state_fits.false in
    let Done : Walked → Type 0 = λ x. Brings t c.args.item s w x in
    let raised = c.in_ok-raise_state.ensures
    ∙ ap (λ (x : TypeState). with_state c.args.item (noted c.most_noted.result (risen_at w c.args.item) c.in_ok-rose.rose) x w) c.in_ok-raised.ensures in
    subst Done (sym raised)
    (Brings-joined t c.args.item c.most_noted.result c.in_ok-rose.rose s old joined w c.requires.sound c.requires.stands c.requires.forced
    c.if-item-eq0.false is gives c.law_bounded_state.ensures unfit c.in_ok-rose.ensures)
