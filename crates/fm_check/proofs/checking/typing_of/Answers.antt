use Rattle.std.proofs.Common.{◌∙◌, sym, ap, subst, List, map, None, Option}
use Rattle.std.specs.Option.{option_map}
use Rattle.fm_base.proofs.TestFacts.{match_true}
use Rattle.fm_check.proofs.ItemLemmas.{entry_forced, settled-is_least, Walking-first}
use Rattle.fm_check_walk.proofs.WalkLemmas.{too_large}
use Rattle.fm_check.specs.inner.Steps.{HasSettled, IsLeast, Walking}
use Rattle.fm_check_walk.specs.inner.Walks.{IsForced, not_begun, Untypable, Walked, walked, with_state}
use Rattle.fm_check_walk.specs.inner.Tasks.{task}
use Rattle.fm_types.specs.States.{TypeState}
use Rattle.fm_types.specs.Typings.{known_state, type_state}
use Rattle.fm_types.specs.declared.known_state.KnownState.{KnownState}
use Rattle.fm_check.proofs.checking.typing_of.Goals as goal

pub returns-then-not-is_within : goal.returns-then-not-is_within
returns-then-not-is_within c =
    let t = task c.args.method.now in
    let At : TypeState → Type 0 = λ x. IsForced t 0 x in
    too_large t 0 (type_state c.in_ok-first.first) (subst At (sym c.in_ok-first.ensures) (entry_forced t c.requires))
    (sym c.is_within.ensures ∙ c.if-not-is_within.true)

pub run-requires-clause-walking : goal.run-requires-clause-walking
run-requires-clause-walking c =
    let t = task c.args.method.now in
    let s = type_state c.in_ok-first.first in
    let is = c.in_ok-begin.ensures ∙ ap (λ (x : TypeState). with_state 0 None x (walked c.in_ok-walk.walk)) c.in_ok-known.ensures
    ∙ ap (λ (w : Walked). with_state 0 None s w) (c.in_ok-walk.ensures ∙ ap not_begun c.len.ensures) in
    let Of : Walked → Type 0 = λ w. Walking t w in
    subst Of (sym is) (Walking-first t s c.requires c.in_ok-first.ensures (sym c.is_within.ensures ∙ c.if-not-is_within.false))

pub returns : goal.returns
returns c =
    let t = task c.args.method.now in
    let w = walked c.run.new.walk in
    let settled = match_true (HasSettled t w) (Untypable t) c.in_ok-run.field-0 c.if-not-branch.false c.in_ok-run.ensures in
    let Of : List (Option TypeState) → Type 0 = λ xs. IsLeast t xs in
    subst Of (sym (ap (λ (xs : List (Option KnownState)). map (option_map known_state) xs) c.new-2.ensures))
    (settled-is_least t w settled)
