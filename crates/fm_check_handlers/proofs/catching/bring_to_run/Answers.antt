use Rattle.std.proofs.Common.{◌∙◌, sym, subst, List, Contains}
use Rattle.fm_base.proofs.TestFacts.{match_true}
use Rattle.fm_check_handlers.proofs.GivingLemmas.{GivesRun-brought, GivesRun-open, open_can, open_local}
use Rattle.fm_check_walk.proofs.Outcomes.{ok_weaker}
use Rattle.fm_check_walk.specs.declared.risen.Rise.{Rise}
use Rattle.fm_check_handlers.specs.inner.Runs.{GivesRun, has_room, is_brought, BringsHandlers}
use Rattle.fm_check_walk.specs.inner.Walks.{CanCarry, Untypable, walked}
use Rattle.fm_check_walk.specs.inner.Tasks.{task}
use Rattle.fm_code.specs.declared.code_array.Handler.{Handler}
use Rattle.fm_types.specs.Typings.{type_state}
use Rattle.fm_check_handlers.proofs.catching.bring_to_run.Goals as goal

pub carry_to_run-requires-clause-local : goal.carry_to_run-requires-clause-local
carry_to_run-requires-clause-local c = λ rise found.
    let t = task c.args.method.now in
    open_local t.code.max_locals (type_state c.args.state.now) c.in_ok-rises.rises.items c.args.run.now (sym c.is_open.ensures ∙ c.if-is_open.true)
    c.in_ok-rises.ensures rise (subst (λ (xs : List Rise). Contains xs rise) c.deref.ensures.value found)

pub carry_to_run-requires-clause-carried : goal.carry_to_run-requires-clause-carried
carry_to_run-requires-clause-carried c = λ h found.
    let t = task c.args.method.now in
    let w = walked c.args.walk.now in
    subst (λ (xs : List Rise). CanCarry t w h.handler xs) (sym c.deref.ensures.value)
    (open_can t w c.args.item (type_state c.args.state.now) c.in_ok-rises.rises.items c.args.run.now c.requires.sound c.requires.forced
    (sym c.is_open.ensures ∙ c.if-is_open.true) c.requires.given c.in_ok-rises.ensures c.requires.holds h found)

pub returns-then-is_open : goal.returns-then-is_open
returns-then-is_open c =
    let t = task c.args.method.now in
    let s = type_state c.args.state.now in
    let run = c.args.run.now in
    let given = c.carry_to_run.new.run in
    let rises = c.in_ok-rises.rises.items in
    let old = walked c.args.walk.now in
    let new = walked c.carry_to_run.new.walk in
    ok_weaker (GivesRun (has_room t c.deref.result.now) t run given old new) (GivesRun (is_brought t c.args.item s) t run given old new) (Untypable t)
    c.carry_to_run.result
    (λ gives. GivesRun-open t c.args.item s rises run given old new c.requires.sound c.requires.within (sym c.is_open.ensures ∙ c.if-is_open.true)
    c.requires.given c.in_ok-rises.ensures (subst (λ (xs : List Rise). GivesRun (has_room t xs) t run given old new) c.deref.ensures.value gives))
    c.carry_to_run.ensures

pub bring_to_handlers-requires-clause-holds : goal.bring_to_handlers-requires-clause-holds
bring_to_handlers-requires-clause-holds c = λ h found.
    c.requires.holds h (subst (λ (hs : List Handler). Contains hs h) c.as_slice.ensures.value found)

pub returns : goal.returns
returns c =
    let t = task c.args.method.now in
    let s = type_state c.args.state.now in
    let old = walked c.args.walk.now in
    let new = walked c.bring_to_handlers.new.walk in
    let To : List Handler → Type 0 = λ hs. BringsHandlers t c.args.item s hs old new in
    let brings = subst To c.as_slice.ensures.value
    (match_true (To c.as_slice.result.now) (Untypable t) c.in_ok-bring_to_handlers.field-0 c.if-not-branch.false c.in_ok-bring_to_handlers.ensures) in
    let kept = c.in_ok-keep.ensures in
    GivesRun-brought t c.args.item s c.args.run.now c.keep.new.self kept.known old new c.requires.sound c.requires.forced kept.is kept.bare kept.same
    c.requires.holds brings
