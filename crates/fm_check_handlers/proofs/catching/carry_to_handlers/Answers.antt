use Rattle.std.proofs.Common.{rules, ◌≡◌, length, subst, List, get_or}
use Rattle.std.proofs.lemmas.List.{take_all}
use Rattle.std.proofs.lemmas.List.Elements.{Contains-get_or}
use Rattle.fm_base.proofs.TestFacts.{match_true}
use Rattle.fm_check_handlers.proofs.GivingLemmas.{CarriesHandlers-nothing}
use Rattle.fm_check_handlers.proofs.HandlerLemmas.{CarriesHandlers-more, CarriesHandlers-none}
use Rattle.fm_check_walk.proofs.CarryLemmas.{can_carry_later}
use Rattle.fm_check_walk.specs.inner.Walks.{Carries, Untypable, walked}
use Rattle.fm_check_handlers.specs.inner.Runs.{CarriesHandlers}
use Rattle.fm_check_walk.specs.inner.Tasks.{task}
use Rattle.fm_code.specs.declared.code_array.Handler.{Handler}
use Rattle.fm_check_handlers.proofs.catching.carry_to_handlers.Goals as goal
use Rattle.fm_flow.proofs.HandlerLemmas.{blank}

pub returns-then-is_empty : goal.returns-then-is_empty
returns-then-is_empty c =
    let none : length c.args.rises.now ≡ 0 = search rules in
    CarriesHandlers-nothing (task c.args.method.now) c.args.rises.now c.args.handlers.now (walked c.args.walk.now) c.requires.sound c.requires.stands none

pub loop-handler-init : goal.loop-handler-init
loop-handler-init c = CarriesHandlers-none (task c.args.method.now) c.args.rises.now (walked c.args.walk.now) c.requires.sound c.requires.stands

pub carry_all-requires-clause-stands : goal.carry_all-requires-clause-stands
carry_all-requires-clause-stands c = c.loop-handler.invariant.went.stands

pub carry_all-requires-clause-carried : goal.carry_all-requires-clause-carried
carry_all-requires-clause-carried c =
    let h = get_or c.args.handlers.now c.loop-handler.handler-index blank in
    can_carry_later (task c.args.method.now) (walked c.args.walk.now) (walked c.loop-handler.walk) h.handler c.args.rises.now
    c.loop-handler.invariant.went
    (c.requires.carried h (Contains-get_or c.args.handlers.now c.loop-handler.handler-index blank c.loop-handler-test.true))

pub loop-handler-preserved : goal.loop-handler-preserved
loop-handler-preserved c =
    CarriesHandlers-more (task c.args.method.now) c.args.rises.now c.args.handlers.now c.loop-handler.handler-index
    (walked c.args.walk.now) (walked c.loop-handler.walk) (walked c.carry_all.new.self) c.requires.sound c.loop-handler-test.true
    c.loop-handler.invariant
    (match_true
    (Carries (task c.args.method.now) (get_or c.args.handlers.now c.loop-handler.handler-index blank).handler c.args.rises.now
    (walked c.loop-handler.walk) (walked c.carry_all.new.self))
    (Untypable (task c.args.method.now)) c.in_ok-carry_all.field-0 c.if-not-branch.false c.in_ok-carry_all.ensures)

pub returns : goal.returns
returns c =
    let Done : List Handler → Type 0 =
    λ handlers. CarriesHandlers (task c.args.method.now) c.args.rises.now handlers (walked c.args.walk.now) (walked c.loop-handler.walk) in
    subst Done (take_all c.loop-handler.handler-index c.args.handlers.now c.loop-handler-test.false) c.loop-handler.invariant
