use Rattle.std.proofs.Common.{subst, List, get_or}
use Rattle.std.proofs.lemmas.List.{take_all}
use Rattle.std.proofs.lemmas.List.Elements.{Contains-get_or}
use Rattle.fm_base.proofs.TestFacts.{match_true}
use Rattle.fm_types.specs.Typings.{type_state}
use Rattle.fm_check_handlers.proofs.HandlerLemmas.{BringsHandlers-more, BringsHandlers-none}
use Rattle.fm_check_handlers.specs.inner.Runs.{BringsCaught, BringsHandlers}
use Rattle.fm_check_walk.specs.inner.Walks.{Untypable, walked}
use Rattle.fm_check_walk.specs.inner.Tasks.{task}
use Rattle.fm_code.specs.declared.code_array.Handler.{Handler}
use Rattle.fm_check_handlers.proofs.catching.bring_to_handlers.Goals as goal
use Rattle.fm_flow.proofs.HandlerLemmas.{blank}

pub loop-handler-init : goal.loop-handler-init
loop-handler-init c =
    BringsHandlers-none (task c.args.method.now) c.args.item (type_state c.args.state.now) (walked c.args.walk.now) c.requires.sound c.requires.stands

pub bring_caught-requires-clause-stands : goal.bring_caught-requires-clause-stands
bring_caught-requires-clause-stands c = c.loop-handler.invariant.went.stands

pub bring_caught-requires-clause-holds : goal.bring_caught-requires-clause-holds
bring_caught-requires-clause-holds c =
    c.requires.holds (get_or c.args.handlers.now c.loop-handler.handler-index blank)
    (Contains-get_or c.args.handlers.now c.loop-handler.handler-index blank c.loop-handler-test.true)

pub loop-handler-preserved : goal.loop-handler-preserved
loop-handler-preserved c =
    BringsHandlers-more (task c.args.method.now) c.args.item (type_state c.args.state.now) c.args.handlers.now c.loop-handler.handler-index
    (walked c.args.walk.now) (walked c.loop-handler.walk) (walked c.bring_caught.new.walk) c.requires.sound c.loop-handler-test.true
    c.loop-handler.invariant
    (match_true
    (BringsCaught (task c.args.method.now) c.args.item (type_state c.args.state.now) (get_or c.args.handlers.now c.loop-handler.handler-index blank)
    (walked c.loop-handler.walk) (walked c.bring_caught.new.walk))
    (Untypable (task c.args.method.now)) c.in_ok-bring_caught.field-0 c.if-not-branch.false c.in_ok-bring_caught.ensures)

pub returns : goal.returns
returns c =
    let Done : List Handler → Type 0 =
    λ handlers. BringsHandlers (task c.args.method.now) c.args.item (type_state c.args.state.now) handlers (walked c.args.walk.now) (walked c.loop-handler.walk) in
    subst Done (take_all c.loop-handler.handler-index c.args.handlers.now c.loop-handler-test.false) c.loop-handler.invariant
