use Rattle.std.proofs.Common.{subst, ℕ, List, get_or}
use Rattle.std.proofs.lemmas.List.{take_all}
use Rattle.std.proofs.lemmas.List.Elements.{Contains-get_or}
use Rattle.fm_base.proofs.TestFacts.{match_true}
use Rattle.fm_types.specs.Typings.{type_state}
use Rattle.fm_check.proofs.ItemLemmas.{BringsAll-more, BringsAll-none}
use Rattle.fm_check_walk.specs.inner.Walks.{Brings, Untypable, walked}
use Rattle.fm_check.specs.inner.Steps.{BringsAll}
use Rattle.fm_check_walk.specs.inner.Tasks.{task}
use Rattle.fm_check.proofs.steps.bring_to_all.Goals as goal

pub loop-item-init : goal.loop-item-init
loop-item-init c =
    BringsAll-none (task c.args.method.now) (type_state c.args.brought.now) (walked c.args.walk.now) c.requires.sound c.requires.stands

pub bring-requires-clause-stands : goal.bring-requires-clause-stands
bring-requires-clause-stands c = c.loop-item.invariant.went.stands

pub bring-requires-clause-forced : goal.bring-requires-clause-forced
bring-requires-clause-forced c =
    c.requires.forced (get_or c.args.items.now c.loop-item.item-index 0)
    (Contains-get_or c.args.items.now c.loop-item.item-index 0 c.loop-item-test.true)

pub loop-item-preserved : goal.loop-item-preserved
loop-item-preserved c =
    BringsAll-more (task c.args.method.now) c.args.items.now c.loop-item.item-index (type_state c.args.brought.now) (walked c.args.walk.now)
    (walked c.loop-item.walk) (walked c.bring.new.self) c.requires.sound c.loop-item-test.true c.loop-item.invariant
    (match_true
    (Brings (task c.args.method.now) (get_or c.args.items.now c.loop-item.item-index 0) (type_state c.args.brought.now) (walked c.loop-item.walk)
    (walked c.bring.new.self))
    (Untypable (task c.args.method.now)) c.in_ok-bring.field-0 c.if-not-branch.false c.in_ok-bring.ensures)

pub returns : goal.returns
returns c =
    let Done : List ℕ → Type 0 =
    λ items. BringsAll (task c.args.method.now) items (type_state c.args.brought.now) (walked c.args.walk.now) (walked c.loop-item.walk) in
    subst Done (take_all c.loop-item.item-index c.args.items.now c.loop-item-test.false) c.loop-item.invariant
