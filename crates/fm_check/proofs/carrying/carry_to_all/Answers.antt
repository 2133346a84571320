use Rattle.std.proofs.Common.{subst, ℕ, List, get_or}
use Rattle.std.proofs.lemmas.List.{take_all}
use Rattle.std.proofs.lemmas.List.Elements.{Contains-get_or}
use Rattle.fm_base.proofs.TestFacts.{match_true}
use Rattle.fm_check_walk.proofs.CarryLemmas.{can_carry_later}
use Rattle.fm_check.proofs.RiseLemmas.{CarriesAll-more, CarriesAll-none}
use Rattle.fm_check_walk.specs.inner.Walks.{Carries, Untypable, walked}
use Rattle.fm_check.specs.inner.Steps.{CarriesAll}
use Rattle.fm_check_walk.specs.inner.Tasks.{task}
use Rattle.fm_check.proofs.carrying.carry_to_all.Goals as goal

pub loop-item-init : goal.loop-item-init
loop-item-init c = CarriesAll-none (task c.args.method.now) c.args.rises.now (walked c.args.walk.now) c.requires.sound c.requires.stands

pub carry_all-requires-clause-stands : goal.carry_all-requires-clause-stands
carry_all-requires-clause-stands c = c.loop-item.invariant.went.stands

pub carry_all-requires-clause-carried : goal.carry_all-requires-clause-carried
carry_all-requires-clause-carried c =
    let item = get_or c.args.items.now c.loop-item.item-index 0 in
    can_carry_later (task c.args.method.now) (walked c.args.walk.now) (walked c.loop-item.walk) item c.args.rises.now c.loop-item.invariant.went
    (c.requires.carried item (Contains-get_or c.args.items.now c.loop-item.item-index 0 c.loop-item-test.true))

pub loop-item-preserved : goal.loop-item-preserved
loop-item-preserved c =
    CarriesAll-more (task c.args.method.now) c.args.items.now c.args.rises.now c.loop-item.item-index (walked c.args.walk.now)
    (walked c.loop-item.walk) (walked c.carry_all.new.self) c.requires.sound c.loop-item-test.true c.loop-item.invariant
    (match_true
    (Carries (task c.args.method.now) (get_or c.args.items.now c.loop-item.item-index 0) c.args.rises.now (walked c.loop-item.walk)
    (walked c.carry_all.new.self))
    (Untypable (task c.args.method.now)) c.in_ok-carry_all.field-0 c.if-not-branch.false c.in_ok-carry_all.ensures)

pub returns : goal.returns
returns c =
    let Done : List ℕ → Type 0 =
    λ items. CarriesAll (task c.args.method.now) items c.args.rises.now (walked c.args.walk.now) (walked c.loop-item.walk) in
    subst Done (take_all c.loop-item.item-index c.args.items.now c.loop-item-test.false) c.loop-item.invariant
