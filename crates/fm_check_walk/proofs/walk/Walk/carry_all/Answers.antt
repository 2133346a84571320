use Rattle.std.proofs.Common.{subst, List, get_or}
use Rattle.std.proofs.lemmas.List.{take_all}
use Rattle.fm_base.proofs.TestFacts.{match_true}
use Rattle.fm_check_walk.proofs.CarryLemmas.{can_one, Carries-more, Carries-none}
use Rattle.fm_check_walk.proofs.RisenLemmas.{nothing}
use Rattle.fm_check_walk.specs.declared.risen.Rise.{Rise}
use Rattle.fm_check_walk.specs.inner.Walks.{Carries, CarriesOne, Untypable, walked}
use Rattle.fm_check_walk.specs.inner.Tasks.{task}
use Rattle.fm_check_walk.proofs.walk.Walk.carry_all.Goals as goal

pub loop-rise-init : goal.loop-rise-init
loop-rise-init c = Carries-none (task c.args.method.now) c.args.item (walked c.args.self.now) c.requires.sound c.requires.stands

pub carry-requires-clause-stands : goal.carry-requires-clause-stands
carry-requires-clause-stands c = c.loop-rise.invariant.went.stands

pub carry-requires-clause-carried : goal.carry-requires-clause-carried
carry-requires-clause-carried c =
    can_one (task c.args.method.now) (walked c.args.self.now) (walked c.loop-rise.self) c.args.item c.loop-rise.rise-index nothing c.args.rises.now
    c.loop-rise.invariant.went.rises c.requires.carried c.loop-rise-test.true

pub loop-rise-preserved : goal.loop-rise-preserved
loop-rise-preserved c =
    Carries-more (task c.args.method.now) c.args.item c.args.rises.now c.loop-rise.rise-index nothing (walked c.args.self.now)
    (walked c.loop-rise.self) (walked c.carry.new.self) c.requires.sound c.loop-rise-test.true c.loop-rise.invariant
    (match_true
    (CarriesOne (task c.args.method.now) c.args.item (get_or c.args.rises.now c.loop-rise.rise-index nothing) (walked c.loop-rise.self)
    (walked c.carry.new.self))
    (Untypable (task c.args.method.now)) c.in_ok-carry.field-0 c.if-not-branch.false c.in_ok-carry.ensures)

pub returns : goal.returns
returns c =
    let Done : List Rise → Type 0 =
    λ rises. Carries (task c.args.method.now) c.args.item rises (walked c.args.self.now) (walked c.loop-rise.self) in
    subst Done (take_all c.loop-rise.rise-index c.args.rises.now c.loop-rise-test.false) c.loop-rise.invariant
