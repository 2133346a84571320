use Rattle.std.proofs.Common.{sym, subst, List, [], get_or}
use Rattle.std.proofs.lemmas.List.{take_all}
use Rattle.std.proofs.lemmas.List.Elements.{Contains-get_or}
use Rattle.fm_check_handlers.proofs.GivingLemmas.{IsRaised-more, IsRaised-none}
use Rattle.fm_check_walk.proofs.RisenLemmas.{nothing}
use Rattle.fm_types.specs.declared.known_state.SlotPlace.{SlotPlace}
use Rattle.fm_check_walk.specs.declared.risen.Rise.{Rise}
use Rattle.fm_types.specs.Typings.{known_state}
use Rattle.fm_check_handlers.specs.inner.Runs.{IsRaised}
use Rattle.fm_check_walk.specs.inner.Tasks.{task}
use Rattle.fm_check_handlers.proofs.catching.raise.Goals as goal

pub loop-rise-init : goal.loop-rise-init
loop-rise-init c =
    let s = known_state c.args.given.now in
    subst (λ (places : List SlotPlace). IsRaised (task c.args.method.now) [] s s places) (sym c.new-places.ensures.items)
    (IsRaised-none (task c.args.method.now) s)

pub raise_one-requires-clause-local : goal.raise_one-requires-clause-local
raise_one-requires-clause-local c =
    c.requires.local (get_or c.args.rises.now c.loop-rise.rise-index nothing)
    (Contains-get_or c.args.rises.now c.loop-rise.rise-index nothing c.loop-rise-test.true)

pub loop-rise-preserved : goal.loop-rise-preserved
loop-rise-preserved c =
    IsRaised-more (task c.args.method.now) c.args.rises.now c.loop-rise.rise-index nothing (known_state c.args.given.now)
    (known_state c.loop-rise.given) (known_state c.raise_one.new.given) c.loop-rise.places.items c.raise_one.new.places.items c.requires.sound
    c.loop-rise-test.true c.requires.local c.loop-rise.invariant c.in_ok-raise_one.ensures

pub returns : goal.returns
returns c =
    let Done : List Rise → Type 0 =
    λ rises. IsRaised (task c.args.method.now) rises (known_state c.args.given.now) (known_state c.loop-rise.given) c.loop-rise.places.items in
    subst Done (take_all c.loop-rise.rise-index c.args.rises.now c.loop-rise-test.false) c.loop-rise.invariant
