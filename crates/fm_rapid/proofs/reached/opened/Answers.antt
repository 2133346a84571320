use Rattle.std.proofs.Common.{◌≡◌, ◌<◌, sym, subst, true, length}
use Rattle.fm_base.specs.Rows.{has}
use Rattle.fm_rapid.proofs.Opening.{new_walk, starts_needed, under_way}
use Rattle.fm_rapid.proofs.WalkSteps.{Goes-then}
use Rattle.fm_rapid.specs.Reach.{starts_of, AreIn}
use Rattle.fm_rapid.specs.inner.Walks.{sets_of, AreNeeded, IsNeeded}
use Rattle.fm_world.specs.Members.{methods_of}
use Rattle.fm_rapid.proofs.reached.opened.Goals as goal

pub make_built_ins-requires-clause-walk : goal.make_built_ins-requires-clause-walk
make_built_ins-requires-clause-walk c = new_walk c.args.program.now (sets_of c.in_ok-walk.walk) c.in_ok-walk.ensures

pub enter-requires-clause-walk : goal.enter-requires-clause-walk
enter-requires-clause-walk c = c.in_ok-make_built_ins.ensures.goes.walk

pub enter-requires-clause-inside : goal.enter-requires-clause-inside
enter-requires-clause-inside c =
    subst (λ n. n < length (methods_of c.args.program.now.outline.classes)) (sym c.main-main.ensures) c.requires.opening.main

pub enter-requires-clause-needed : goal.enter-requires-clause-needed
enter-requires-clause-needed c = subst (IsNeeded c.args.program.now) (sym c.main-main.ensures) (λ methods made closed. closed.main)

pub start-requires-clause-walk : goal.start-requires-clause-walk
start-requires-clause-walk c = c.in_ok-enter.ensures.goes.walk

pub start-requires-clause-class : goal.start-requires-clause-class
start-requires-clause-class c =
    subst (λ n. n < length c.args.program.now.outline.classes) (sym c.main_class-main_class.ensures) c.requires.opening.main_class

pub start-requires-clause-needed : goal.start-requires-clause-needed
start-requires-clause-needed c =
    subst (λ n. AreNeeded c.args.program.now (starts_of c.args.program.now.outline n)) (sym c.main_class-main_class.ensures)
    (starts_needed c.args.program.now c.args.program.now.outline.main_class (λ methods made closed. closed.opening))

pub returns : goal.returns
returns c =
    let p = c.args.program.now in
    let new = sets_of c.in_ok-walk.walk in
    let first = sets_of c.make_built_ins.new.self in
    let second = sets_of c.enter.new.self in
    let third = sets_of c.start.new.self in
    let one = c.in_ok-make_built_ins.ensures.goes in
    let two = c.in_ok-enter.ensures.goes in
    let three = c.in_ok-start.ensures.goes in
    under_way p new third c.in_ok-walk.ensures (Goes-then p new first third one (Goes-then p first second third two three))
    (three.went.methods p.outline.main (subst (λ n. has second.methods n ≡ true) c.main-main.ensures c.in_ok-enter.ensures.entered))
    (subst (λ n. AreIn third.methods (starts_of p.outline n)) c.main_class-main_class.ensures c.in_ok-start.ensures.started)
    (λ class inside. three.went.made class (two.went.made class (c.in_ok-make_built_ins.ensures.made class inside)))
