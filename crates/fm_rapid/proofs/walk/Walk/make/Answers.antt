use Rattle.std.proofs.Common.{◌≡◌, ◌∙◌, sym, arith, subst, List, Bool, true}
use Rattle.fm_base.specs.Rows.{has}
use Rattle.fm_base.proofs.RowFacts.{has-set_same}
use Rattle.fm_rapid.proofs.WalkSteps.{Goes-none, made_goes, made_one, nothing_received}
use Rattle.fm_rapid.specs.inner.Walks.{sets_of, IsWalk}
use Rattle.fm_rapid.proofs.walk.Walk.make.Goals as goal

pub get-requires : goal.get-requires
get-requires c = let size = c.requires.walk.lengths.made in omega (arith, c.requires.class, size)

pub returns-then-get-clause-goes : goal.returns-then-get-clause-goes
returns-then-get-clause-goes c = Goes-none c.args.program.now (sets_of c.args.self.now) c.requires.walk

pub returns-then-get-clause-made : goal.returns-then-get-clause-made
returns-then-get-clause-made c = sym c.get.ensures ∙ c.if-get.true

pub set-requires : goal.set-requires
set-requires c = let size = c.requires.walk.lengths.made in omega (arith, c.requires.class, size)

pub returns-then-not-is_concrete-clause-goes : goal.returns-then-not-is_concrete-clause-goes
returns-then-not-is_concrete-clause-goes c =
    let p = c.args.program.now in
    let w = sets_of c.args.self.now in
    let now = record w { made = c.set.new.self } in
    let walk = subst (λ (row : List Bool). IsWalk p (record w { made = row })) (sym c.set.ensures) (made_one p w c.args.class.0 c.requires.walk c.requires.needed) in
    made_goes p w now c.args.class.0 c.set.new.self c.set.ensures (Goes-none p now walk)
    (nothing_received p now c.args.class.0 (sym c.is_concrete.ensures ∙ c.if-not-is_concrete.true))

pub returns-then-not-is_concrete-clause-made : goal.returns-then-not-is_concrete-clause-made
returns-then-not-is_concrete-clause-made c =
    let size = c.requires.walk.lengths.made in
    subst (λ (row : List Bool). has row c.args.class.0 ≡ true) (sym c.set.ensures)
    (has-set_same c.args.self.now.made c.args.class.0 (omega (arith, c.requires.class, size)))

pub receive_all-requires-clause-walk : goal.receive_all-requires-clause-walk
receive_all-requires-clause-walk c =
    let p = c.args.program.now in
    let w = sets_of c.args.self.now in
    subst (λ (row : List Bool). IsWalk p (record w { made = row })) (sym c.set.ensures) (made_one p w c.args.class.0 c.requires.walk c.requires.needed)

pub receive_all-requires-clause-made : goal.receive_all-requires-clause-made
receive_all-requires-clause-made c =
    let size = c.requires.walk.lengths.made in
    subst (λ (row : List Bool). has row c.args.class.0 ≡ true) (sym c.set.ensures)
    (has-set_same c.args.self.now.made c.args.class.0 (omega (arith, c.requires.class, size)))

pub receive_all-requires-clause-concrete : goal.receive_all-requires-clause-concrete
receive_all-requires-clause-concrete c = sym c.is_concrete.ensures ∙ c.if-not-is_concrete.false

pub returns-clause-goes : goal.returns-clause-goes
returns-clause-goes c =
    made_goes c.args.program.now (sets_of c.args.self.now) (sets_of c.receive_all.new.self) c.args.class.0 c.set.new.self c.set.ensures
    c.in_ok-receive_all.ensures.goes c.in_ok-receive_all.ensures.received
