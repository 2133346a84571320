use Rattle.std.proofs.Common.{◌≡◌, ◌∙◌, ◌+◌, [], List, ℕ, length, ap, sym, subst, arith}
use Rattle.std.proofs.lemmas.List.{nil_from_length, length_push}
use Rattle.fm_base.proofs.RowFacts.{has_inside}
use Rattle.fm_flow.specs.Marking.{unset}
use Rattle.fm_rapid.proofs.Closing.{last_in, popped, went_on}
use Rattle.fm_rapid.specs.inner.Walks.{sets_of, IsUnderWay}
use Rattle.fm_rapid.proofs.walk.Walk.follow_all.Goals as goal

pub follow-requires-clause-walk : goal.follow-requires-clause-walk
follow-requires-clause-walk c =
    popped c.args.program.now (sets_of c.loop-method.self) c.pop.new.self.items c.in-Some.method c.loop-method.invariant.walk c.in-Some.ensures.items

pub follow-requires-clause-inside : goal.follow-requires-clause-inside
follow-requires-clause-inside c =
    let walk = c.loop-method.invariant.walk in
    let there = has_inside c.loop-method.self.methods c.in-Some.method
    (last_in c.args.program.now (sets_of c.loop-method.self) c.pop.new.self.items c.in-Some.method walk c.in-Some.ensures.items) in
    let size = walk.lengths.methods in omega (arith, there, size)

pub follow-requires-clause-needed : goal.follow-requires-clause-needed
follow-requires-clause-needed c =
    let walk = c.loop-method.invariant.walk in
    walk.methods c.in-Some.method
    (last_in c.args.program.now (sets_of c.loop-method.self) c.pop.new.self.items c.in-Some.method walk c.in-Some.ensures.items)

pub loop-method-preserved : goal.loop-method-preserved
loop-method-preserved c =
    went_on c.args.program.now (sets_of c.loop-method.self) c.pop.new.self.items c.in-Some.method (sets_of c.follow.new.self) c.loop-method.invariant
    c.in-Some.ensures.items c.in_ok-follow.ensures.goes c.in_ok-follow.ensures.done

pub loop-method-smaller : goal.loop-method-smaller
loop-method-smaller c =
    let work : unset c.follow.new.self.methods + length c.follow.new.self.waiting.items ≡ unset c.loop-method.self.methods + length c.pop.new.self.items
    = c.in_ok-follow.ensures.goes.went.work in
    let longer : length c.loop-method.self.waiting.items ≡ length c.pop.new.self.items + 1 =
    ap length c.in-Some.ensures.items ∙ length_push c.pop.new.self.items c.in-Some.method in
    omega (arith, work, longer)

pub returns : goal.returns
returns c =
    let empty : c.loop-method.self.waiting.items ≡ [] =
    nil_from_length c.loop-method.self.waiting.items (let ok = c.loop-method.self.waiting.ok.0 in omega (arith, c.in_default.ensures.cases.0)) in
    let none : c.pop.new.self.items ≡ [] =
    nil_from_length c.pop.new.self.items (let ok = c.pop.new.self.ok.0 in omega (arith, ok, c.in_default.ensures.cases.1)) in
    record {
      under_way = subst (λ (xs : List ℕ). IsUnderWay c.args.program.now (record (sets_of c.loop-method.self) { waiting = xs })) (empty ∙ sym none)
          c.loop-method.invariant;
      none_waits = none;
    }
