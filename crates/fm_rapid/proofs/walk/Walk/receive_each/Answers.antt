use Rattle.std.proofs.Common.{ℕ, List, get_or, subst}
use Rattle.std.proofs.lemmas.List.{take_all}
use Rattle.std.proofs.lemmas.List.Elements.{Contains-get_or}
use Rattle.fm_rapid.proofs.WalkSteps.{Goes-none, Goes-then, listed_more, listed_none}
use Rattle.fm_rapid.specs.inner.Walks.{sets_of, IsListedAt}
use Rattle.fm_summ.specs.inner.Callers.{lists_of}
use Rattle.fm_rapid.proofs.walk.Walk.receive_each.Goals as goal

pub loop-named-init : goal.loop-named-init
loop-named-init c = record {
  goes = Goes-none c.args.program.now (sets_of c.args.self.now) c.requires.walk;
  listed = listed_none (lists_of c.args.self.now.below.items) c.args.class.0;
}

pub receive-requires-clause-walk : goal.receive-requires-clause-walk
receive-requires-clause-walk c = c.loop-named.invariant.goes.walk

pub receive-requires-clause-named : goal.receive-requires-clause-named
receive-requires-clause-named c =
    (c.requires.supers (get_or c.args.supers.now c.loop-named.named-index 0)
    (Contains-get_or c.args.supers.now c.loop-named.named-index 0 c.loop-named-test.true)).inside

pub receive-requires-clause-made : goal.receive-requires-clause-made
receive-requires-clause-made c = c.loop-named.invariant.goes.went.made c.args.class.0 c.requires.made

pub receive-requires-clause-receives : goal.receive-requires-clause-receives
receive-requires-clause-receives c =
    (c.requires.supers (get_or c.args.supers.now c.loop-named.named-index 0)
    (Contains-get_or c.args.supers.now c.loop-named.named-index 0 c.loop-named-test.true)).receives

pub loop-named-preserved : goal.loop-named-preserved
loop-named-preserved c = record {
  goes = Goes-then c.args.program.now (sets_of c.args.self.now) (sets_of c.loop-named.self) (sets_of c.receive.new.self) c.loop-named.invariant.goes
      c.in_ok-receive.ensures.goes;
  listed = listed_more c.args.program.now (sets_of c.loop-named.self) (sets_of c.receive.new.self) c.in_ok-receive.ensures.goes.went c.args.supers.now
      c.loop-named.named-index c.args.class.0 c.loop-named-test.true c.loop-named.invariant.listed c.in_ok-receive.ensures.listed;
}

pub returns-clause-goes : goal.returns-clause-goes
returns-clause-goes c = c.loop-named.invariant.goes

pub returns-clause-listed : goal.returns-clause-listed
returns-clause-listed c =
    subst (λ (xs : List ℕ). IsListedAt (lists_of c.loop-named.self.below.items) xs c.args.class.0)
    (take_all c.loop-named.named-index c.args.supers.now c.loop-named-test.false) c.loop-named.invariant.listed
