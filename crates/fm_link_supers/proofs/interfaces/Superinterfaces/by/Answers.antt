use Rattle.std.proofs.Common.{◌≡◌, sym, ◌∙◌, subst, ◌≤◌, true, length, replicate, add-one, arith, rules}
use Rattle.fm_link_supers.proofs.InterfaceLemmas.{all_go_on, none_above}
use Rattle.fm_link_supers.proofs.OnceEach.{once_count}
use Rattle.fm_link_supers.proofs.PassedLemmas.{none_passed}
use Rattle.fm_link_supers.specs.inner.InterfaceRounds.{AreFoundTo, IsAboveTo}
use Rattle.fm_link_supers.specs.inner.ListTables.{lists}
use Rattle.fm_link_supers.proofs.interfaces.Superinterfaces.by.Goals as goal

pub loop-init : goal.loop-init
loop-init c = record {
  found = λ classes same.
      let count = once_count classes c.args.listed.now same in
      let marks : c.in_ok-vec.field-0.items ≡ replicate (length c.args.listed.now) true = search rules in
      record {
        goes_on = marks ∙ all_go_on classes (length c.args.listed.now) count;
        above = subst (IsAboveTo classes 0) (sym c.in_ok-empty_lists.ensures) (none_above classes (length c.args.listed.now) count);
      };
  passed = λ classes same.
      none_passed c.in_ok-vec.field-0.items (lists c.args.listed.now) c.in_ok-passed.passed.items (length c.args.listed.now)
      (c.in_ok-passed.ensures.items_if_clones_equal (λ y e. e));
}

pub loop-preserved : goal.loop-preserved
loop-preserved c = record {
  found = λ classes same.
      let count = once_count classes c.args.listed.now same in
      subst (λ k. AreFoundTo classes k c.go_deeper.new.self) (sym (add-one c.loop.counter))
      (c.in_ok-go_deeper.ensures.deeper classes c.loop.counter same (omega (arith, c.loop-test.true, count)) (c.loop.invariant.found classes same)
      (c.loop.invariant.passed classes same));
  passed = λ classes same.
      let count = once_count classes c.args.listed.now same in
      c.in_ok-go_deeper.ensures.passes classes c.loop.counter same (omega (arith, c.loop-test.true, count)) (c.loop.invariant.found classes same)
      (c.loop.invariant.passed classes same);
}

pub returns : goal.returns
returns c classes same =
    let count = once_count classes c.args.listed.now same in
    let all : c.loop.counter ≡ length classes = omega (arith, c.loop-test.false, count) in
    subst (λ k. AreFoundTo classes k c.loop.found) all (c.loop.invariant.found classes same)

pub returns-then-not-branch : goal.returns-then-not-branch
returns-then-not-branch c classes same =
    let count = once_count classes c.args.listed.now same in
    let few : c.loop.counter ≤ length classes = omega (arith, c.loop-test.true, count) in
    c.in_ok-go_deeper.ensures.ends classes c.loop.counter (length classes) same few (c.loop.invariant.found classes same)
    (c.loop.invariant.passed classes same) c.if-not-branch.true few
