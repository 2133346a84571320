use Rattle.std.proofs.Common.{◌≡◌, ◌∙◌, sym, ap, subst, ◌+◌, ◌++◌, ◌∷◌, [], List, None, Option, drop, length, arith, refl}
use Rattle.std.specs.Vec.Iter.{into_iter_items}
use Rattle.std.proofs.lemmas.List.{append-nil}
use Rattle.fm_code.specs.declared.class_file.ClassDef.{ClassDef}
use Rattle.fm_rewrite.proofs.StepLemmas.{classes_more, left, long_more, none_left, others_counted, pool_left, pool_taken}
use Rattle.fm_rewrite.specs.inner.ByPlans.{classes_by, first_long_by, long_by, MayDoEach, method_count, own, pools_by, rewritten_by}
use Rattle.fm_chain.specs.declared.entries.ChainPool.{ChainPool}
use Rattle.fm_place_weave.specs.declared.planned.Planned.{Planned}
use Rattle.fm_rewrite.proofs.woven.woven_classes.Goals as goal

nothing_left : (xs : List (Option ChainPool)) → 0 ≡ length xs → xs ≡ []
nothing_left [] e = refl
nothing_left (x ∷ xs) e = absurd (omega arith)

pub loop-pool-preserved : goal.loop-pool-preserved
loop-pool-preserved c =
    let here = c.loop-pool in
    let inv = here.invariant in
    let pools = into_iter_items c.next.new.self in
    let steps : into_iter_items here.pool-iterator ≡ c.in-Some.pool ∷ pools = c.in-Some.ensures.steps.0 in
    let count = inv.count in
    let short = c.in-Some.ensures.steps.1 in
    let size = ap length steps in
    let classes = c.args.classes.now in
    let place = here.place in
    let done = here.rest.now in
    let taken : c.in-Some.pool ∷ pools ≡ pools_by done (drop place classes) = sym steps ∙ inv.left in
    let within = pool_left classes place done c.in-Some.pool pools taken in
    let class = c.index-classes-place.result in
    let is = c.index-classes-place.is in
    let after = c.later-rest.ensures in
    let rest = drop (place + 1) classes in
    let made_is : c.in_ok-made.made ≡ rewritten_by (own class done) class = c.in_ok-made.ensures.woven ∙ ap (λ d. rewritten_by d class) c.own.ensures in
    let fits : long_by here.number (own class done) class ≡ None =
    sym (ap (λ d. long_by here.number d class) c.own.ensures) ∙ c.in_ok-made.ensures.fits in
    let counted : method_count (drop place classes) ≡ length class.methods + method_count rest =
    ap (λ cs. method_count cs) (left classes place class within is (λ (cs : List ClassDef). drop place classes ≡ cs) refl) in
    let number : here.number + c.len.result ≡ here.number + length class.methods = ap (λ n. here.number + n) c.len.ensures in
    record {
      can_next = tt;
      is_finite = tt;
      count = omega arith;
      left = (pool_taken classes place class within is done c.in-Some.pool pools taken).1 ∙ ap (λ (d : List Planned). pools_by d rest) (sym after);
      one_each = ap length after ∙ others_counted classes place class within is done inv.one_each;
      numbers = let few = inv.numbers in omega (arith, few, counted, number);
      may =
          subst (λ (d : List Planned). MayDoEach d rest) (sym after)
          (left classes place class within is (λ (cs : List ClassDef). MayDoEach done cs) inv.may).1;
      made =
          (λ k. c.in_ok-push.ensures.items k ++ classes_by (after k) rest)
          ∙ classes_more classes place class within is done here.woven.items c.in_ok-made.made (classes_by c.args.planned.now classes) made_is inv.made;
      none =
          (λ k. first_long_by (number k) (after k) rest)
          ∙ long_more classes place class within is done here.number (first_long_by c.args.first c.args.planned.now classes) fits inv.none;
    }

pub returns-clause-woven : goal.returns-clause-woven
returns-clause-woven c =
    let here = c.loop-pool in
    let empty : into_iter_items here.pool-iterator ≡ [] =
    nothing_left (into_iter_items here.pool-iterator) (sym c.in-None.ensures.steps.0 ∙ here.invariant.count) in
    let none = none_left c.args.classes.now here.place here.rest.now (sym empty ∙ here.invariant.left) in
    sym (append-nil here.woven.items) ∙ sym (ap (λ (cs : List ClassDef). here.woven.items ++ classes_by here.rest.now cs) none) ∙ here.invariant.made

pub returns-clause-fit : goal.returns-clause-fit
returns-clause-fit c =
    let here = c.loop-pool in
    let empty : into_iter_items here.pool-iterator ≡ [] =
    nothing_left (into_iter_items here.pool-iterator) (sym c.in-None.ensures.steps.0 ∙ here.invariant.count) in
    let none = none_left c.args.classes.now here.place here.rest.now (sym empty ∙ here.invariant.left) in
    sym here.invariant.none ∙ ap (λ (cs : List ClassDef). first_long_by here.number here.rest.now cs) none
