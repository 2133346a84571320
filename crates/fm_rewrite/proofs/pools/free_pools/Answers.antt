use Rattle.std.proofs.Common.{◌≡◌, ◌∙◌, sym, ap, subst, ◌+◌, ◌++◌, List, None, drop, length, arith}
use Rattle.std.specs.List.{AllByRecursion}
use Rattle.fm_code.specs.Spells.{HasSpelling}
use Rattle.fm_code.specs.declared.class_file.ClassDef.{ClassDef}
use Rattle.fm_rewrite.proofs.StepLemmas.{full_more, left, others_counted, pools_more}
use Rattle.fm_rewrite.specs.inner.ByPlans.{first_full_by, full_by, HasFlags, HaveFlags, own, pool_by, pools_by}
use Rattle.fm_place_weave.specs.declared.planned.Planned.{Planned}
use Rattle.fm_rewrite.proofs.pools.free_pools.Goals as goal

pub free_pool-requires-clause-flags : goal.free_pool-requires-clause-flags
free_pool-requires-clause-flags c =
    let here = c.loop-place in
    subst (AllByRecursion HasFlags) (sym c.own.ensures)
    (left c.args.classes.now here.place c.index-classes-place.result c.loop-place-test.true c.index-classes-place.is
    (λ (cs : List ClassDef). HaveFlags here.rest.now cs) here.invariant.flags).0

pub loop-place-preserved : goal.loop-place-preserved
loop-place-preserved c =
    let here = c.loop-place in
    let classes = c.args.classes.now in
    let place = here.place in
    let class = c.index-classes-place.result in
    let within = c.loop-place-test.true in
    let is = c.index-classes-place.is in
    let done = here.rest.now in
    let after = c.later-rest.ensures in
    let rest = drop (place + 1) classes in
    let pool_is : c.in_ok-pool.pool ≡ pool_by (own class done) class = c.in_ok-pool.ensures.pool ∙ ap (λ d. pool_by d class) c.own.ensures in
    let fits : full_by (own class done) class ≡ None = sym (ap (λ d. full_by d class) c.own.ensures) ∙ c.in_ok-pool.ensures.fits in
    record {
      spelled = (left classes place class within is (AllByRecursion HasSpelling) here.invariant.spelled).1;
      one_each = ap length after ∙ others_counted classes place class within is done here.invariant.one_each;
      flags =
          subst (λ (d : List Planned). HaveFlags d rest) (sym after)
          (left classes place class within is (λ (cs : List ClassDef). HaveFlags done cs) here.invariant.flags).1;
      made =
          (λ k. c.in_ok-push.ensures.items k ++ pools_by (after k) rest)
          ∙ pools_more classes place class within is done here.pools.items c.in_ok-pool.pool (pools_by c.args.planned.now classes) pool_is here.invariant.made;
      none =
          ap (λ (d : List Planned). first_full_by (c.args.first + (place + 1)) d rest) after
          ∙ full_more classes place class within is done (c.args.first + place) (c.args.first + (place + 1))
          (first_full_by c.args.first c.args.planned.now classes) (omega arith) fits here.invariant.none;
    }
