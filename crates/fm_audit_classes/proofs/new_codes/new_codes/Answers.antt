use Rattle.std.proofs.Common.{◌≡◌, ◌∙◌, ◌+◌, ◌<◌, ◌++◌, ap, drop, length, map, arith}
use Rattle.fm_base.proofs.ListFacts.{drop_here}
use Rattle.fm_audit_classes.proofs.PushedLemmas.{all_classes, class_pushed}
use Rattle.fm_audit_classes.proofs.StepLemmas.{spelled_more}
use Rattle.fm_audit_classes.specs.inner.Codes.{codes_in, pair_of}
use Rattle.fm_rewrite.specs.inner.ByPlans.{method_count}
use Rattle.fm_audit_classes.proofs.new_codes.new_codes.Goals as goal

pub loop-place-preserved : goal.loop-place-preserved
loop-place-preserved c =
    let here = c.loop-place in
    let classes = c.args.classes.now in
    let written = c.args.written.now in
    let place = here.place in
    let class = c.index-classes-place.result in
    let new = c.index-written-place.result in
    let within = c.loop-place-test.true in
    let inside : place < length written = omega (arith, within, c.requires.lengths) in
    record {
      spelled = (spelled_more classes place class within c.index-classes-place.is here.invariant.spelled).1;
      count =
          let cut : method_count (drop place classes) ≡ length class.methods + method_count (drop (place + 1) classes) =
          ap (λ cs. method_count cs) (drop_here classes place class within c.index-classes-place.is) in
          let pushed = c.in_ok-push_codes.ensures.count in
          let so_far = here.invariant.count in
          omega (arith, cut, pushed, so_far, c.len-count.ensures);
      pairs =
          class_pushed here.codes.items c.push_codes.new.codes.items classes written place class new c.in_ok-free.free c.as_slice.result.now _ within inside
          c.index-classes-place.is c.index-written-place.is c.in_ok-free.ensures c.as_slice.ensures
          (c.in_ok-push_codes.ensures.codes ∙ ap (λ n. map pair_of here.codes.items ++ codes_in c.in_ok-free.free n c.as_slice.result.now) c.len-count.ensures)
          here.invariant.pairs;
    }

pub returns-clause-codes : goal.returns-clause-codes
returns-clause-codes c = all_classes c.loop-place.codes.items c.args.classes.now c.args.written.now c.loop-place.place _ c.loop-place-test.false c.loop-place.invariant.pairs
