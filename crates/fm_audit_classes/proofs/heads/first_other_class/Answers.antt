use Rattle.std.proofs.Common.{◌<◌, length, arith}
use Rattle.fm_audit_classes.proofs.HeadLemmas.{class_at, class_in, classes_more}
use Rattle.fm_audit_classes.proofs.PairLemmas.{fails_so}
use Rattle.fm_audit_classes.proofs.heads.first_other_class.Goals as goal

pub loop-place-preserved : goal.loop-place-preserved
loop-place-preserved c =
    let within = c.loop-place-test.true in
    let inside : c.loop-place.place < length c.args.written.now = omega (arith, within, c.requires.lengths) in
    classes_more c.args.classes.now c.args.written.now c.loop-place.place c.loop-place.invariant
    (class_at c.args.classes.now c.args.written.now c.loop-place.place c.index-classes-place.result c.index-written-place.result within inside
    c.index-classes-place.is c.index-written-place.is (c.in_ok-same.ensures.0 c.if-not-same.false))

pub returns-then-not-same : goal.returns-then-not-same
returns-then-not-same c =
    let within = c.loop-place-test.true in
    let inside : c.loop-place.place < length c.args.written.now = omega (arith, within, c.requires.lengths) in
    record {
      inside = within;
      earlier = c.loop-place.invariant;
      fails = λ has.
          fails_so c.in_ok-same.same c.if-not-same.true c.in_ok-same.ensures.1
          (class_in c.args.classes.now c.args.written.now c.loop-place.place c.index-classes-place.result c.index-written-place.result within inside
          c.index-classes-place.is c.index-written-place.is has);
    }

pub returns : goal.returns
returns c = λ k inside. c.loop-place.invariant k (let past = c.loop-place-test.false in omega (arith, past, inside))
