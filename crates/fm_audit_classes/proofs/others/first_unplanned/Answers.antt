use Rattle.std.proofs.Common.{rules, ◌<◌, length, arith}
use Rattle.fm_audit_classes.proofs.MemberLemmas.{may_here, planned_here, planned_more, short_here, unplanned_here}
use Rattle.fm_audit_classes.proofs.others.first_unplanned.Goals as goal

pub is_as_planned-requires-clause-may : goal.is_as_planned-requires-clause-may
is_as_planned-requires-clause-may c =
    let place = c.loop-place.place in
    let within = c.loop-place-test.true in
    may_here c.args.calls c.args.planned.now c.args.old.now place c.index-planned-place.result c.index-old-place.result
    (let count = c.requires.one_each in omega (arith, within, count)) within c.index-planned-place.is c.index-old-place.is c.requires.may

pub is_as_planned-requires-clause-short : goal.is_as_planned-requires-clause-short
is_as_planned-requires-clause-short c =
    let inside : c.loop-place.place < length c.args.new.now = search rules in
    short_here c.args.new.now c.loop-place.place c.index-new-place.result inside c.index-new-place.is c.requires.short

pub loop-place-preserved : goal.loop-place-preserved
loop-place-preserved c =
    let place = c.loop-place.place in
    let within = c.loop-place-test.true in
    let inside : place < length c.args.new.now = search rules in
    planned_more c.args.calls c.args.planned.now c.args.old.now c.args.new.now place c.loop-place.invariant
    (planned_here c.args.calls c.args.planned.now c.args.old.now place c.index-planned-place.result c.index-old-place.result
    (let count = c.requires.one_each in omega (arith, within, count)) within c.index-planned-place.is c.index-old-place.is c.args.new.now
    c.index-new-place.result inside c.index-new-place.is (c.in_ok-same.ensures.0 c.if-not-same.false))

pub returns-then-not-same : goal.returns-then-not-same
returns-then-not-same c =
    let place = c.loop-place.place in
    let within = c.loop-place-test.true in
    let inside : place < length c.args.new.now = search rules in
    record {
      inside = within;
      earlier = c.loop-place.invariant;
      fails =
          unplanned_here c.args.calls c.args.planned.now c.args.old.now place c.index-planned-place.result c.index-old-place.result
          (let count = c.requires.one_each in omega (arith, within, count)) within c.index-planned-place.is c.index-old-place.is c.args.new.now
          c.index-new-place.result inside c.index-new-place.is c.in_ok-same.same c.if-not-same.true c.in_ok-same.ensures.1;
    }

pub returns : goal.returns
returns c = λ k inside. c.loop-place.invariant k (let past = c.loop-place-test.false in omega (arith, past, inside))
