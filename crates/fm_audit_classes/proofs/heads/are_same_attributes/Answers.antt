use Rattle.std.proofs.Common.{rules, ◌≡◌, refl, length, arith}
use Rattle.std.proofs.lemmas.Bool.{false≢true}
use Rattle.fm_audit_classes.proofs.PairLemmas.{fails_so, same_all, same_count, same_here, same_more}
use Rattle.fm_audit_classes.specs.Parts.{bare_attribute}
use Rattle.fm_audit_classes.proofs.heads.are_same_attributes.Goals as goal

pub returns-then-old-new : goal.returns-then-old-new
returns-then-old-new c = (λ is. absurd (false≢true is), λ same. let count = same_count bare_attribute c.args.old.now c.args.new.now same in absurd (search rules))

pub loop-place-preserved : goal.loop-place-preserved
loop-place-preserved c =
    let here = c.loop-place in
    let count : length c.args.old.now ≡ length c.args.new.now = search rules in
    λ rest. here.invariant (same_more bare_attribute c.args.old.now c.args.new.now here.place c.index-old-place.result c.index-new-place.result c.loop-place-test.true
    (let within = c.loop-place-test.true in omega (arith, within, count)) c.index-old-place.is c.index-new-place.is (c.is_same_attribute.ensures.0 c.if-not-is_same_attribute.false) rest)

pub returns-then-not-is_same_attribute : goal.returns-then-not-is_same_attribute
returns-then-not-is_same_attribute c =
    let here = c.loop-place in
    let count : length c.args.old.now ≡ length c.args.new.now = search rules in (
      λ is. absurd (false≢true is),
      λ same. absurd (fails_so c.is_same_attribute.result c.if-not-is_same_attribute.true c.is_same_attribute.ensures.1
          (same_here bare_attribute c.args.old.now c.args.new.now here.place c.index-old-place.result c.index-new-place.result c.loop-place-test.true
          (let within = c.loop-place-test.true in omega (arith, within, count)) c.index-old-place.is c.index-new-place.is same)),
    )

pub returns : goal.returns
returns c =
    let count : length c.args.new.now ≡ length c.args.old.now = search rules in (
      λ is. same_all bare_attribute c.args.old.now c.args.new.now c.loop-place.place c.loop-place-test.false count c.loop-place.invariant,
      λ same. refl,
    )
