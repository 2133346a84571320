use Rattle.std.proofs.Common.{◌≡◌, ◌+◌, ◌∙◌, ap, length, refl, arith}
use Rattle.std.proofs.lemmas.List.{length_push}
use Rattle.fm_audit_classes.proofs.PushedLemmas.{all_pushed, pushed}
use Rattle.fm_audit_classes.proofs.new_codes.push_codes.Goals as goal

pub loop-place-preserved : goal.loop-place-preserved
loop-place-preserved c = record {
  count =
      let more = ap length c.in_ok-push.ensures.items ∙ length_push c.loop-place.codes.items _ in
      let so_far = c.loop-place.invariant.count in
      omega (arith, more, so_far);
  pairs =
      pushed c.loop-place.codes.items c.push.new.self.items _ c.args.free c.args.methods.now c.loop-place.place c.args.count _ c.in_ok-push.ensures.items
      refl c.items_at-items.ensures c.loop-place-test.true c.loop-place.invariant.pairs;
}

pub returns-clause-count : goal.returns-clause-count
returns-clause-count c =
    let so_far = c.loop-place.invariant.count in
    let past = c.loop-place-test.false in
    let within = c.loop-place.auto.place-end in
    let same : length c.loop-place.codes.items ≡ length c.args.codes.now.items + c.args.count = omega (arith, so_far, past, within) in same

pub returns-clause-codes : goal.returns-clause-codes
returns-clause-codes c =
    all_pushed c.loop-place.codes.items c.args.free c.args.methods.now c.loop-place.place c.args.count _ c.loop-place-test.false c.loop-place.invariant.pairs
