use Rattle.std.proofs.Common.{sym, ap, refl, length, arith}
use Rattle.std.proofs.lemmas.List.{length_push}
use Rattle.fm_link_names.specs.inner.Numbering.{lent}
use Rattle.fm_link_records.proofs.KindSteps.{kinds_more}
use Rattle.fm_link_records.proofs.LiteralSteps.{lent_at}
use Rattle.fm_link_records.proofs.kinds.kinds_by_text.Goals as goal

pub loop-place-preserved : goal.loop-place-preserved
loop-place-preserved c =
    let old = c.loop-place.kinds.items in
    let one = c.in_ok-one.one in
    let count = c.loop-place.invariant.count in
    let pushed = ap length c.in_ok-push.ensures.items in
    let longer = length_push old one in
    record {
      count = omega (arith, count, pushed, longer);
      kinds = λ classes numbered. kinds_more classes (lent c.args.texts.now) c.args.marks.now old c.push.new.self.items one c.loop-place.place _ _
          c.in_ok-push.ensures.items count (sym (lent_at c.args.texts.now c.loop-place.place _ refl)) c.is_marked.ensures
          (c.in_ok-one.ensures classes numbered) (c.loop-place.invariant.kinds classes numbered);
    }
