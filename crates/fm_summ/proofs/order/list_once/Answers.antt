use Rattle.std.proofs.Common.{◌∙◌, Bool, List, ap, slice_get, sym}
use Rattle.fm_summ.proofs.OrderLemmas.{listed_more, set_already, unlisted}
use Rattle.fm_summ.proofs.order.list_once.Goals as goal

pub returns-then-not-is_unlisted : goal.returns-then-not-is_unlisted
returns-then-not-is_unlisted c =
    let mark = ap (λ (list : List Bool). slice_get list c.args.method) c.as_slice.ensures.value in
    record {
      kept = λ are. are;
      marks = set_already c.args.listed.now.items c.args.method (λ is. sym c.if-not-is_unlisted.true ∙ c.is_unlisted.ensures.1 (mark ∙ is));
    }

pub returns : goal.returns
returns c =
    let marks = c.args.listed.now.items in
    let mark = ap (λ (list : List Bool). slice_get list c.args.method) c.as_slice.ensures.value in
    let fresh = unlisted marks c.args.method (sym mark ∙ c.is_unlisted.ensures.0 c.if-not-is_unlisted.false) in
    record {
      kept = λ are. rw (c.mark.ensures, c.in_ok-push.ensures.items) (listed_more marks c.args.order.now.items c.args.method fresh.0 fresh.1 are);
      marks = c.mark.ensures;
    }
