use Rattle.std.proofs.Common.{◌∙◌, sym, ap, drop, get_or, ◌+◌}
use Rattle.fm_base.specs.Rows.{has}
use Rattle.fm_link_refusals.proofs.Asked.{up_more, up_stops}
use Rattle.fm_link_refusals.specs.inner.LeftOver.{marked_up}
use Rattle.fm_link_refusals.proofs.left_over.mark_chain.Goals as goal

pub returns-then-is_marked : goal.returns-then-is_marked
returns-then-is_marked c =
    let marks = c.loop-class.marks.items in
    let chain = c.args.chain.now in
    let i = c.loop-class.class-index in
    let there = ap (λ row. has row (get_or chain i 0)) (sym c.as_slice.ensures.value) ∙ sym c.is_marked.ensures ∙ c.if-is_marked.true in
    up_stops marks chain i c.loop-class-test.true there ∙ c.loop-class.invariant

pub loop-class-preserved : goal.loop-class-preserved
loop-class-preserved c =
    let marks = c.loop-class.marks.items in
    let chain = c.args.chain.now in
    let i = c.loop-class.class-index in
    let none = ap (λ row. has row (get_or chain i 0)) (sym c.as_slice.ensures.value) ∙ sym c.is_marked.ensures ∙ c.if-is_marked.false in
    ap (λ row. marked_up row (drop (i + 1) chain)) c.mark.ensures ∙ up_more marks chain i c.loop-class-test.true none ∙ c.loop-class.invariant
