use Rattle.std.proofs.Common.{◌≡◌, ◌∙◌, ◌-◌, true, get_or, Some, arith, ap, sym}
use Rattle.std.proofs.lemmas.Bool.{false≢true}
use Rattle.fm_base.proofs.OptionFacts.{IsSomeAnd-from_some, IsSomeAnd-at_some}
use Rattle.fm_base.specs.Rows.{has}
use Rattle.fm_code.specs.Edges.{falls_through, insn_of}
use Rattle.fm_code.specs.declared.code_array.Item.{Item}
use Rattle.fm_flow.proofs.EdgesOfLemmas.{insn_of-get_or}
use Rattle.fm_flow.proofs.flow.Flow.of.Goals.{else-get-via-then-get+else-falls_through, else-get-via-else-get}
use Rattle.fm_flow.proofs.flow.Flow.of.Goals as goal

pub returns-then-falls_through-clause-falls_off : goal.returns-then-falls_through-clause-falls_off
returns-then-falls_through-clause-falls_off c = λ _.
    let code = c.args.code.now in
    let last = c.item_count-last.result - 1 in
    let count = c.item_count-last.ensures.count in
    let some = c.item_count-last.ensures.some in
    let item = c.index-as_slice-last.result in
    let is : item ≡ get_or code.items last item = c.index-as_slice-last.is ∙ ap (λ list. get_or list last item) c.as_slice.ensures in
    let insn : insn_of code last ≡ Some item.insn = insn_of-get_or code last item (omega arith) ∙ ap (λ (it : Item). Some it.insn) (sym is) in
    record {
      item = last;
      reachable = (c.in_ok-reached.ensures.each last).0 (sym c.get.ensures ∙ c.if-get.true);
      last = omega arith;
      falls = IsSomeAnd-from_some (insn_of code last) (λ i. falls_through i ≡ true) item.insn insn
          (ap (λ (it : Item). falls_through it.insn) c.index-as_slice-last.is ∙ sym c.falls_through.ensures ∙ c.if-falls_through.true);
    }

pub returns-clause-stays : goal.returns-clause-stays
returns-clause-stays c = λ falls_off.
    let code = c.args.code.now in
    let last = c.item_count-last.result - 1 in
    let count = c.item_count-last.ensures.count in
    let at_end = falls_off.last in
    let is_last : falls_off.item ≡ last = omega arith in
    let reached : has c.in_ok-reached.reached last ≡ true = ap (has c.in_ok-reached.reached) (sym is_last) ∙ (c.in_ok-reached.ensures.each falls_off.item).1 falls_off.reachable in
    elim c.else-get.branch [
      | else-get-via-then-get+else-falls_through w ↦
          let item = w.index-as_slice-last.result in
          let is : item ≡ get_or code.items last item = w.index-as_slice-last.is ∙ ap (λ list. get_or list last item) w.as_slice.ensures in
          let insn : insn_of code falls_off.item ≡ Some item.insn =
          ap (insn_of code) is_last ∙ insn_of-get_or code last item (omega arith) ∙ ap (λ (it : Item). Some it.insn) (sym is) in
          let falls : falls_through item.insn ≡ true =
          IsSomeAnd-at_some (insn_of code falls_off.item) (λ i. falls_through i ≡ true) item.insn insn falls_off.falls in
          false≢true (sym w.if-falls_through.false ∙ w.falls_through.ensures ∙ ap (λ (it : Item). falls_through it.insn) (sym w.index-as_slice-last.is) ∙ falls)
      | else-get-via-else-get w ↦ false≢true (sym w.if-get.false ∙ c.get.ensures ∙ reached)
    ]
