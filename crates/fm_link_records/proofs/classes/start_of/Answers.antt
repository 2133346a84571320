use Rattle.std.proofs.Common.{◌+◌, sym, ◌∙◌, ap, length, get_or, arith}
use Rattle.fm_link_records.proofs.ClassSteps.{no_start, start_found}
use Rattle.fm_link_records.proofs.classes.start_of.Goals as goal

pub returns-then-is_start : goal.returns-then-is_start
returns-then-is_start c =
    let m = c.method-item.result in
    start_found c.args.class.now c.args.first c.loop-place.place m _ (omega (
      arith,
      c.loop-place-test.true,
      ap length
          c.as_slice-method-items.ensures,
    ))
    (c.method-item.is ∙ ap (λ ms. get_or ms c.loop-place.place m) c.as_slice-method-items.ensures)
    (sym c.is_start.ensures ∙ c.if-is_start.true) c.loop-place.invariant
    (c.in_ok-sum_of.ensures ∙ ap (λ k. c.args.first + k) c.in_ok-number_of.ensures)

pub returns : goal.returns
returns c =
    no_start c.args.class.now c.args.first c.loop-place.place (omega (arith, c.loop-place-test.false, ap length c.as_slice-method-items.ensures))
    c.loop-place.invariant
