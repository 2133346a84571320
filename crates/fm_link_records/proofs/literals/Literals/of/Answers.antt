use Rattle.std.proofs.Common.{sym, ap, map, ℕ, List, length}
use Rattle.std.specs.Borrow.{Bor}
use Rattle.std.specs.Str.{bytes_eq}
use Rattle.std.proofs.lemmas.List.{length-map}
use Rattle.fm_link_records.specs.inner.InTurn.{with_all}
use Rattle.fm_link_records.specs.inner.TextNumbers.{units_at}
use Rattle.fm_link_records.proofs.LiteralSteps.{literals_end, literals_step, none_numbered}
use Rattle.fm_link_records.proofs.literals.Literals.of.Goals as goal
use Rattle.fm_link_names.specs.inner.Numbering.{lent}

pub loop-number-init : goal.loop-number-init
loop-number-init c = record {
  whole = ap (λ found. with_all bytes_eq found (map (units_at (lent c.args.texts.now)) c.args.named.now)) c.new.ensures.items;
  numbers = none_numbered (lent c.args.texts.now) _ _ (length c.args.texts.now) (sym (length-map c.args.texts.now (λ (b : Bor (List ℕ)). b.now)))
      c.in_ok-no_numbers.ensures
      c.new.ensures.items;
}

pub loop-number-preserved : goal.loop-number-preserved
loop-number-preserved c = record {
  whole = literals_step (lent c.args.texts.now) c.args.named.now c.loop-number.number-index _ _ _ c.loop-number-test.true c.in_ok-add.ensures.units
      c.loop-number.invariant.whole;
  numbers = c.in_ok-add.ensures.numbers;
}

pub returns-clause-units : goal.returns-clause-units
returns-clause-units c =
    literals_end (lent c.args.texts.now) c.args.named.now c.loop-number.number-index c.loop-number.literals.units.items c.loop-number-test.false
    c.loop-number.invariant.whole
