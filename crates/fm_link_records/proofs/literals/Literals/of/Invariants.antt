use Rattle.std.proofs.Common.{◌≡◌, [], drop, map}
use Rattle.std.specs.Str.{bytes_eq}
use Rattle.fm_link_records.specs.inner.InTurn.{with_all}
use Rattle.fm_link_records.specs.inner.TextNumbers.{units_at, AreNumbered}
use Rattle.fm_link_records.proofs.literals.Literals.of.Given as goal
use Rattle.fm_link_names.specs.inner.Numbering.{lent}

abbrev pub invariant-loop-number : goal.invariant-loop-number
invariant-loop-number l = record {
  whole : with_all bytes_eq l.literals.units.items (map (units_at (lent l.texts)) (drop l.number-index l.named))
      ≡ with_all bytes_eq [] (map (units_at (lent l.texts)) l.named);
  numbers : AreNumbered (lent l.texts) l.literals.units.items l.literals.by_text.items;
}
