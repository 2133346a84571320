use Rattle.std.proofs.Common.{◌≡◌, map, take}
use Rattle.std.specs.List.{list_any}
use Rattle.fm_link_supers.specs.inner.InterfaceRounds.{is_set, HavePassed}
use Rattle.fm_link_supers.specs.inner.ListTables.{lists}
use Rattle.fm_link_supers.proofs.interfaces.one_deeper.Given as goal

abbrev pub invariant-loop-class : goal.invariant-loop-class
invariant-loop-class l = record {
  passes : HavePassed l.goes_on (lists l.listed) l.fn.passed.items → HavePassed l.goes_on (lists l.listed) l.passed.items;
  told : HavePassed l.goes_on (lists l.listed) l.fn.passed.items
      → l.deeper.items ≡ take l.class (map (list_any (is_set l.goes_on)) (lists l.listed));
}
