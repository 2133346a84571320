use Rattle.std.proofs.Common.{◌≡◌, List, length}
use Rattle.fm_link_names.specs.inner.ClassNumbering.{NumbersClasses}
use Rattle.fm_link_names.specs.inner.Numbering.{lent}
use Rattle.fm_world.specs.declared.declarations.DeclaredClass.{DeclaredClass}
use Rattle.fm_link_records.specs.inner.DeclaredKinds.{AreKinds}
use Rattle.fm_link_records.proofs.kinds.kinds_by_text.Given as goal

abbrev pub invariant-loop-place : goal.invariant-loop-place
invariant-loop-place l = record {
  count : length l.kinds.items ≡ l.place;
  kinds : (classes : List DeclaredClass) → NumbersClasses classes l.numbers.numbers → AreKinds classes (lent l.texts) l.marks l.kinds.items;
}
