use Rattle.std.proofs.Common.{◌≡◌, ◌∷◌, [], map}
use Rattle.std.specs.List.{slice_index_or}
use Rattle.fm_link_supers.specs.inner.ListTables.{lists}
use Rattle.fm_world.specs.inner.Tables.{numbers_below}
use Rattle.fm_link_supers.proofs.interfaces.with_classes.Given as goal

abbrev pub invariant-loop-class : goal.invariant-loop-class
invariant-loop-class l = lists l.made.items ≡ map (λ class. class ∷ slice_index_or (lists l.own) class []) (numbers_below l.class)
