use Rattle.std.proofs.Common.{◌≡◌, [], drop, length, replicate}
use Rattle.fm_link_supers.specs.inner.InterfaceRounds.{inherited_along}
use Rattle.fm_link_supers.specs.inner.ListTables.{lists}
use Rattle.fm_link_supers.proofs.interfaces.joined_along.Given as goal

abbrev pub invariant-loop-class : goal.invariant-loop-class
invariant-loop-class l =
    inherited_along l.parents (lists l.own) (drop l.class-index l.order) (lists l.all.items)
    ≡ inherited_along l.parents (lists l.own) l.order (replicate (length l.own) [])
