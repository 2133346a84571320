use Rattle.std.proofs.Common.{◌≡◌}
use Rattle.fm_link_supers.specs.inner.InterfaceRounds.{settled_to}
use Rattle.fm_link_supers.specs.inner.ListTables.{lists}
use Rattle.fm_link_supers.proofs.interfaces.settle.Given as goal

abbrev pub invariant-loop-class : goal.invariant-loop-class
invariant-loop-class l = lists l.above.items ≡ settled_to (lists l.listed) l.before l.after (lists l.initial.above.items) l.class
