use Rattle.std.proofs.Common.{List}
use Rattle.fm_link_supers.specs.inner.InterfaceRounds.{AreFoundTo, HavePassed, ListsOnce}
use Rattle.fm_link_supers.specs.inner.ListTables.{lists}
use Rattle.fm_world.specs.declared.declarations.DeclaredClass.{DeclaredClass}
use Rattle.fm_link_supers.proofs.interfaces.Superinterfaces.by.Given as goal

abbrev pub invariant-loop : goal.invariant-loop
invariant-loop l = record {
  found : (classes : List DeclaredClass) → ListsOnce classes l.listed → AreFoundTo classes l.counter l.found;
  passed : (classes : List DeclaredClass) → ListsOnce classes l.listed
      → HavePassed l.found.leads_into_cycle.items (lists l.listed) l.passed.items;
}
