use Rattle.std.proofs.Common.{◌≡◌, List, length}
use Rattle.fm_link_supers.specs.inner.ListTables.{lists}
use Rattle.fm_link_refusals.specs.inner.LeftOver.{AreOwners}
use Rattle.fm_link_refusals.specs.inner.Linking.{IsLinking}
use Rattle.fm_world.specs.declared.declarations.DeclaredClass.{DeclaredClass}
use Rattle.fm_link_refusals.proofs.left_over.owners_of.Given as goal

abbrev pub invariant-loop-method : goal.invariant-loop-method
invariant-loop-method l = record {
  long : length (lists l.owners.items) ≡ l.linking.methods.now.signatures.count;
  are : (classes : List DeclaredClass) → IsLinking classes l.linking → AreOwners classes l.linking.methods.now l.method l.owners.items;
}
