use Rattle.std.proofs.Common.{◌≡◌, length}
use Rattle.fm_link_supers.specs.inner.ListTables.{lists}
use Rattle.fm_link_members.specs.inner.Owners.{HaveOwners}
use Rattle.fm_link_members.proofs.owners.owners_of.Given as goal

abbrev pub invariant-loop-member : goal.invariant-loop-member
invariant-loop-member l = record {
  long : length (lists l.owners.items) ≡ l.signatures.count;
  have : HaveOwners l.members.rows.items l.signatures.of_members.items l.member l.owners.items;
}
