use Rattle.std.proofs.Common.{◌≡◌}
use Rattle.fm_link_members.proofs.NearestLemmas.{IsMade}
use Rattle.fm_link_members.specs.inner.MemberTables.{passes_of}
use Rattle.fm_link_members.proofs.members.Nearest.of.Given as goal

abbrev pub invariant-loop-class : goal.invariant-loop-class
invariant-loop-class l = record {
  items : l.class-items ≡ l.hierarchy.order.items;
  made : IsMade l.hierarchy l.members l.signatures.of_members.items (passes_of l.kept) l.nearest l.class-index;
}
