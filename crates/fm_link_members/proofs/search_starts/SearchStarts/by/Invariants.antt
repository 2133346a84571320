use Rattle.fm_link_members.specs.inner.MemberTables.{AreStarts}
use Rattle.fm_link_members.specs.inner.SearchStarts.{list_along, IsFinding}
use Rattle.fm_link_members.proofs.search_starts.SearchStarts.by.Given as goal

abbrev pub invariant-loop-class : goal.invariant-loop-class
invariant-loop-class l =
    IsFinding l.finding
    → AreStarts (list_along l.hierarchy l.along) l.finding.members.now.rows.items l.finding.signatures.now.of_members.items l.starts
