use Rattle.std.proofs.Common.{◌≡◌, ℕ, List}
use Rattle.fm_link_members.specs.inner.MemberTables.{AreStarts}
use Rattle.fm_link_members.specs.inner.SearchStarts.{IsFinding}
use Rattle.fm_link_members.proofs.search_starts.SearchStarts.add_class.Given as goal

abbrev pub invariant-loop-signature : goal.invariant-loop-signature
invariant-loop-signature l =
    (f : ℕ → List ℕ) → IsFinding l.finding → f l.class ≡ l.list
    → AreStarts f l.finding.members.now.rows.items l.finding.signatures.now.of_members.items l.fn.self
    → AreStarts f l.finding.members.now.rows.items l.finding.signatures.now.of_members.items l.self
