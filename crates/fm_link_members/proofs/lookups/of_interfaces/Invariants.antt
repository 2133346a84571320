use Rattle.std.proofs.Common.{◌≡◌, ◌<◌, ℕ, true, Some, get_or, length, slice_get}
use Rattle.fm_world.specs.Lookups.{is_interface_at}
use Rattle.fm_link_members.specs.inner.MemberRows.{no_row}
use Rattle.fm_link_members.proofs.lookups.of_interfaces.Given as goal

abbrev pub invariant-loop-member : goal.invariant-loop-member
invariant-loop-member l = record {
  count : length l.marks.items ≡ length l.members.rows.items;
  marked : (k : ℕ) → k < l.member → is_interface_at l.classes (get_or l.members.rows.items k no_row).class ≡ true
      → slice_get l.marks.items (get_or l.signatures.of_members.items k 0) ≡ Some true;
}
