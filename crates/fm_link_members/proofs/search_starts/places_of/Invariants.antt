use Rattle.std.proofs.Common.{◌≤◌, ◌<◌, get_or, length, ℕ}
use Rattle.fm_link_members.proofs.search_starts.places_of.Given as goal

abbrev pub invariant-loop-left : goal.invariant-loop-left
invariant-loop-left l = record {
  below : l.left ≤ length l.list;
  placed : (i : ℕ) → l.left ≤ i → i < length l.list → get_or l.places.items (get_or l.list i 0) 0 ≤ i;
}

abbrev pub decreases-loop-left : goal.decreases-loop-left
decreases-loop-left l = l.left
