use Rattle.std.proofs.Common.{◌≡◌, ◌++◌, ◌+◌, drop, length}
use Rattle.fm_conn.specs.Rows.{moved_words}
use Rattle.fm_conn.specs.inner.PairLists.{joined_pairs, place_of}
use Rattle.fm_conn.proofs.item_nodes.ItemNodes.push_moved.Given as goal

abbrev pub invariant-loop-place : goal.invariant-loop-place
invariant-loop-place l = record {
  left : l.above + l.place-index ≡ length l.places;
  done : l.pairs.items ++ joined_pairs l.self.nodes.now (place_of l.self) (moved_words (drop l.place-index l.places))
      ≡ l.initial.pairs.items ++ joined_pairs l.self.nodes.now (place_of l.self) (moved_words l.places);
}
