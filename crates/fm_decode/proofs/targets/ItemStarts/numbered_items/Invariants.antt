use Rattle.std.proofs.Common.{◌≡◌, length}
use Rattle.std.specs.Vec.Iter.{into_iter_items, into_iter_len}
use Rattle.fm_decode.specs.inner.Targets.{numbered_items}
use Rattle.fm_decode.proofs.SwitchesLoops.{behind}
use Rattle.fm_decode.proofs.targets.ItemStarts.numbered_items.Given as goal

abbrev pub invariant-loop-draft : goal.invariant-loop-draft
invariant-loop-draft l = record {
  can_next : (goal.iterator-loop-draft).can_next l.draft-iterator;
  is_finite : (goal.iterator-loop-draft).is_finite l.draft-iterator;
  count : into_iter_len l.draft-iterator ≡ length (into_iter_items l.draft-iterator);
  numbered : numbered_items l.self.numbers.items l.fn.drafts.items ≡ behind l.items.items (numbered_items l.self.numbers.items (into_iter_items l.draft-iterator));
}
