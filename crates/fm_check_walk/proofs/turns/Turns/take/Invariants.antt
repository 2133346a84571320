use Rattle.std.proofs.Common.{◌≡◌, heap_items}
use Rattle.std.specs.BinaryHeap.{heap_len}
use Rattle.fm_check_walk.specs.inner.Turns.{HaveKeys}
use Rattle.fm_check_walk.proofs.turns.Turns.take.Given as goal

abbrev pub invariant-loop-key : goal.invariant-loop-key
invariant-loop-key l =
    (l.self-inside.marks.items ≡ l.initial.self-inside.marks.items) × HaveKeys l.self-inside.marks.items (heap_items l.self-inside.keys)

abbrev pub decreases-loop-key : goal.decreases-loop-key
decreases-loop-key l = heap_len l.self-inside.keys
