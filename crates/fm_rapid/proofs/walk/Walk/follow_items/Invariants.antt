use Rattle.fm_conn.specs.inner.PairLists.{method_in}
use Rattle.fm_rapid.specs.inner.Walks.{sets_of, AreGoneBelow, Goes}
use Rattle.fm_rapid.proofs.walk.Walk.follow_items.Given as goal

-- it went on, and the items so far were gone over
abbrev pub invariant-loop-item : goal.invariant-loop-item
invariant-loop-item l = record {
  goes : Goes l.at.program.now (sets_of l.fn.self) (sets_of l.self);
  gone : AreGoneBelow (sets_of l.self) (method_in l.at) l.item;
}
