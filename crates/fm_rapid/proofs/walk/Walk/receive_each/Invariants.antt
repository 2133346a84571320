use Rattle.std.proofs.Common.{take}
use Rattle.fm_rapid.specs.inner.Walks.{sets_of, Goes, IsListedAt}
use Rattle.fm_summ.specs.inner.Callers.{lists_of}
use Rattle.fm_rapid.proofs.walk.Walk.receive_each.Given as goal

-- it went on, and the class is listed at those so far
abbrev pub invariant-loop-named : goal.invariant-loop-named
invariant-loop-named l = record {
  goes : Goes l.program (sets_of l.fn.self) (sets_of l.self);
  listed : IsListedAt (lists_of l.self.below.items) (take l.named-index l.supers) l.class.0;
}
