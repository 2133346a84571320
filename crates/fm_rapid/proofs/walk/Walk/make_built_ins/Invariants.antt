use Rattle.std.proofs.Common.{◌≡◌, ℕ, ◌<◌, true}
use Rattle.fm_base.specs.Rows.{has}
use Rattle.fm_rapid.specs.inner.Walks.{sets_of, Goes}
use Rattle.fm_rapid.proofs.walk.Walk.make_built_ins.Given as goal

-- it went on, and the classes so far are made
abbrev pub invariant-loop-class : goal.invariant-loop-class
invariant-loop-class l = record {
  goes : Goes l.program (sets_of l.fn.self) (sets_of l.self);
  made : (k : ℕ) → k < l.class → has l.self.made k ≡ true;
}
