use Rattle.std.proofs.Common.{◌≡◌, drop}
use Rattle.fm_place_weave.specs.ByPlan.{end_after}
use Rattle.fm_place_weave.specs.Conditions.{AreFlagged, AreLocals}
use Rattle.fm_place_weave.proofs.counting.items_end.Given as goal

abbrev pub invariant-loop-index : goal.invariant-loop-index
invariant-loop-index l = record {
  before : AreLocals l.holders.first l.freeing;
  after : AreLocals l.holders.first l.taking;
  freed : AreFlagged l.holders.looped.now l.freeing;
  taken : AreFlagged l.holders.looped.now l.taking;
  total : end_after l.holders.looped.now l.holders.first l.end l.index l.freeing l.taking (drop l.index l.items) ≡ end_after l.holders.looped.now l.holders.first l.start 0 l.before l.after l.items;
}
