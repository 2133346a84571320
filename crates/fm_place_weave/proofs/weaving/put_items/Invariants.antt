use Rattle.std.proofs.Common.{◌≡◌, ◌++◌, drop}
use Rattle.fm_place_weave.specs.ByPlan.{woven_after}
use Rattle.fm_place_weave.specs.Conditions.{AreFlagged, AreLocals}
use Rattle.fm_place_weave.proofs.weaving.put_items.Given as goal

abbrev pub invariant-loop-index : goal.invariant-loop-index
invariant-loop-index l = record {
  before : AreLocals l.holders.first l.freeing;
  after : AreLocals l.holders.first l.taking;
  freed : AreFlagged l.holders.looped.now l.freeing;
  taken : AreFlagged l.holders.looped.now l.taking;
  made : l.out.items ++ woven_after l.holders.calls l.holders.looped.now l.holders.first l.anchors l.index l.freeing l.taking (drop l.index l.items)
      ≡ l.fn.out.items ++ woven_after l.holders.calls l.holders.looped.now l.holders.first l.anchors 0 l.before l.after l.items;
}
