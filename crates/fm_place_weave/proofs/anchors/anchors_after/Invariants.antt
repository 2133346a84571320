use Rattle.std.proofs.Common.{◌≡◌, ◌++◌, drop}
use Rattle.fm_place_weave.specs.ByPlan.{anchors_after, number_after}
use Rattle.fm_place_weave.specs.Conditions.{AreFlagged}
use Rattle.fm_place_weave.proofs.anchors.anchors_after.Given as goal

abbrev pub invariant-loop-index : goal.invariant-loop-index
invariant-loop-index l = record {
  flags : AreFlagged l.looped l.taking;
  total : number_after l.looped l.number l.index l.freeing l.taking (drop l.index l.items) ≡ number_after l.looped l.first 0 l.before l.after l.items;
  made : l.anchors.items ++ anchors_after l.looped l.number l.index l.freeing l.taking (drop l.index l.items)
      ≡ anchors_after l.looped l.first 0 l.before l.after l.items;
}
