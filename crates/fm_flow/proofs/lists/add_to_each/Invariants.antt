use Rattle.std.proofs.Common.{take}
use Rattle.fm_flow.specs.inner.LiveWalks.{AddsToEach}
use Rattle.fm_flow.proofs.lists.add_to_each.Given as goal

abbrev pub invariant-loop-index : goal.invariant-loop-index
invariant-loop-index l = AddsToEach (take l.index-index l.indices) l.j l.initial.lists.items l.lists.items
