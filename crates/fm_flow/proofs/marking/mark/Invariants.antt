use Rattle.std.proofs.Common.{take}
use Rattle.fm_flow.specs.Marking.{Marks}
use Rattle.fm_flow.proofs.marking.mark.Given as goal

abbrev pub invariant-loop-j : goal.invariant-loop-j
invariant-loop-j l = Marks (take l.j-index l.list) l.initial.reached l.reached l.initial.waiting.items l.waiting.items
