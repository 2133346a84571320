use Rattle.std.proofs.Common.{take}
use Rattle.fm_link_refusals.proofs.Owners.{AreChanged}
use Rattle.fm_link_refusals.proofs.left_over.change_all.Given as goal

abbrev pub invariant-loop-class : goal.invariant-loop-class
invariant-loop-class l = AreChanged l.adds l.fn.row.items (take l.class-index l.owners) l.row.items
