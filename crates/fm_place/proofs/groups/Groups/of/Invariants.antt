use Rattle.std.proofs.Common.{take}
use Rattle.fm_place.specs.inner.PlanRows.{classes_of, number_in, IsGroupsOf}
use Rattle.fm_place.proofs.groups.Groups.of.Given as goal

abbrev pub invariant-loop-holder : goal.invariant-loop-holder
invariant-loop-holder l = IsGroupsOf (classes_of (take l.holder l.held)) (number_in l.numbers) l.of_holders.items
