use Rattle.std.proofs.Common.{◌≡◌, ◌++◌, replicate}
use Rattle.fm_types.specs.declared.slots.Slot.TheVariants as slot
use Rattle.fm_check.proofs.checking.fill.Given as goal

abbrev pub invariant-loop : goal.invariant-loop
invariant-loop l = l.locals.items ≡ l.initial.locals.items ++ replicate l.counter slot.Top
