use Rattle.std.proofs.Common.{take}
use Rattle.fm_check_handlers.specs.inner.Runs.{IsNoted}
use Rattle.fm_check_handlers.proofs.runs.level_of.Given as goal

abbrev pub invariant-loop-span : goal.invariant-loop-span
invariant-loop-span l = IsNoted (take l.span-index l.spans) l.runs.items
