use Rattle.std.proofs.Common.{All, take}
use Rattle.fm_check_handlers.specs.inner.Runs.{IsShort}
use Rattle.fm_check_handlers.proofs.runs.longest.Given as goal

abbrev pub invariant-loop-span : goal.invariant-loop-span
invariant-loop-span l = All (IsShort l.most) (take l.span-index l.spans)
