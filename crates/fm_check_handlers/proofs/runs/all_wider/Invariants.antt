use Rattle.std.proofs.Common.{◌≡◌, map, take}
use Rattle.fm_check_handlers.specs.inner.Runs.{wider}
use Rattle.fm_check_handlers.proofs.runs.all_wider.Given as goal

abbrev pub invariant-loop-span : goal.invariant-loop-span
invariant-loop-span l = l.all.items ≡ map wider (take l.span-index l.spans)
