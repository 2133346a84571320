use Rattle.std.proofs.Common.{All}
use Rattle.fm_check_handlers.specs.inner.Runs.{IsLaidSoFar, IsShort}
use Rattle.fm_check_handlers.proofs.runs.levels_of.Given as goal

abbrev pub invariant-loop-most : goal.invariant-loop-most
invariant-loop-most l = IsLaidSoFar l.handlers l.spans.items l.levels.items × All (IsShort l.most) l.spans.items

abbrev pub decreases-loop-most : goal.decreases-loop-most
decreases-loop-most l = l.most
