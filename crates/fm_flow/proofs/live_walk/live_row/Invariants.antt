use Rattle.std.proofs.Common.{◌+◌, length}
use Rattle.fm_flow.proofs.SourcesLemmas.{TracingRuns}
use Rattle.fm_flow.specs.Marking.{unset}
use Rattle.fm_flow.proofs.live_walk.live_row.Given as goal

abbrev pub invariant-loop-j : goal.invariant-loop-j
invariant-loop-j l = TracingRuns l.code l.local l.sources l.row l.seen l.waiting.items l.done

abbrev pub decreases-loop-j : goal.decreases-loop-j
decreases-loop-j l = unset l.seen + length l.waiting.items
