use Rattle.std.proofs.Common.{take}
use Rattle.fm_flow.specs.inner.Sources.{MarksRuns}
use Rattle.fm_flow.proofs.live_walk.mark_runs.Given as goal

abbrev pub invariant-loop-run : goal.invariant-loop-run
invariant-loop-run l =
    MarksRuns l.runs.items.items (take l.run-index l.list) l.initial.seen l.seen l.initial.waiting.items l.waiting.items l.done
