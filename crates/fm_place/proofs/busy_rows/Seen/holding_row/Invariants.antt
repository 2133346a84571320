use Rattle.std.proofs.Common.{◌+◌, length}
use Rattle.fm_flow.specs.Marking.{unset}
use Rattle.fm_place.proofs.HoldingLemmas.{FollowingOnce}
use Rattle.fm_place.proofs.busy_rows.Seen.holding_row.Given as goal

abbrev pub invariant-loop-j : goal.invariant-loop-j
invariant-loop-j l = FollowingOnce l.self l.pair l.busy l.initial.freed l.row l.freed l.waiting.items l.done

abbrev pub decreases-loop-j : goal.decreases-loop-j
decreases-loop-j l = unset l.row + length l.waiting.items
