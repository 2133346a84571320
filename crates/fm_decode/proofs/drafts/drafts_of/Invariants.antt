use Rattle.std.proofs.Common.{◌-◌, ◌≤◌, length}
use Rattle.fm_decode.proofs.DraftsLemmas.{IsReadUpTo}
use Rattle.fm_decode.proofs.drafts.drafts_of.Given as goal

abbrev pub invariant-loop-at : goal.invariant-loop-at
invariant-loop-at l = record { within : l.at ≤ length l.code; read : IsReadUpTo l.code l.drafts.items l.at }

abbrev pub decreases-loop-at : goal.decreases-loop-at
decreases-loop-at l = length l.code - l.at
