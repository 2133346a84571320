use Rattle.fm_flow.proofs.LiveLemmas.{Telling}
use Rattle.fm_flow.proofs.live_rows.live_rows.Given as goal

abbrev pub invariant-loop-local : goal.invariant-loop-local
invariant-loop-local l = Telling l.code l.rows.items l.local
