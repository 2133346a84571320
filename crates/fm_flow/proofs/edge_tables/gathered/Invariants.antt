use Rattle.fm_flow.proofs.EdgesOfLemmas.{Gathering}
use Rattle.fm_flow.proofs.edge_tables.gathered.Given as goal

abbrev pub invariant-loop-j : goal.invariant-loop-j
invariant-loop-j l = Gathering l.code l.ends l.own l.runs.items l.caught l.j
