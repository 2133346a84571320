use Rattle.fm_flow.proofs.UsesLemmas.{Using}
use Rattle.fm_flow.proofs.uses.uses_of.Given as goal

abbrev pub invariant-loop-j : goal.invariant-loop-j
invariant-loop-j l = Using l.code l.loads.items l.stores.items l.j
