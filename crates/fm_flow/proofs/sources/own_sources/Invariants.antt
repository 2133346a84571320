use Rattle.std.proofs.Common.{length}
use Rattle.fm_code.specs.Edges.{IsNormalEdge}
use Rattle.fm_flow.proofs.ListsByLemmas.{Listing}
use Rattle.fm_flow.proofs.sources.own_sources.Given as goal

abbrev pub invariant-loop-j : goal.invariant-loop-j
invariant-loop-j l = Listing (length l.code.items) (λ next j. IsNormalEdge l.code j next) l.own.items l.j
