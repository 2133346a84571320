use Rattle.fm_flow.specs.inner.Sources.{Running}
use Rattle.fm_flow.proofs.sources.runs_between.Given as goal

abbrev pub invariant-loop-j : goal.invariant-loop-j
invariant-loop-j l = Running l.code l.ends l.by_handler.items l.items.items l.j
