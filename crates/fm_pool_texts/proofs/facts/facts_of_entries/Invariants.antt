use Rattle.std.proofs.Common.{take}
use Rattle.fm_pool_texts.proofs.FactsLemmas.{AreListed}
use Rattle.fm_pool_texts.proofs.facts.facts_of_entries.Given as goal

abbrev pub invariant-loop-entry : goal.invariant-loop-entry
invariant-loop-entry l = AreListed (take l.entry-index l.entries) l.facts.items
