use Rattle.std.proofs.Common.{take}
use Rattle.fm_link_names.proofs.FileLemmas.{AreNumbered}
use Rattle.fm_link_names.proofs.texts.Texts.add_pool.Given as goal

abbrev pub invariant-loop-entry : goal.invariant-loop-entry
invariant-loop-entry l = AreNumbered l.initial.self l.self (take l.entry-index l.entries) l.numbers.items
