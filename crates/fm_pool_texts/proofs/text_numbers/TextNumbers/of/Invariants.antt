use Rattle.std.proofs.Common.{take}
use Rattle.fm_pool_texts.proofs.TextsInTurn.{HasNumbers, known_of}
use Rattle.fm_pool_texts.proofs.text_numbers.TextNumbers.of.Given as goal

abbrev pub invariant-loop-entry : goal.invariant-loop-entry
invariant-loop-entry l = HasNumbers (known_of l.known) (take l.entry-index l.entries) l.numbers.items
