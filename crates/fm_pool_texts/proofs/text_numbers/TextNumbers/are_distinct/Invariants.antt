use Rattle.std.proofs.Common.{drop}
use Rattle.std.specs.BTreeSet.{contains}
use Rattle.fm_pool_texts.proofs.KeysInTurn.{HasSeen}
use Rattle.fm_pool_texts.specs.inner.Entries.{pair_order}
use Rattle.fm_pool_texts.proofs.text_numbers.TextNumbers.are_distinct.Given as goal

abbrev pub invariant-loop-member : goal.invariant-loop-member
invariant-loop-member l = HasSeen l.self l.members (drop l.member-index l.members) (contains pair_order l.seen)
