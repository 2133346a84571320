use Rattle.fm_place.proofs.BusyLemmas.{busy_is_by_witness, words_keep_busy}
use Rattle.fm_place.proofs.laws.law_busy.Goals as goal

pub returns : goal.returns
returns c = record { witness = busy_is_by_witness; words = words_keep_busy }
