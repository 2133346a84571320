use Rattle.std.proofs.Common.{length}
use Rattle.fm_exec_nests.proofs.nests.+nest_words.Given as goal

abbrev pub decreases-nest_words : goal.decreases-nest_words
decreases-nest_words l = length l.lens.now
