use Rattle.std.proofs.Common.{arith}
use Rattle.fm_place.proofs.RowLemmas.{words_done}
use Rattle.fm_place.proofs.busy_rows.Seen.word_rows.Goals as goal

pub returns : goal.returns
returns c =
    words_done c.args.self.now c.args.groups.now c.loop-item.rows.items c.loop-item.item (omega (arith, c.requires.count)) c.loop-item.invariant
