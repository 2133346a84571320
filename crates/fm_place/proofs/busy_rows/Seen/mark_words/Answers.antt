use Rattle.fm_place.proofs.RowLemmas.{word_more, words_none}
use Rattle.fm_place.specs.inner.PlanRows.{busy_by_words, count_of}
use Rattle.fm_place.proofs.busy_rows.Seen.mark_words.Goals as goal

pub loop-below-init : goal.loop-below-init
loop-below-init c = words_none c.args.self.now c.args.groups.now c.args.item 0 c.args.rows.now.items c.requires.rows

pub loop-below-preserved : goal.loop-below-preserved
loop-below-preserved c =
    word_more c.args.self.now c.args.groups.now c.args.item c.loop-below.below c.mark.new.rows.items c.word_class-class.result c.word_class-class.ensures
    (c.mark.ensures (count_of c.args.self.now) (busy_by_words c.args.self.now c.args.item c.loop-below.below) c.loop-below.invariant)
