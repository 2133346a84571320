use Rattle.std.proofs.Common.{◌∙◌, ap, arith}
use Rattle.fm_base.specs.Rows.{has}
use Rattle.fm_chain.specs.Chained.{taken_items}
use Rattle.fm_place_weave.proofs.AnchorLemmas.{taken_here}
use Rattle.fm_place_weave.proofs.PairLemmas.{flag_at}
use Rattle.fm_place_weave.proofs.anchors.taken_count.Goals as goal

pub get-requires : goal.get-requires
get-requires c =
    let one = flag_at c.args.looped.now c.args.pairs.now c.loop-pair.pair-index c.requires.flags c.loop-pair-test.true in
    omega (arith, one, c.from.ensures)

pub overflow_add-count : goal.overflow_add-count
overflow_add-count c =
    let more = taken_here c.args.looped.now c.args.pairs.now c.loop-pair.pair-index c.loop-pair-test.true in
    let size = c.taken_items-count.ensures ∙ ap taken_items (c.get.ensures ∙ ap (has c.args.looped.now) c.from.ensures) in
    omega (arith, more, size, c.loop-pair.invariant, c.requires.fits)

pub loop-pair-preserved : goal.loop-pair-preserved
loop-pair-preserved c =
    let more = taken_here c.args.looped.now c.args.pairs.now c.loop-pair.pair-index c.loop-pair-test.true in
    let size = c.taken_items-count.ensures ∙ ap taken_items (c.get.ensures ∙ ap (has c.args.looped.now) c.from.ensures) in
    omega (arith, more, size, c.loop-pair.invariant)
