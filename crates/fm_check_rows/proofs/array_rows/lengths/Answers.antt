use Rattle.std.proofs.Common.{ap, ◌∙◌, replicate, reverse}
use Rattle.fm_types.specs.declared.slots.Slot.TheVariants as slot
use Rattle.fm_check_rows.proofs.WordLemmas.{reverse-replicate}
use Rattle.fm_check_rows.proofs.array_rows.lengths.Goals as goal

pub returns : goal.returns
returns c =
    ap reverse (c.in_ok-vec.ensures.items_if_clones_equal (λ y e. e)) ∙ reverse-replicate c.from.result slot.Int
    ∙ ap (λ n. replicate n slot.Int) c.from.ensures
