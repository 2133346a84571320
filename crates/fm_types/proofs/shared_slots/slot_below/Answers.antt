use Rattle.std.proofs.Common.{◌∙◌, sym, arith}
use Rattle.std.proofs.lemmas.List.{get_or-take, get_or_past, length-take-le}
use Rattle.std.proofs.Common.{take}
use Rattle.fm_types.specs.declared.slots.Slot.TheVariants as slot
use Rattle.fm_types.specs.inner.Pieces.{in_one}
use Rattle.fm_types.proofs.shared_slots.slot_below.Goals as goal

pub returns-then-number-count : goal.returns-then-number-count
returns-then-number-count c =
    let xs = in_one c.args.pieces.now in
    let size = length-take-le c.args.count xs c.requires.count in
    sym (get_or_past (take c.args.count xs) c.args.number slot.Top (omega (arith, size, c.if-number-count.true)))

pub returns : goal.returns
returns c = c.slot_of.ensures ∙ sym (get_or-take c.args.count (in_one c.args.pieces.now) c.args.number slot.Top c.if-number-count.false)
