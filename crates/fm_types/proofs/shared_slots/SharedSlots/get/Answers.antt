use Rattle.std.proofs.Common.{◌∙◌, Some, ap, sym, arith}
use Rattle.std.proofs.lemmas.Option.{slice_get-get_or, slice_get_past}
use Rattle.fm_types.specs.declared.slots.Slot.{Slot}
use Rattle.fm_types.specs.declared.slots.Slot.TheVariants as slot
use Rattle.fm_types.proofs.shared_slots.SharedSlots.get.Goals as goal

pub returns-then-number-len : goal.returns-then-number-len
returns-then-number-len c = sym (slice_get_past c.args.self.now c.args.number (omega (arith, c.if-number-len.true, c.len.ensures)))

pub returns : goal.returns
returns c =
    ap (λ (s : Slot). Some s) c.slot.ensures
    ∙ sym (slice_get-get_or c.args.self.now c.args.number slot.Top (omega (arith, c.if-number-len.false, c.len.ensures)))
