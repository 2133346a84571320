use Rattle.std.proofs.Common.{◌≤◌, ◌∙◌, ap, sym, subst, List, length, take}
use Rattle.fm_types.specs.States.{local_at}
use Rattle.fm_types.specs.declared.slots.Slot.{Slot}
use Rattle.fm_types.specs.inner.Pieces.{AreEven, in_one}
use Rattle.fm_types.proofs.shared_slots.SharedSlots.slot.Goals as goal

pub slot_below-requires-clause-even : goal.slot_below-requires-clause-even
slot_below-requires-clause-even c = subst (λ (ps : List (List Slot)). AreEven ps) (sym c.as_slice.ensures.value) c.self.invariant.0

pub slot_below-requires-clause-count : goal.slot_below-requires-clause-count
slot_below-requires-clause-count c =
    subst (λ (ps : List (List Slot)). c.self.inside.len ≤ length (in_one ps)) (sym c.as_slice.ensures.value) c.self.invariant.1

pub returns : goal.returns
returns c =
    c.slot_below.ensures
    ∙ ap (λ (ps : List (List Slot)). local_at (take c.self.inside.len (in_one ps)) c.args.number) c.as_slice.ensures.value
    ∙ ap (λ (xs : List Slot). local_at xs c.args.number) c.self.view_is
