use Rattle.std.proofs.Common.{◌≤◌, ◌∙◌, ap, sym, subst, List, length, take}
use Rattle.fm_types.specs.declared.slots.Slot.{Slot}
use Rattle.fm_types.specs.inner.Pieces.{AreEven, in_one}
use Rattle.fm_types.proofs.shared_slots.SharedSlots.copy.Goals as goal

pub invariant_of-result : goal.invariant_of-result
invariant_of-result c =
    subst (λ (ps : List (List Slot)). AreEven ps × (c.self.inside.len ≤ length (in_one ps))) (sym (c.in_ok-pieces.ensures ∙ c.as_slice.ensures.value))
    c.self.invariant

pub returns : goal.returns
returns c = ap (λ (ps : List (List Slot)). take c.self.inside.len (in_one ps)) (c.in_ok-pieces.ensures ∙ c.as_slice.ensures.value) ∙ c.self.view_is
