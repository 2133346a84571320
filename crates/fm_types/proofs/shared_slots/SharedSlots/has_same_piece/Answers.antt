use Rattle.std.proofs.Common.{◌≡◌, ◌∙◌, sym, ap, List, [], get_or, arith}
use Rattle.fm_types.proofs.PieceLemmas.{same_in_piece}
use Rattle.fm_types.specs.declared.slots.Slot.{Slot}
use Rattle.fm_types.proofs.shared_slots.SharedSlots.has_same_piece.Goals as goal

pub returns : goal.returns
returns c = λ same k at.
    let pieces = c.self.inside.pieces.items in
    let others = c.other.inside.pieces.items in
    let alike : get_or pieces c.args.piece [] ≡ get_or others c.args.piece [] =
    ap (λ (ps : List (List Slot)). get_or ps c.args.piece []) (sym c.as_slice.ensures.value) ∙ c.are_same_at.ensures same
    ∙ ap (λ (ps : List (List Slot)). get_or ps c.args.piece []) c.as_slice-2.ensures.value in
    let size : c.self.inside.len ≡ c.other.inside.len = omega arith in
    same_in_piece pieces others c.args.self.now c.args.other.now c.self.inside.len c.other.inside.len c.args.piece k c.self.invariant.0 c.other.invariant.0 size alike
    c.self.view_is c.other.view_is at
