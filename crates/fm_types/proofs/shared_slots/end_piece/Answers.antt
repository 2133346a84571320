use Rattle.std.proofs.Common.{◌≡◌, ◌∙◌, ◌+◌, ap, List, [], ◌∷◌, ◌++◌, get_or, set, take}
use Rattle.std.proofs.lemmas.List.{get_or_read}
use Rattle.fm_types.specs.declared.slots.Slot.{Slot}
use Rattle.fm_types.proofs.shared_slots.end_piece.Goals as goal

pub returns-clause-pieces : goal.returns-clause-pieces
returns-clause-pieces c =
    let pieces = c.args.pieces.now.items in
    let q = c.args.place in
    let here : c.index.result.now ≡ get_or pieces q [] = get_or_read pieces q c.index.result.now c.requires.place c.index.ensures [] in
    c.truncate.ensures.items
    ∙ ap (λ (p : List Slot). take (q + 1) (set pieces q p))
    (c.in_ok-piece.ensures ∙ ap (λ (xs : List Slot). take c.args.count xs ++ c.args.slot ∷ []) (c.as_slice-slots.ensures ∙ here))
