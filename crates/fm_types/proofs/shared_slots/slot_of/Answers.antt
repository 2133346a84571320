use Rattle.std.proofs.Common.{◌≡◌, ◌∙◌, sym, ap, ◌/◌, ◌%◌, ◌<◌, ◌≤◌, List, [], length, get_or, arith}
use Rattle.std.proofs.Math.Nat.{div-add-mod, mod-lt}
use Rattle.std.proofs.lemmas.Bool.{ltb-false, ltb-true}
use Rattle.std.proofs.lemmas.List.{get_or_read, get_or_past}
use Rattle.fm_types.proofs.PieceLemmas.{read_piece}
use Rattle.fm_types.specs.States.{local_at}
use Rattle.fm_types.specs.declared.slots.Slot.{Slot}
use Rattle.fm_types.specs.declared.slots.Slot.TheVariants as slot
use Rattle.fm_types.proofs.shared_slots.slot_of.Goals as goal

pub returns-in-Some : goal.returns-in-Some
returns-in-Some c =
    let pieces = c.args.pieces.now in
    let q = c.args.number / 32 in
    let r = c.args.number % 32 in
    let inside : q < length pieces = ltb-true q (length pieces) (sym c.in-Some.ensures.lookup.0) in
    let here : c.in-Some.piece.now ≡ get_or pieces q [] = get_or_read pieces q c.in-Some.piece.now inside c.in-Some.ensures.lookup.1 [] in
    c.slot_in.ensures
    ∙ ap (λ (xs : List Slot). local_at xs r) (c.as_slice.ensures ∙ here)
    ∙ sym (read_piece pieces q r c.args.number slot.Top c.requires (mod-lt c.args.number (omega arith)) (sym (div-add-mod c.args.number 32)))

pub returns-in-None : goal.returns-in-None
returns-in-None c =
    let pieces = c.args.pieces.now in
    let q = c.args.number / 32 in
    let r = c.args.number % 32 in
    let past : length pieces ≤ q = ltb-false q (length pieces) (sym c.in-None.ensures.lookup.0) in
    let none : get_or pieces q [] ≡ [] = get_or_past pieces q [] past in
    ap (λ (xs : List Slot). local_at xs r) (sym none)
    ∙ sym (read_piece pieces q r c.args.number slot.Top c.requires (mod-lt c.args.number (omega arith)) (sym (div-add-mod c.args.number 32)))
