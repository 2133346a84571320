use Rattle.std.proofs.Common.{◌≡◌, ◌∙◌, sym, ◌<◌, [], length, get_or}
use Rattle.std.proofs.lemmas.Bool.{ltb-true}
use Rattle.std.proofs.lemmas.List.{get_or_read}
use Rattle.fm_types.proofs.shared_slots.are_same_at.Goals as goal

pub returns : goal.returns
returns c = λ same.
    let pieces = c.args.pieces.now in
    let others = c.args.others.now in
    let q = c.args.piece in
    let inside : q < length pieces = ltb-true q (length pieces) (sym c.in-Some.ensures.lookup.0) in
    let within : q < length others = ltb-true q (length others) (sym c.in-Some-get.ensures.lookup.0) in
    let first : c.in-Some.first.now ≡ get_or pieces q [] = get_or_read pieces q c.in-Some.first.now inside c.in-Some.ensures.lookup.1 [] in
    let second : c.in-Some-get.second.now ≡ get_or others q [] = get_or_read others q c.in-Some-get.second.now within c.in-Some-get.ensures.lookup.1 [] in
    sym first ∙ sym c.as_slice.ensures ∙ c.are_same.ensures same ∙ c.as_slice-2.ensures ∙ second
