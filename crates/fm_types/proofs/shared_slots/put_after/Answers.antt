use Rattle.std.proofs.Common.{◌≡◌, ◌∙◌, sym, ap, subst, ℕ, ◌+◌, ◌*◌, ◌/◌, ◌%◌, ◌<◌, ◌≤◌, suc, List, [], ◌∷◌, ◌++◌, length, get_or, set, take, arith}
use Rattle.std.proofs.Math.Nat.{div-add-mod, mod-lt}
use Rattle.std.proofs.Math.Seq.{take-length}
use Rattle.std.proofs.lemmas.List.{length-append, length-take-le}
use Rattle.fm_types.proofs.PieceLemmas.{AreEven-end, AreEven-full, end_there, in_one-push, most_slots, room_there}
use Rattle.fm_types.specs.declared.slots.Slot.{Slot}
use Rattle.fm_types.specs.inner.Pieces.{AreEven, in_one}
use Rattle.fm_types.proofs.shared_slots.put_after.Goals as goal

-- what is left where a slot is put after the first ones
record Put (pieces new : List (List Slot)) (n : ℕ) (s : Slot) : Type 0 where
  even : AreEven new
  slots : in_one new ≡ take n (in_one pieces) ++ s ∷ []

-- in a piece
put_there : (pieces new : List (List Slot)) (n : ℕ) (s : Slot) → AreEven pieces → n ≤ length (in_one pieces) → n / 32 < length pieces
    → new ≡ take (n / 32 + 1) (set pieces (n / 32) (take (n % 32) (get_or pieces (n / 32) []) ++ s ∷ [])) → Put pieces new n s
put_there pieces new n s even within there is = record {
  even = subst (λ (ps : List (List Slot)). AreEven ps) (sym made) (AreEven-end pieces q piece even (omega (arith, size, first, small)) there);
  slots = ap in_one made ∙ end_there pieces q r n s even there room number;
} where
  q : ℕ
  q = n / 32

  r : ℕ
  r = n % 32

  number : n ≡ 32 * q + r
  number = sym (div-add-mod n 32)

  small : r < 32
  small = mod-lt n (omega arith)

  room : r ≤ length (get_or pieces q [])
  room = room_there pieces q r n even small number within there

  piece : List Slot
  piece = take r (get_or pieces q []) ++ s ∷ []

  size : length piece ≡ length (take r (get_or pieces q [])) + 1
  size = length-append (take r (get_or pieces q [])) (s ∷ [])

  first : length (take r (get_or pieces q [])) ≡ r
  first = length-take-le r (get_or pieces q []) room

  made : new ≡ take (suc q) (set pieces q piece)
  made =
      let more : q + 1 ≡ suc q = omega arith in
      is ∙ ap (λ (k : ℕ). take k (set pieces q piece)) more

-- after all pieces
put_behind : (pieces new : List (List Slot)) (n : ℕ) (s : Slot) (piece : List Slot) → AreEven pieces → n ≤ length (in_one pieces) → length pieces ≤ n / 32
    → piece ≡ s ∷ [] → new ≡ pieces ++ piece ∷ [] → Put pieces new n s
put_behind pieces new n s piece even within past one is = record {
  even = subst (λ (ps : List (List Slot)). AreEven ps) (sym is) (AreEven-full pieces piece even (omega (arith, number, past, within)) (omega (arith, size)));
  slots = ap in_one is ∙ in_one-push pieces piece ∙ ap (λ (xs : List Slot). in_one pieces ++ xs) one
      ∙ ap (λ (xs : List Slot). xs ++ s ∷ []) (sym (take-length (in_one pieces)) ∙ ap (λ (k : ℕ). take k (in_one pieces)) all);
} where
  number : n ≡ 32 * (n / 32) + n % 32
  number = sym (div-add-mod n 32)

  size : length piece ≡ 1
  size = ap length one

  most : length (in_one pieces) ≤ 32 * length pieces
  most = most_slots pieces even

  all : length (in_one pieces) ≡ n
  all = omega (arith, number, past, within, most)

pub end_piece-requires-clause-place : goal.end_piece-requires-clause-place
end_piece-requires-clause-place c =
    let ok = c.args.pieces.now.ok.0 in
    omega (arith, c.if-place-len.true, c.len.ensures, ok)

pub end_piece-requires-clause-count : goal.end_piece-requires-clause-count
end_piece-requires-clause-count c =
    let n = c.args.count in
    let ok = c.args.pieces.now.ok.0 in
    room_there c.args.pieces.now.items (n / 32) (n % 32) n c.requires.even (mod-lt n (omega arith)) (sym (div-add-mod n 32)) c.requires.count
    (omega (arith, c.if-place-len.true, c.len.ensures, ok))

pub returns-then-place-len-clause-even : goal.returns-then-place-len-clause-even
returns-then-place-len-clause-even c =
    let ok = c.args.pieces.now.ok.0 in
    (put_there c.args.pieces.now.items c.end_piece.new.pieces.items c.args.count c.args.slot c.requires.even c.requires.count
    (omega (arith, c.if-place-len.true, c.len.ensures, ok)) c.in_ok-end_piece.ensures.pieces).even

pub returns-then-place-len-clause-slots : goal.returns-then-place-len-clause-slots
returns-then-place-len-clause-slots c =
    let ok = c.args.pieces.now.ok.0 in
    (put_there c.args.pieces.now.items c.end_piece.new.pieces.items c.args.count c.args.slot c.requires.even c.requires.count
    (omega (arith, c.if-place-len.true, c.len.ensures, ok)) c.in_ok-end_piece.ensures.pieces).slots

pub returns-clause-even : goal.returns-clause-even
returns-clause-even c =
    let ok = c.args.pieces.now.ok.0 in
    (put_behind c.args.pieces.now.items c.push.new.self.items c.args.count c.args.slot c.in_ok-piece.piece c.requires.even c.requires.count
    (omega (arith, c.if-place-len.false, c.len.ensures, ok)) c.in_ok-piece.ensures c.in_ok-push.ensures.items).even

pub returns-clause-slots : goal.returns-clause-slots
returns-clause-slots c =
    let ok = c.args.pieces.now.ok.0 in
    (put_behind c.args.pieces.now.items c.push.new.self.items c.args.count c.args.slot c.in_ok-piece.piece c.requires.even c.requires.count
    (omega (arith, c.if-place-len.false, c.len.ensures, ok)) c.in_ok-piece.ensures c.in_ok-push.ensures.items).slots
