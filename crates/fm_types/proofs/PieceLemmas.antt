-- What is read of a list in pieces, and put into it.
use Rattle.std.proofs.Common.{◌≡◌, refl, sym, ◌∙◌, ap, ⊎_elim, ℕ, zero, suc, ◌+◌, ◌-◌, ◌*◌, ◌/◌, ◌%◌, ◌<◌, ◌≤◌, List, [], ◌∷◌, ◌++◌, length, get_or, set, take, arith}
use Rattle.std.specs.List.{All}
use Rattle.std.proofs.Math.Nat.{div-add-mod, mod-lt}
use Rattle.std.proofs.Math.Seq.{take-append-add, take-length}
use Rattle.std.proofs.lemmas.Bool.{cases_lt}
use Rattle.std.proofs.lemmas.List.{append-nil, append_assoc, get_or_append_left, get_or-append_right, get_or_past, get_or-take, length-append, length-set, length-take, length-take-le, set-append_left, set-append_right, take-append-le}
use Rattle.fm_types.specs.declared.slots.Slot.{Slot}
use Rattle.fm_types.specs.declared.slots.Slot.TheVariants as slot
use Rattle.fm_types.specs.inner.Pieces.{AreEven, in_one}

-- ---- where the slot of a number is

-- it is the slot of the remainder in the piece of the quotient
pub read_piece : (pieces : List (List Slot)) (q r i : ℕ) (d : Slot) → AreEven pieces → r < 32 → i ≡ 32 * q + r → get_or (in_one pieces) i d ≡ get_or (get_or pieces q []) r d
read_piece [] q r i d even small is = refl
read_piece (piece ∷ []) zero r i d even small is =
    let same : i ≡ r = omega arith in
    ap (λ (k : ℕ). get_or (piece ++ []) k d) same ∙ ap (λ (xs : List Slot). get_or xs r d) (append-nil piece)
read_piece (piece ∷ []) (suc q) r i d even small is =
    let short : length piece ≤ 32 = even.0 in
    let size = ap length (append-nil piece) in
    get_or_past (piece ++ []) i d (omega (arith, short, size, is))
read_piece (piece ∷ next ∷ pieces) zero r i d even small is =
    let size : length piece ≡ 32 = even.1 (omega arith) in
    let same : i ≡ r = omega arith in
    ap (λ (k : ℕ). get_or (piece ++ in_one (next ∷ pieces)) k d) same ∙ get_or_append_left piece (in_one (next ∷ pieces)) d r (omega (arith, size, small))
read_piece (piece ∷ next ∷ pieces) (suc q) r i d even small is =
    let size : length piece ≡ 32 = even.1 (omega arith) in
    get_or-append_right piece (in_one (next ∷ pieces)) 32 i d size (omega (arith, is))
    ∙ read_piece (next ∷ pieces) q r (i - 32) d even.2 small (omega (arith, is))

-- a slot of the list is in a piece
pub piece_there : (pieces : List (List Slot)) (q r i : ℕ) → AreEven pieces → r < 32 → i ≡ 32 * q + r → i < length (in_one pieces) → q < length pieces
piece_there [] q r i even small is within = absurd (omega (arith, within))
piece_there (piece ∷ pieces) zero r i even small is within = omega arith
piece_there (piece ∷ []) (suc q) r i even small is within =
    let short : length piece ≤ 32 = even.0 in
    let size = ap length (append-nil piece) in
    absurd (omega (arith, short, size, is, within))
piece_there (piece ∷ next ∷ pieces) (suc q) r i even small is within =
    let size : length piece ≡ 32 = even.1 (omega arith) in
    let whole = length-append piece (in_one (next ∷ pieces)) in
    let there = piece_there (next ∷ pieces) q r (i - 32) even.2 small (omega (arith, is)) (omega (arith, is, whole, size, within)) in
    omega (arith, there)

-- and the piece has it
pub slot_there : (pieces : List (List Slot)) (q r i : ℕ) → AreEven pieces → r < 32 → i ≡ 32 * q + r → i < length (in_one pieces) → r < length (get_or pieces q [])
slot_there [] q r i even small is within = absurd (omega (arith, within))
slot_there (piece ∷ []) zero r i even small is within =
    let size = ap length (append-nil piece) in
    omega (arith, size, is, within)
slot_there (piece ∷ []) (suc q) r i even small is within =
    let short : length piece ≤ 32 = even.0 in
    let size = ap length (append-nil piece) in
    absurd (omega (arith, short, size, is, within))
slot_there (piece ∷ next ∷ pieces) zero r i even small is within =
    let size : length piece ≡ 32 = even.1 (omega arith) in
    omega (arith, size, small)
slot_there (piece ∷ next ∷ pieces) (suc q) r i even small is within =
    let size : length piece ≡ 32 = even.1 (omega arith) in
    let whole = length-append piece (in_one (next ∷ pieces)) in
    slot_there (next ∷ pieces) q r (i - 32) even.2 small (omega (arith, is)) (omega (arith, is, whole, size, within))

-- the first slots of two lists of pieces are the same where these are
pub same_in_piece : (pieces others : List (List Slot)) (view other : List Slot) (n m piece k : ℕ) → AreEven pieces → AreEven others → n ≡ m
    → get_or pieces piece [] ≡ get_or others piece [] → take n (in_one pieces) ≡ view → take m (in_one others) ≡ other → k / 32 ≡ piece
    → get_or view k slot.Top ≡ get_or other k slot.Top
same_in_piece pieces others view other n m piece k even even_too same alike seen seen_too at =
    sym (ap (λ (xs : List Slot). get_or xs k slot.Top) seen) ∙ first ∙ ap (λ (xs : List Slot). get_or xs k slot.Top) seen_too where
      is : k ≡ 32 * piece + k % 32
      is = sym (div-add-mod k 32) ∙ ap (λ (q : ℕ). 32 * q + k % 32) at

      whole : get_or (in_one pieces) k slot.Top ≡ get_or (in_one others) k slot.Top
      whole =
          let small = mod-lt k (omega arith) in
          read_piece pieces piece (k % 32) k slot.Top even small is ∙ ap (λ (xs : List Slot). get_or xs (k % 32) slot.Top) alike
          ∙ sym (read_piece others piece (k % 32) k slot.Top even_too small is)

      first : get_or (take n (in_one pieces)) k slot.Top ≡ get_or (take m (in_one others)) k slot.Top
      first =
          ⊎_elim
          (λ (inside : k < n).
          get_or-take n (in_one pieces) k slot.Top inside ∙ whole ∙ sym (get_or-take m (in_one others) k slot.Top (omega (arith, inside, same))))
          (λ (past : n ≤ k).
          let size = length-take n (in_one pieces) in
          let other_size = length-take m (in_one others) in
          get_or_past (take n (in_one pieces)) k slot.Top (omega (arith, size, past))
          ∙ sym (get_or_past (take m (in_one others)) k slot.Top (omega (arith, other_size, past, same))))
          (cases_lt k n)

-- ---- a piece that changes

-- a slot that is put into its piece is put into the list
pub put_piece : (pieces : List (List Slot)) (q r i : ℕ) (s : Slot) → AreEven pieces → q < length pieces → r < length (get_or pieces q []) → i ≡ 32 * q + r
    → in_one (set pieces q (set (get_or pieces q []) r s)) ≡ set (in_one pieces) i s
put_piece [] q r i s even there within is = absurd (omega (arith, there))
put_piece (piece ∷ pieces) zero r i s even there within is =
    let same : r ≡ i = omega (arith, is) in
    sym (set-append_left piece (in_one pieces) r s within) ∙ ap (λ (k : ℕ). set (piece ++ in_one pieces) k s) same
put_piece (piece ∷ []) (suc q) r i s even there within is = absurd (omega (arith, there))
put_piece (piece ∷ next ∷ pieces) (suc q) r i s even there within is =
    let size : length piece ≡ 32 = even.1 (omega arith) in
    ap (λ (xs : List Slot). piece ++ xs) (put_piece (next ∷ pieces) q r (i - 32) s even.2 (omega (arith, there)) within (omega (arith, is)))
    ∙ sym (set-append_right piece (in_one (next ∷ pieces)) 32 i s size (omega (arith, is)))

-- the pieces stay even where a piece is replaced by one as long
pub AreEven-set : (pieces : List (List Slot)) (q : ℕ) (piece : List Slot) → AreEven pieces → length piece ≡ length (get_or pieces q []) → AreEven (set pieces q piece)
AreEven-set [] q piece even size = tt
AreEven-set (first ∷ pieces) zero piece even size =
    let short : length first ≤ 32 = even.0 in
    (omega (arith, short, size), λ some. let whole : length first ≡ 32 = even.1 some in omega (arith, whole, size), even.2)
AreEven-set (first ∷ pieces) (suc q) piece even size =
    let same = length-set pieces q piece in
    (even.0, λ some. even.1 (omega (arith, same, some)), AreEven-set pieces q piece even.2 size)

-- ---- pieces that are made one by one

-- whole pieces and a last one are even
pub AreEven-made : (pieces : List (List Slot)) (piece : List Slot) → All (λ (p : List Slot). length p ≡ 32) pieces → length piece ≤ 32 → AreEven (pieces ++ piece ∷ [])
AreEven-made [] piece whole short = (short, λ some. absurd (omega (arith, some)), tt)
AreEven-made (first ∷ pieces) piece whole short =
    let size : length first ≡ 32 = whole 0 [] (omega arith) in
    (omega (arith, size), λ some. size, AreEven-made pieces piece (λ k d inside. whole (suc k) d (omega arith)) short)

-- one piece more
pub in_one-push : (pieces : List (List Slot)) (piece : List Slot) → in_one (pieces ++ piece ∷ []) ≡ in_one pieces ++ piece
in_one-push [] piece = append-nil piece
in_one-push (first ∷ pieces) piece =
    ap (λ (xs : List Slot). first ++ xs) (in_one-push pieces piece) ∙ sym (append_assoc first (in_one pieces) piece)

-- ---- a slot that is put after the first ones

-- where they end in a piece, it has the last of them
pub room_there : (pieces : List (List Slot)) (q r n : ℕ) → AreEven pieces → r < 32 → n ≡ 32 * q + r → n ≤ length (in_one pieces) → q < length pieces
    → r ≤ length (get_or pieces q [])
room_there [] q r n even small is within there = absurd (omega (arith, there))
room_there (piece ∷ []) zero r n even small is within there =
    let size = ap length (append-nil piece) in
    omega (arith, size, is, within)
room_there (piece ∷ []) (suc q) r n even small is within there = absurd (omega (arith, there))
room_there (piece ∷ next ∷ pieces) zero r n even small is within there =
    let size : length piece ≡ 32 = even.1 (omega arith) in
    omega (arith, size, small)
room_there (piece ∷ next ∷ pieces) (suc q) r n even small is within there =
    let size : length piece ≡ 32 = even.1 (omega arith) in
    let whole = length-append piece (in_one (next ∷ pieces)) in
    room_there (next ∷ pieces) q r (n - 32) even.2 small (omega (arith, is)) (omega (arith, is, whole, size, within)) (omega (arith, there))

-- the pieces up to that one make the first slots and the one after them
pub end_there : (pieces : List (List Slot)) (q r n : ℕ) (s : Slot) → AreEven pieces → q < length pieces → r ≤ length (get_or pieces q []) → n ≡ 32 * q + r
    → in_one (take (suc q) (set pieces q (take r (get_or pieces q []) ++ s ∷ []))) ≡ take n (in_one pieces) ++ s ∷ []
end_there [] q r n s even there within is = absurd (omega (arith, there))
end_there (piece ∷ pieces) zero r n s even there within is =
    let same : r ≡ n = omega (arith, is) in
    append-nil (take r piece ++ s ∷ [])
    ∙ ap (λ (xs : List Slot). xs ++ s ∷ []) (sym (take-append-le r piece (in_one pieces) within) ∙ ap (λ (k : ℕ). take k (piece ++ in_one pieces)) same)
end_there (piece ∷ []) (suc q) r n s even there within is = absurd (omega (arith, there))
end_there (piece ∷ next ∷ pieces) (suc q) r n s even there within is =
    let size : length piece ≡ 32 = even.1 (omega arith) in
    let rest = in_one (next ∷ pieces) in
    let whole : length piece + (n - 32) ≡ n = omega (arith, is, size) in
    ap (λ (xs : List Slot). piece ++ xs) (end_there (next ∷ pieces) q r (n - 32) s even.2 (omega (arith, there)) within (omega (arith, is)))
    ∙ sym (append_assoc piece (take (n - 32) rest) (s ∷ []))
    ∙ ap (λ (xs : List Slot). xs ++ s ∷ []) (sym (take-append-add piece rest (n - 32)) ∙ ap (λ (k : ℕ). take k (piece ++ rest)) whole)

-- the pieces up to one that becomes the last one are even
pub AreEven-end : (pieces : List (List Slot)) (q : ℕ) (piece : List Slot) → AreEven pieces → length piece ≤ 32 → q < length pieces
    → AreEven (take (suc q) (set pieces q piece))
AreEven-end [] q piece even short there = absurd (omega (arith, there))
AreEven-end (first ∷ pieces) zero piece even short there = (short, λ some. absurd (omega (arith, some)), tt)
AreEven-end (first ∷ []) (suc q) piece even short there = absurd (omega (arith, there))
AreEven-end (first ∷ next ∷ pieces) (suc q) piece even short there =
    (even.0, λ some. even.1 (omega arith), AreEven-end (next ∷ pieces) q piece even.2 short (omega (arith, there)))

-- no more slots than the pieces may have
pub most_slots : (pieces : List (List Slot)) → AreEven pieces → length (in_one pieces) ≤ 32 * length pieces
most_slots [] even = omega arith
most_slots (piece ∷ pieces) even =
    let short : length piece ≤ 32 = even.0 in
    let size = length-append piece (in_one pieces) in
    let rest = most_slots pieces even.2 in
    omega (arith, short, size, rest)

-- where the pieces have all the slots that they may have, one more may follow them
pub AreEven-full : (pieces : List (List Slot)) (piece : List Slot) → AreEven pieces → 32 * length pieces ≤ length (in_one pieces) → length piece ≤ 32
    → AreEven (pieces ++ piece ∷ [])
AreEven-full [] piece even full short = (short, λ some. absurd (omega (arith, some)), tt)
AreEven-full (first ∷ pieces) piece even full short =
    let low : length first ≤ 32 = even.0 in
    let size = length-append first (in_one pieces) in
    let rest = most_slots pieces even.2 in
    let whole : length first ≡ 32 = omega (arith, full, low, size, rest) in
    (even.0, λ some. whole, AreEven-full pieces piece even.2 (omega (arith, full, low, size)) short)

-- ---- the first slots of a list

-- one more than some of them
pub pushed_size : (xs new : List Slot) (n : ℕ) (s : Slot) → n ≤ length xs → new ≡ take n xs ++ s ∷ [] → length new ≡ n + 1
pushed_size xs new n s within is =
    let size = ap length is ∙ length-append (take n xs) (s ∷ []) in
    let first = length-take-le n xs within in
    omega (arith, size, first)

pub pushed_all : (xs new view : List Slot) (n more : ℕ) (s : Slot) → n ≤ length xs → more ≡ n + 1 → new ≡ take n xs ++ s ∷ [] → take n xs ≡ view
    → take more new ≡ view ++ s ∷ []
pushed_all xs new view n more s within count is same =
    let size = pushed_size xs new n s within is in
    ap (λ (k : ℕ). take k new) (count ∙ sym size) ∙ take-length new ∙ is ∙ ap (λ (ys : List Slot). ys ++ s ∷ []) same

-- fewer of them
pub take_twice : (i n : ℕ) (xs : List Slot) → i ≤ n → take i (take n xs) ≡ take i xs
take_twice zero n xs fewer = refl
take_twice (suc i) zero xs fewer = absurd (omega (arith, fewer))
take_twice (suc i) (suc n) [] fewer = refl
take_twice (suc i) (suc n) (x ∷ xs) fewer = ap (λ (ys : List Slot). x ∷ ys) (take_twice i n xs (omega (arith, fewer)))
