use Rattle.std.proofs.Common.{◌≡◌, ◌∙◌, sym, ap, ℕ, ◌/◌, ◌%◌, ◌<◌, List, [], length, get_or, set, arith}
use Rattle.std.proofs.Math.Nat.{div-add-mod, mod-lt}
use Rattle.std.proofs.lemmas.List.{get_or_read, length-set, set-get_or}
use Rattle.fm_types.proofs.PieceLemmas.{AreEven-set, piece_there, put_piece, slot_there}
use Rattle.fm_types.specs.declared.slots.Slot.{Slot}
use Rattle.fm_types.specs.inner.Pieces.{AreEven, in_one}
use Rattle.fm_types.proofs.shared_slots.put.Goals as goal

-- where the slot of a number is
record Place (pieces : List (List Slot)) (n : ℕ) : Type 0 where
  there : n / 32 < length pieces
  has : n % 32 < length (get_or pieces (n / 32) [])

place : (pieces : List (List Slot)) (n : ℕ) → AreEven pieces → n < length (in_one pieces) → Place pieces n
place pieces n even within =
    let small = mod-lt n (omega arith) in
    let is = sym (div-add-mod n 32) in
    record {
      there = piece_there pieces (n / 32) (n % 32) n even small is within;
      has = slot_there pieces (n / 32) (n % 32) n even small is within;
    }

pub index_mut-requires : goal.index_mut-requires
index_mut-requires c =
    let found = place c.args.pieces.now.items c.args.number c.requires.even c.requires.number in
    let ok = c.args.pieces.now.ok.0 in
    omega (arith, found.there, ok)

pub set-requires : goal.set-requires
set-requires c =
    let pieces = c.args.pieces.now.items in
    let n = c.args.number in
    let found = place pieces n c.requires.even c.requires.number in
    let here : c.index_mut.result.now ≡ get_or pieces (n / 32) [] =
    get_or_read pieces (n / 32) c.index_mut.result.now found.there c.index_mut.ensures.value [] in
    let size = ap length here in
    omega (arith, size, found.has)

-- the pieces where one is as it was
kept_even : (pieces : List (List Slot)) (q : ℕ) (piece : List Slot) → AreEven pieces → piece ≡ get_or pieces q [] → AreEven (set pieces q piece)
kept_even pieces q piece even same = AreEven-set pieces q piece even (ap length same)

kept_size : (pieces : List (List Slot)) (q : ℕ) (piece : List Slot) → piece ≡ get_or pieces q []
    → length (in_one (set pieces q piece)) ≡ length (in_one pieces)
kept_size pieces q piece same =
    ap (λ (p : List Slot). length (in_one (set pieces q p))) same ∙ ap (λ (ps : List (List Slot)). length (in_one ps)) (set-get_or pieces q [])

pub returns-in_err-set-clause-even : goal.returns-in_err-set-clause-even
returns-in_err-set-clause-even c =
    let pieces = c.args.pieces.now.items in
    let n = c.args.number in
    let found = place pieces n c.requires.even c.requires.number in
    let here : c.index_mut.result.now ≡ get_or pieces (n / 32) [] =
    get_or_read pieces (n / 32) c.index_mut.result.now found.there c.index_mut.ensures.value [] in
    kept_even pieces (n / 32) c.set.new.self c.requires.even (c.in_err-set.ensures.kept ∙ here)

pub returns-in_err-set-clause-size : goal.returns-in_err-set-clause-size
returns-in_err-set-clause-size c =
    let pieces = c.args.pieces.now.items in
    let n = c.args.number in
    let found = place pieces n c.requires.even c.requires.number in
    let here : c.index_mut.result.now ≡ get_or pieces (n / 32) [] =
    get_or_read pieces (n / 32) c.index_mut.result.now found.there c.index_mut.ensures.value [] in
    kept_size pieces (n / 32) c.set.new.self (c.in_err-set.ensures.kept ∙ here)

-- the piece in which the slot is put
piece_is : (pieces : List (List Slot)) (n : ℕ) (s : Slot) (read piece : List Slot) → read ≡ get_or pieces (n / 32) [] → piece ≡ set read (n % 32) s
    → piece ≡ set (get_or pieces (n / 32) []) (n % 32) s
piece_is pieces n s read piece here is = is ∙ ap (λ (xs : List Slot). set xs (n % 32) s) here

pub returns-clause-even : goal.returns-clause-even
returns-clause-even c =
    let pieces = c.args.pieces.now.items in
    let n = c.args.number in
    let found = place pieces n c.requires.even c.requires.number in
    let here : c.index_mut.result.now ≡ get_or pieces (n / 32) [] =
    get_or_read pieces (n / 32) c.index_mut.result.now found.there c.index_mut.ensures.value [] in
    let is = piece_is pieces n c.args.slot c.index_mut.result.now c.set.new.self here c.in_ok-set.ensures.slots in
    AreEven-set pieces (n / 32) c.set.new.self c.requires.even (ap length is ∙ length-set (get_or pieces (n / 32) []) (n % 32) c.args.slot)

pub returns-clause-size : goal.returns-clause-size
returns-clause-size c =
    let pieces = c.args.pieces.now.items in
    let n = c.args.number in
    let found = place pieces n c.requires.even c.requires.number in
    let here : c.index_mut.result.now ≡ get_or pieces (n / 32) [] =
    get_or_read pieces (n / 32) c.index_mut.result.now found.there c.index_mut.ensures.value [] in
    let is = piece_is pieces n c.args.slot c.index_mut.result.now c.set.new.self here c.in_ok-set.ensures.slots in
    ap (λ (p : List Slot). length (in_one (set pieces (n / 32) p))) is
    ∙ ap length (put_piece pieces (n / 32) (n % 32) n c.args.slot c.requires.even found.there found.has (sym (div-add-mod n 32)))
    ∙ length-set (in_one pieces) n c.args.slot

pub returns-clause-slots : goal.returns-clause-slots
returns-clause-slots c =
    let pieces = c.args.pieces.now.items in
    let n = c.args.number in
    let found = place pieces n c.requires.even c.requires.number in
    let here : c.index_mut.result.now ≡ get_or pieces (n / 32) [] =
    get_or_read pieces (n / 32) c.index_mut.result.now found.there c.index_mut.ensures.value [] in
    let is = piece_is pieces n c.args.slot c.index_mut.result.now c.set.new.self here c.in_ok-set.ensures.slots in
    ap (λ (p : List Slot). in_one (set pieces (n / 32) p)) is
    ∙ put_piece pieces (n / 32) (n % 32) n c.args.slot c.requires.even found.there found.has (sym (div-add-mod n 32))
