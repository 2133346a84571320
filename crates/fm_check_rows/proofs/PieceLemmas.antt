-- The pieces of a stack, and what is moved.
use Rattle.std.proofs.Common.{◌≡◌, refl, sym, ◌∙◌, ap, subst, ℕ, zero, suc, ◌+◌, ◌-◌, ◌<◌, ◌≤◌, false, List, [], ◌∷◌, length, drop, length-drop, None, arith}
use Rattle.std.specs.List.{slice_get}
use Rattle.std.proofs.lemmas.List.{drop-drop}
use Rattle.std.proofs.lemmas.Option.{slice_get_past}
use Rattle.fm_check_rows.specs.inner.Pieces.{IsPieceAt, piece_of}
use Rattle.fm_types.specs.States.{is_whole}
use Rattle.fm_types.specs.declared.slots.Slot.{Slot}
use Rattle.fm_types.specs.declared.slots.Slot.TheVariants as slot

get-drop : (xs : List Slot) (n k : ℕ) → slice_get xs (n + k) ≡ slice_get (drop n xs) k
get-drop xs zero k = ap (slice_get xs) (omega arith)
get-drop [] (suc n) k = refl
get-drop (x ∷ xs) (suc n) k = let more : suc n + k ≡ suc (n + k) = omega arith in ap (slice_get (x ∷ xs)) more ∙ get-drop xs n k

-- what is whole at the front of a stack
record Piece (rest : List Slot) (size : ℕ) : Type 0 where
  none : size ≡ 0 → is_whole rest ≡ false
  some : 0 < size → is_whole rest ≡ is_whole (drop size rest)
  within : size ≤ length rest

piece_none : (rest : List Slot) → is_whole rest ≡ false → Piece rest 0
piece_none rest broken = record { none = λ e. broken; some = λ h. absurd (omega (arith, h)); within = omega arith }

front : (rest : List Slot) → 0 < length rest → Piece rest (piece_of (slice_get rest 0) (slice_get rest 1))
front [] h = absurd (omega (arith, h))
front (slot.Long ∷ rest) h = piece_none (slot.Long ∷ rest) refl
front (slot.Top ∷ []) h = piece_none (slot.Top ∷ []) refl
front (slot.Top ∷ slot.Long ∷ rest) h = record { none = λ e. absurd (omega (arith, e)); some = λ h. refl; within = omega arith }
front (slot.Top ∷ x ∷ rest) h = piece_none (slot.Top ∷ x ∷ rest) refl
front (x ∷ rest) h = record { none = λ e. absurd (omega (arith, e)); some = λ h. refl; within = omega arith }

pub piece_at : (stack : List Slot) (depth size : ℕ) → depth < length stack
    → size ≡ piece_of (slice_get stack depth) (slice_get stack (depth + 1)) → IsPieceAt stack depth size
piece_at stack depth size inside made =
    let left : length (drop depth stack) ≡ length stack - depth = length-drop depth stack in
    let here : slice_get stack depth ≡ slice_get (drop depth stack) 0 = ap (slice_get stack) (omega arith) ∙ get-drop stack depth 0 in
    let sized : piece_of (slice_get (drop depth stack) 0) (slice_get (drop depth stack) 1) ≡ size =
    sym (made ∙ ap (λ s. piece_of s (slice_get stack (depth + 1))) here
    ∙ ap (piece_of (slice_get (drop depth stack) 0)) (get-drop stack depth 1)) in
    let piece : Piece (drop depth stack) size = subst (Piece (drop depth stack)) sized (front (drop depth stack) (omega (arith, left, inside))) in
    record {
      none = piece.none;
      some = λ h. piece.some h ∙ ap is_whole (drop-drop size depth stack);
      within = omega (arith, piece.within, left, inside);
    }

-- past the end there is no second slot
pub piece_at_end : (stack : List Slot) (depth size : ℕ) → depth < length stack → length stack ≤ depth + 1
    → size ≡ piece_of (slice_get stack depth) None → IsPieceAt stack depth size
piece_at_end stack depth size inside end made =
    piece_at stack depth size inside
    (made ∙ ap (piece_of (slice_get stack depth)) (sym (slice_get_past stack (depth + 1) end)))
