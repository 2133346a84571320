-- Pieces put one after the other.
use Rattle.std.proofs.Common.{◌≡◌, ℕ, List, [], ◌∷◌, ◌++◌, sym, ap, ◌∙◌, append_assoc, append-nil}
use Rattle.std.specs.List.{concat}

-- the bytes are these pieces
pub record AreJoined (pieces : List (List ℕ)) (bytes : List ℕ) : Type 0 where
  pub bytes_are : bytes ≡ concat pieces

concat-push : (pieces : List (List ℕ)) (piece : List ℕ) → concat (pieces ++ piece ∷ []) ≡ concat pieces ++ piece
concat-push [] piece = append-nil piece
concat-push (first ∷ pieces) piece = ap (λ (bytes : List ℕ). first ++ bytes) (concat-push pieces piece) ∙ sym (append_assoc first (concat pieces) piece)

-- no piece yet
pub no_piece : {bytes : List ℕ} → bytes ≡ [] → AreJoined [] bytes
no_piece e = record { bytes_are = e }

-- one more piece
pub next_piece : {pieces : List (List ℕ)} {bytes next : List ℕ} → AreJoined pieces bytes → (piece : List ℕ) → next ≡ bytes ++ piece → AreJoined (pieces ++ piece ∷ []) next
next_piece {pieces} so_far piece e = record {
  bytes_are = e ∙ ap (λ (xs : List ℕ). xs ++ piece) so_far.bytes_are ∙ sym (concat-push pieces piece);
}

-- one more piece, of a list that is lent as a slice
pub next_list : {X : Type 0} {pieces : List (List ℕ)} {bytes next : List ℕ} → AreJoined pieces bytes →
    (spell : List X → List ℕ) {xs ys : List X} → xs ≡ ys → next ≡ bytes ++ spell xs → AreJoined (pieces ++ spell ys ∷ []) next
next_list {X = X} {bytes = bytes} so_far spell {ys = ys} lent e = next_piece so_far (spell ys) (e ∙ ap (λ (zs : List X). bytes ++ spell zs) lent)
