-- Pieces that are put one after the other. For the crates above, too.
use Rattle.std.proofs.Common.{◌≡◌, ℕ, inl, inr, List, [], ◌∷◌, ◌++◌, refl, sym, ap, ◌∙◌, subst, append_assoc, append-nil}
use Rattle.std.specs.Prelude.{Option, Some, None, option_map}
use Rattle.std.specs.List.{concat}
use Rattle.std.proofs.lemmas.List.Folds.{concat-append}
use Rattle.fm_files.specs.Sink.{FailsPiece, GetsAtMostOne, GetsPieces, Got, Output, got_piece, got_pieces, with_piece, with_pieces}

-- no piece
pub with_pieces-nil : (o : Output) → with_pieces [] o ≡ o
with_pieces-nil o = ap (λ got. record o { got = got }) (same o.got)
  where
    same : (g : Option Got) → option_map (λ got. got_pieces got []) g ≡ g
    same None = refl
    same (Some got) = λ i. Some (record { pieces = append-nil got.pieces i; bytes = append-nil got.bytes i })

-- one piece
pub with_piece-is : (piece : List ℕ) (o : Output) → with_piece piece o ≡ with_pieces (piece ∷ []) o
with_piece-is piece o = ap (λ got. record o { got = got }) (same o.got)
  where
    same : (g : Option Got) → option_map (λ got. got_piece got piece) g ≡ option_map (λ got. got_pieces got (piece ∷ [])) g
    same None = refl
    same (Some got) = λ i. Some (record { pieces = got.pieces ++ piece ∷ []; bytes = got.bytes ++ sym (append-nil piece) i })

-- pieces after pieces
pub with_pieces-append : (a b : List (List ℕ)) (o : Output) → with_pieces b (with_pieces a o) ≡ with_pieces (a ++ b) o
with_pieces-append a b o = ap (λ got. record o { got = got }) (same o.got)
  where
    joined : (xs : List ℕ) → (xs ++ concat a) ++ concat b ≡ xs ++ concat (a ++ b)
    joined xs = append_assoc xs (concat a) (concat b) ∙ ap (λ ys. xs ++ ys) (sym (concat-append a b))

    same : (g : Option Got) → option_map {U = Got} (λ got. got_pieces got b) (option_map {U = Got} (λ got. got_pieces got a) g) ≡ option_map (λ got. got_pieces got (a ++ b)) g
    same None = refl
    same (Some got) = λ i. Some (record { pieces = append_assoc got.pieces a b i; bytes = joined got.bytes i })

-- at most one piece is some pieces
pub at_most_one : (old new : Output) → GetsAtMostOne old new → GetsPieces old new
at_most_one old new (inl same) = record { pieces = []; some = tt; last = inl (same ∙ sym (with_pieces-nil old)) }
at_most_one old new (inr (piece, inl gets)) = record { pieces = piece ∷ []; some = (gets.0, tt); last = inl (gets.1 ∙ with_piece-is piece old) }
at_most_one old new (inr (piece, inr fails)) =
    let From : Output → Type 0 = λ o. FailsPiece piece o new in
    record { pieces = []; some = tt; last = inr (piece, subst From (sym (with_pieces-nil old)) fails) }
