-- Cells that tile the words: each lies within them, no two share a word, and one more may be added at the end.
use Rattle.std.proofs.Common.{◌≡◌, ℕ, ◌+◌, ◌≤◌, List, [], ◌∷◌, ◌++◌, refl, sym, ◌∙◌, ap, arith, inl, inr, ◌⊎◌}
use Rattle.fm_cells.specs.Sizes.{class_words}
use Rattle.fm_cells.specs.inner.Layouts.{IsTiling, IsTile}

tiling-le : (from : ℕ) (tiles : List (ℕ × ℕ)) (to : ℕ) → IsTiling from tiles to → from ≤ to
tiling-le from [] to h = omega arith
tiling-le from (tile ∷ tiles) to h = let rest = tiling-le (from + class_words tile.1) tiles to h.2 in omega arith

-- a tile lies within the words, and has two or more
pub tile-within : (from : ℕ) (tiles : List (ℕ × ℕ)) (to cell k : ℕ) → IsTiling from tiles to → IsTile tiles cell k → (from ≤ cell) × (cell + class_words k ≤ to) × (2 ≤ class_words k)
tile-within from [] to cell k h is = absurd is
tile-within from (tile ∷ tiles) to cell k h (inl is) =
    let rest = tiling-le (from + class_words tile.1) tiles to h.2 in
    let words : class_words tile.1 ≡ class_words k = ap class_words is.1 in
    (omega (arith, h.0, is.0), omega (arith, h.0, is.0), omega (arith, h.1))
tile-within from (tile ∷ tiles) to cell k h (inr is) =
    let rest = tile-within (from + class_words tile.1) tiles to cell k h.2 is in
    (omega (arith, rest.0), rest.1, rest.2)

-- two tiles are one, or share no word
pub tile-apart : (from : ℕ) (tiles : List (ℕ × ℕ)) (to cell k other l : ℕ) → IsTiling from tiles to → IsTile tiles cell k → IsTile tiles other l → ((cell ≡ other) × (k ≡ l)) ⊎ ((cell + class_words k ≤ other) ⊎ (other + class_words l ≤ cell))
tile-apart from [] to cell k other l h is too = absurd is
tile-apart from (tile ∷ tiles) to cell k other l h (inl is) (inl too) = inl (sym is.0 ∙ too.0, sym is.1 ∙ too.1)
tile-apart from (tile ∷ tiles) to cell k other l h (inl is) (inr too) =
    let rest = tile-within (from + class_words tile.1) tiles to other l h.2 too in
    let words : class_words tile.1 ≡ class_words k = ap class_words is.1 in
    inr (inl (omega (arith, rest.0, h.0, is.0)))
tile-apart from (tile ∷ tiles) to cell k other l h (inr is) (inl too) =
    let rest = tile-within (from + class_words tile.1) tiles to cell k h.2 is in
    let words : class_words tile.1 ≡ class_words l = ap class_words too.1 in
    inr (inr (omega (arith, rest.0, h.0, too.0)))
tile-apart from (tile ∷ tiles) to cell k other l h (inr is) (inr too) = tile-apart (from + class_words tile.1) tiles to cell k other l h.2 is too

-- one more tile at the end
pub tiling-more : (from : ℕ) (tiles : List (ℕ × ℕ)) (to k : ℕ) → IsTiling from tiles to → 2 ≤ class_words k → IsTiling from (tiles ++ (to, k) ∷ []) (to + class_words k)
tiling-more from [] to k h wide = (sym h, wide, ap (λ n. n + class_words k) h)
tiling-more from (tile ∷ tiles) to k h wide = (h.0, h.1, tiling-more (from + class_words tile.1) tiles to k h.2 wide)

pub tile-more : (tiles : List (ℕ × ℕ)) (tile : ℕ × ℕ) (cell k : ℕ) → IsTile tiles cell k → IsTile (tiles ++ tile ∷ []) cell k
tile-more [] tile cell k is = absurd is
tile-more (first ∷ tiles) tile cell k (inl is) = inl is
tile-more (first ∷ tiles) tile cell k (inr is) = inr (tile-more tiles tile cell k is)

pub tile-last : (tiles : List (ℕ × ℕ)) (cell k : ℕ) → IsTile (tiles ++ (cell, k) ∷ []) cell k
tile-last [] cell k = inl (refl, refl)
tile-last (first ∷ tiles) cell k = inr (tile-last tiles cell k)

-- each tile but the last was there before
pub tile-before : (tiles : List (ℕ × ℕ)) (tile : ℕ × ℕ) (cell k : ℕ) → IsTile (tiles ++ tile ∷ []) cell k → IsTile tiles cell k ⊎ ((tile.0 ≡ cell) × (tile.1 ≡ k))
tile-before [] tile cell k (inl is) = inr is
tile-before [] tile cell k (inr is) = absurd is
tile-before (first ∷ tiles) tile cell k (inl is) = inl (inl is)
tile-before (first ∷ tiles) tile cell k (inr is) = elim (tile-before tiles tile cell k is) as (λ _. (((first.0 ≡ cell) × (first.1 ≡ k)) ⊎ IsTile tiles cell k) ⊎ ((tile.0 ≡ cell) × (tile.1 ≡ k))) [ inl h ↦ inl (inr h) | inr h ↦ inr h ]
