-- Lists that are cut at a length, or filled with 0 up to it.
use Rattle.std.proofs.Common.{◌≡◌, ◌⊎◌, inl, inr, ℕ, zero, suc, ◌-◌, List, [], ◌∷◌, ◌++◌, length, take, replicate, refl, ap, sym, ◌∙◌, subst, slice_index_or, take_all, arith, ⊎_elim}
use Rattle.std.proofs.lemmas.List.{append-nil, length-append, length-replicate, length-take}
use Rattle.fm_frames.specs.NativeRows.{resized}

-- what is cut or filled has the length
pub length-resized : (units : List ℕ) (len : ℕ) → length (resized units len) ≡ len
length-resized units len =
    omega (arith, length-append (take len units) (replicate (len - length units) 0), length-take len units, length-replicate {A = ℕ} (len - length units) 0)

-- a list of that length stays
pub resized-all : (units : List ℕ) (len : ℕ) → length units ≡ len → resized units len ≡ units
resized-all units len same =
    let none : len - length units ≡ 0 = omega (arith, same) in
    ap (λ n. take len units ++ replicate n 0) none ∙ append-nil (take len units) ∙ take_all len units (omega (arith, same))

-- a place holds what it held, or 0
abbrev pub IsAsBefore : List ℕ → List ℕ → ℕ → Type 0
IsAsBefore before after place = (slice_index_or after place 0 ≡ slice_index_or before place 0) ⊎ (slice_index_or after place 0 ≡ 0)

taken_where : (units : List ℕ) (count place : ℕ) → IsAsBefore units (take count units) place
taken_where units zero place = inr refl
taken_where [] (suc count) place = inr refl
taken_where (unit ∷ units) (suc count) zero = inl refl
taken_where (unit ∷ units) (suc count) (suc place) = taken_where units count place

zeros_where : (count place : ℕ) → ◌≡◌ {A = ℕ} (slice_index_or (replicate count 0) place 0) 0
zeros_where zero place = refl
zeros_where (suc count) zero = refl
zeros_where (suc count) (suc place) = zeros_where count place

filled_where : (units : List ℕ) (count place : ℕ) → IsAsBefore units (units ++ replicate count 0) place
filled_where [] count place = inr (zeros_where count place)
filled_where (unit ∷ units) count zero = inl refl
filled_where (unit ∷ units) count (suc place) = filled_where units count place

pub resized_where : (units : List ℕ) (len place : ℕ) → IsAsBefore units (resized units len) place
resized_where units len place =
    ⊎_elim
    (λ here. ⊎_elim (λ taken. inl (here ∙ taken)) (λ none. inr (here ∙ none)) (taken_where units len place))
    (λ none. inr none) (filled_where (take len units) (len - length units) place)

-- what holds of the places of two lists of one length, and of 0, holds of both where they are cut or filled
module _ (P : ℕ → ℕ → Type 0) (at_zero : P 0 0) where
  taken_both : (units others : List ℕ) (count place : ℕ) → length others ≡ length units
      → P (slice_index_or units place 0) (slice_index_or others place 0) → P (slice_index_or (take count units) place 0) (slice_index_or (take count others) place 0)
  taken_both units others zero place same h = at_zero
  taken_both [] [] (suc count) place same h = at_zero
  taken_both [] (other ∷ others) (suc count) place same h = absurd (omega (arith, same))
  taken_both (unit ∷ units) [] (suc count) place same h = absurd (omega (arith, same))
  taken_both (unit ∷ units) (other ∷ others) (suc count) zero same h = h
  taken_both (unit ∷ units) (other ∷ others) (suc count) (suc place) same h = taken_both units others count place (omega (arith, same)) h

  filled_both : (units others : List ℕ) (count place : ℕ) → length others ≡ length units
      → P (slice_index_or units place 0) (slice_index_or others place 0)
      → P (slice_index_or (units ++ replicate count 0) place 0) (slice_index_or (others ++ replicate count 0) place 0)
  filled_both [] [] count place same h = subst (λ n. P n n) (sym (zeros_where count place)) at_zero
  filled_both [] (other ∷ others) count place same h = absurd (omega (arith, same))
  filled_both (unit ∷ units) [] count place same h = absurd (omega (arith, same))
  filled_both (unit ∷ units) (other ∷ others) count zero same h = h
  filled_both (unit ∷ units) (other ∷ others) count (suc place) same h = filled_both units others count place (omega (arith, same)) h

  pub resized_both : (units others : List ℕ) (len place : ℕ) → length others ≡ length units
      → P (slice_index_or units place 0) (slice_index_or others place 0)
      → P (slice_index_or (resized units len) place 0) (slice_index_or (resized others len) place 0)
  resized_both units others len place same h =
      let lens : length (take len others) ≡ length (take len units) = omega (arith, length-take len others, length-take len units, same) in
      subst (λ count. P (slice_index_or (resized units len) place 0) (slice_index_or (take len others ++ replicate (len - count) 0) place 0)) (sym same)
      (filled_both (take len units) (take len others) (len - length units) place lens (taken_both units others len place same h))
