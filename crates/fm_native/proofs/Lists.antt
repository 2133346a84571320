-- Texts that are gone over unit by unit.
use Rattle.std.proofs.Common.{◌≡◌, ℕ, suc, ◌<◌, ◌≤◌, ◌-◌, min, ◌==◌, ℤ, pos, ◌+ℤ◌, ◌-ℤ◌, ◌*ℤ◌, true, false, if◌then◌else◌, List, [], ◌∷◌, ◌++◌, length, take, drop, get_or, refl, ap, sym, ◌∙◌, arith, length-drop, ◌⊎◌, inl, inr}
use Rattle.std.proofs.Math.Seq.{drop-cons, take-suc}
use Rattle.std.proofs.lemmas.Bool.{cases_lt}
use Rattle.std.proofs.lemmas.Int.{ints}
use Rattle.fm_alu.specs.TwosComplement.{signed}
use Rattle.fm_frames.specs.NativeRows.{compared, hash_from}

-- the hash of what is left, after one unit more
pub hash-next : (sum next : ℤ) (units : List ℕ) (i unit : ℕ) → i < length units → unit ≡ get_or units i 0
    → next ≡ signed 32 (pos 31 *ℤ sum +ℤ pos unit) → hash_from sum (drop i units) ≡ hash_from next (drop (suc i) units)
hash-next sum next units i unit within is told =
    ap (hash_from sum) (drop-cons units i 0 within)
    ∙ ap (λ n. hash_from n (drop (suc i) units)) (ap (λ u. signed 32 (pos 31 *ℤ sum +ℤ pos u)) (sym is) ∙ sym told)

-- one equal unit more
pub compared-next : (units others : List ℕ) (i : ℕ) → i < length units → i < length others → (get_or units i 0 == get_or others i 0) ≡ true
    → compared (drop i units) (drop i others) ≡ compared (drop (suc i) units) (drop (suc i) others)
compared-next units others i within within' same =
    (λ j. compared (drop-cons units i 0 within j) (drop-cons others i 0 within' j))
    ∙ ap (λ b. if b then compared (drop (suc i) units) (drop (suc i) others) else (pos (get_or units i 0) -ℤ pos (get_or others i 0))) same

-- the first units that differ
pub compared-differ : (units others : List ℕ) (i : ℕ) → i < length units → i < length others → (get_or units i 0 == get_or others i 0) ≡ false
    → compared (drop i units) (drop i others) ≡ (pos (get_or units i 0) -ℤ pos (get_or others i 0))
compared-differ units others i within within' differ =
    (λ j. compared (drop-cons units i 0 within j) (drop-cons others i 0 within' j))
    ∙ ap (λ b. if b then compared (drop (suc i) units) (drop (suc i) others) else (pos (get_or units i 0) -ℤ pos (get_or others i 0))) differ

-- one of the texts is gone over
pub compared-end : (units others : List ℕ) → (length units ≡ 0) ⊎ (length others ≡ 0) → compared units others ≡ (pos (length units) -ℤ pos (length others))
compared-end [] others e = refl
compared-end (u ∷ us) [] e = omega (arith, ints)
compared-end (u ∷ us) (v ∷ vs) (inl e) = absurd (omega (arith, e))
compared-end (u ∷ us) (v ∷ vs) (inr e) = absurd (omega (arith, e))

-- the shorter text is gone over
pub compared-rest : (units others : List ℕ) (i : ℕ) → i ≤ length units → i ≤ length others → min (length units) (length others) ≤ i
    → compared (drop i units) (drop i others) ≡ (pos (length units) -ℤ pos (length others))
compared-rest units others i within within' end =
    compared-end (drop i units) (drop i others) (side (cases_lt (length units) (length others)))
    ∙ (λ j. pos (length-drop i units j) -ℤ pos (length-drop i others j))
    ∙ same (length units) (length others) within within' where
      side : (length units < length others) ⊎ (length others ≤ length units) → (length (drop i units) ≡ 0) ⊎ (length (drop i others) ≡ 0)
      side (inl h) = inl (omega (arith, length-drop i units))
      side (inr h) = inr (omega (arith, length-drop i others))

      same : (a b : ℕ) → i ≤ a → i ≤ b → (pos (a - i) -ℤ pos (b - i)) ≡ (pos a -ℤ pos b)
      same a b h h' = omega (arith, ints)

-- one unit more of a text that is read
pub read-next : (units : List ℕ) (so_far : List ℕ) (i unit : ℕ) → i < length units → unit ≡ get_or units i 0 → so_far ≡ take i units
    → so_far ++ unit ∷ [] ≡ take (suc i) units
read-next units so_far i unit within is done =
    ap (λ xs. xs ++ unit ∷ []) done ∙ ap (λ u. take i units ++ u ∷ []) is ∙ sym (take-suc units i 0 within)
