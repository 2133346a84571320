-- The first place at which a test passes, by a list or by numbers alone.
use Rattle.std.proofs.Common.{◌≡◌, refl, sym, ◌∙◌, ap, subst, ℕ, zero, suc, ◌+◌, ◌<◌, ◌≤◌, Bool, true, false, cond, List, [], ◌∷◌, length, get_or, Option, Some, None, arith, ◌⊎◌, inl, inr}
use Rattle.std.specs.List.{position_from}
use Rattle.std.proofs.lemmas.Bool.{false≢true, cases_lt}
use Rattle.fm_link_members.specs.inner.MemberTables.{first_from}

-- the first number below a bound that passes, or none
abbrev pub IsFirst : (ℕ → Bool) → ℕ → ℕ → Option ℕ → Type 0
IsFirst p start end None = (k : ℕ) → start ≤ k → k < end → p k ≡ false
IsFirst p start end (Some i) = (start ≤ i) × (i < end) × (p i ≡ true) × ((k : ℕ) → start ≤ k → k < i → p k ≡ false)

-- ---- the only one that passes is the first

same_place : (p q : ℕ → Bool) (start end i j : ℕ) → ((k : ℕ) → start ≤ k → k < end → p k ≡ q k) → IsFirst p start end (Some i)
    → IsFirst q start end (Some j) → Some i ≡ Some j
same_place p q start end i j same a b = by_order (cases_lt i j) (cases_lt j i) where
  earlier : i < j → false ≡ true
  earlier h = sym (b.3 i a.0 h) ∙ sym (same i a.0 a.1) ∙ a.2

  later : j < i → false ≡ true
  later h = sym (a.3 j b.0 h) ∙ same j b.0 b.1 ∙ b.2

  by_order : (i < j) ⊎ (j ≤ i) → (j < i) ⊎ (i ≤ j) → Some i ≡ Some j
  by_order (inl h) other = absurd (false≢true (earlier h))
  by_order (inr h) (inl g) = absurd (false≢true (later g))
  by_order (inr h) (inr g) = ap (λ n. Some n) (omega (arith, h, g))

pub first_is_one : (p q : ℕ → Bool) (start end : ℕ) (a b : Option ℕ) → ((k : ℕ) → start ≤ k → k < end → p k ≡ q k) → IsFirst p start end a
    → IsFirst q start end b → a ≡ b
first_is_one p q start end None None same a b = refl
first_is_one p q start end None (Some j) same a b = absurd (false≢true (sym (a j b.0 b.1) ∙ same j b.0 b.1 ∙ b.2))
first_is_one p q start end (Some i) None same a b = absurd (false≢true (sym (b i a.0 a.1) ∙ sym (same i a.0 a.1) ∙ a.2))
first_is_one p q start end (Some i) (Some j) same a b = same_place p q start end i j same a b

-- ---- by numbers

found_later : (p : ℕ → Bool) (start end : ℕ) (r : Option ℕ) → start < end → p start ≡ false → IsFirst p (suc start) end r → IsFirst p start end r
found_later p start end None within h is = λ k from below. by_start k below (cases_lt start k) from where
  by_start : (k : ℕ) → k < end → (start < k) ⊎ (k ≤ start) → start ≤ k → p k ≡ false
  by_start k below (inl g) from = is k (omega (arith, g)) below
  by_start k below (inr g) from = ap p (omega (arith, g, from)) ∙ h
found_later p start end (Some i) within h is =
    (omega (arith, is.0), is.1, is.2, λ k from below. by_start k below (cases_lt start k) from) where
      by_start : (k : ℕ) → k < i → (start < k) ⊎ (k ≤ start) → start ≤ k → p k ≡ false
      by_start k below (inl g) from = is.3 k (omega (arith, g)) below
      by_start k below (inr g) from = ap p (omega (arith, g, from)) ∙ h

pub first_from-is : (p : ℕ → Bool) (count start end : ℕ) → end ≡ start + count → IsFirst p start end (first_from p count start)
first_from-is p zero start end e = λ k from below. absurd (omega (arith, e, from, below))
first_from-is p (suc count) start end e = by_test (first_from-is p count (suc start) end (omega (arith, e))) (p start) refl where
  by_test : IsFirst p (suc start) end (first_from p count (suc start)) → (b : Bool) → p start ≡ b
      → IsFirst p start end (cond b (Some start) (first_from p count (suc start)))
  by_test rest true h = (omega arith, omega (arith, e), h, λ k from below. absurd (omega (arith, from, below)))
  by_test rest false h = found_later p start end (first_from p count (suc start)) (omega (arith, e)) h rest

-- ---- by a list

pub position-is : {A : Type 0} (p : A → Bool) (xs : List A) (i : ℕ) (d : A) (q : ℕ → Bool) (end : ℕ) → end ≡ i + length xs
    → ((k : ℕ) → k < length xs → q (i + k) ≡ p (get_or xs k d)) → IsFirst q i end (position_from p i xs)
position-is p [] i d q end e same = λ k from below. absurd (omega (arith, e, from, below))
position-is p (x ∷ xs) i d q end e same =
    by_test (position-is p xs (i + 1) d q end (omega (arith, e)) (λ k below. ap q (omega arith) ∙ same (suc k) (omega (arith, below)))) (p x) refl
  where
    here : q i ≡ p x
    here = ap q (omega arith) ∙ same 0 (omega arith)

    from_next : IsFirst q (i + 1) end (position_from p (i + 1) xs) → IsFirst q (suc i) end (position_from p (i + 1) xs)
    from_next rest = (let P : ℕ → Type 0 = λ n. IsFirst q n end (position_from p (i + 1) xs) in subst P (omega arith) rest)

    by_test : IsFirst q (i + 1) end (position_from p (i + 1) xs) → (b : Bool) → p x ≡ b
        → IsFirst q i end (cond b (Some i) (position_from p (i + 1) xs))
    by_test rest true h = (omega arith, omega (arith, e), here ∙ h, λ k from below. absurd (omega (arith, from, below)))
    by_test rest false h = found_later q i end (position_from p (i + 1) xs) (omega (arith, e)) (here ∙ h) (from_next rest)
