-- The results of the definitions satisfy what the specification says of them.
use Rattle.std.proofs.Common.{◌≡◌, ℕ, zero, suc, ◌-◌, ◌*◌, ◌/◌, ◌%◌, ◌+◌, ◌^◌, ◌<◌, min, max, Bool, true, false, cond, ltb, nat_eq, ℤ, pos, negsuc, ◌+ℤ◌, ◌-ℤ◌, ◌*ℤ◌, ◌<ℤ◌, neg_ℤ, refl, sym, ap, ap₂, subst, ◌∙◌, arith, Some, None}
use Rattle.std.specs.Prelude.{unsigned_abs, bit_and, bit_or, bit_xor, int_rem}
use Rattle.std.specs.Int.{bit_at}
use Rattle.std.proofs.Math.Nat.{mod-lt, mod-eq_of_lt, div-add-mod', zero-mod}
use Rattle.std.proofs.lemmas.Nat.{pow_pos, field_of, and_le_l, or_lt, xor_lt}
use Rattle.std.proofs.lemmas.Nat.Bits.{bit_at_and, bit_at_or, bit_at_xor}
use Rattle.std.proofs.lemmas.Int.{ints, quot-rem, rem_below}
use Rattle.std.proofs.lemmas.Bool.{eqb-false}
use Rattle.fm_code.specs.declared.operations.Op.{Op}
use Rattle.fm_code.specs.declared.operations.Op.TheVariants.{Add, Sub, Mul, Div, Rem, And, Or, Xor}
use Rattle.fm_alu.specs.TwosComplement.{low_bits, signed}
use Rattle.fm_alu.specs.Operations.{quotient, remainder, unless_zero, result_of_op}
use Rattle.fm_alu.specs.Shifts.{floor_quotient}
use Rattle.fm_alu.specs.Laws.{IsCongruent, bit, IsRemainder, Satisfies, IsFloor}
use Rattle.fm_alu.proofs.TwosComplementLemmas.{low_bits-lt, low_bits-mod, low_bits-signed}
use Rattle.fm_alu.proofs.OperationsLemmas.{quotient-is, remainder-is}

-- ---- congruence

-- a product with a negative number
minus_times : (q m : ℕ) → neg_ℤ (pos q) *ℤ pos m ≡ neg_ℤ (pos (q * m))
minus_times zero m = omega (arith, ints)
minus_times (suc q) m = refl

-- one less of a factor is one of the other less in the product
one_less : (k : ℤ) (m : ℕ) → (k -ℤ pos 1) *ℤ pos m ≡ k *ℤ pos m -ℤ pos m
one_less (pos zero) m = omega (arith, ints)
one_less (pos (suc k)) m =
    let less : pos (suc k) -ℤ pos 1 ≡ pos k = omega (arith, ints) in
    rw less (omega (arith, ints))
one_less (negsuc k) m = omega (arith, ints)

-- the low n bits of z differ from z by a multiple of 2 ^ n
pub low_bits_congruent : (n : ℕ) (z : ℤ) → IsCongruent n (pos (low_bits n z)) z
unfolding low_bits
low_bits_congruent n (pos a) = (neg_ℤ (pos (a / 2 ^ n)), rw minus_times (omega (arith, ints, div-add-mod' a (2 ^ n))))
low_bits_congruent n (negsuc a) =
    (pos (a / 2 ^ n + 1), omega (arith, ints, div-add-mod' a (2 ^ n), mod-lt a (pow_pos n)))

-- the same number taken from both sides
less : (x z s m : ℤ) → x ≡ z +ℤ s → x -ℤ m ≡ z +ℤ (s -ℤ m)
less x z s m e = omega (arith, ints)

-- and so does each of the two readings with a sign
read_congruent : (n m : ℕ) (z : ℤ) → IsCongruent n (pos m) z → (t : Bool) → IsCongruent n (cond t (pos m) (pos m -ℤ pos (2 ^ n))) z
read_congruent n m z c true = c
read_congruent n m z c false = let e = c.1 in (c.0 -ℤ pos 1, rw one_less (less (pos m) z (c.0 *ℤ pos (2 ^ n)) (pos (2 ^ n)) e))

-- the reading with a sign differs from z by a multiple of 2 ^ n
pub signed_congruent : (n : ℕ) (z : ℤ) → IsCongruent n (signed n z) z
unfolding signed
signed_congruent n z = read_congruent n (low_bits n z) z (low_bits_congruent n z) (ltb (low_bits n z) (2 ^ (n - 1)))

-- ---- the remainder

-- a negative remainder is of a negative number
sign_below : (a b : ℤ) → int_rem a b <ℤ pos 0 → a <ℤ pos 0
sign_below (pos a) b h = absurd (omega (arith, ints))
sign_below (negsuc a) b h = omega (arith, ints)

-- a positive remainder is of a positive number
sign_above : (a b : ℤ) → pos 0 <ℤ int_rem a b → pos 0 <ℤ a
sign_above (pos zero) b h = absurd (omega (arith, ints, zero-mod (unsigned_abs b)))
sign_above (pos (suc a)) b h = omega (arith, ints)
sign_above (negsuc a) b h = omega (arith, ints)

-- the remainder of the definitions is what the division leaves over
pub remains : (a b : ℤ) → 0 < unsigned_abs b → IsRemainder a b (remainder a b)
remains a b h = subst (IsRemainder a b) (remainder-is a b) record {
  makes_dividend = subst (λ (q : ℤ). q *ℤ b +ℤ int_rem a b ≡ a) (quotient-is a b) (quot-rem a b);
  smaller = rem_below a b h;
  negative = sign_below a b;
  positive = sign_above a b;
}

-- ---- the bits

-- bit i is among the low w bits
bit-low : (w : ℕ) (z : ℤ) (i : ℕ) → i < w → bit z i ≡ bit_at (low_bits w z) i
bit-low w z i h =
    let order : i + 1 ≡ 1 + i = omega arith in
    ap (λ n. n / 2 ^ i) (sym (low_bits-mod w (i + 1) z (omega arith)))
    ∙ ap (λ k. low_bits w z % 2 ^ k / 2 ^ i) order ∙ field_of (low_bits w z) 1 i

-- a reading with a sign has the bits of what is read
bit-signed : (w m i : ℕ) → i < w → m < 2 ^ w → bit (signed w (pos m)) i ≡ bit_at m i
unfolding low_bits
bit-signed w m i h small =
    ap (λ n. n / 2 ^ i) (low_bits-signed w (i + 1) (pos m) (omega arith)) ∙ bit-low w (pos m) i h
    ∙ ap (λ n. bit_at n i) (mod-eq_of_lt small)

-- each of the three logical operations works on each bit alone
pub and_by_bits : (w : ℕ) (a b : ℤ) (i : ℕ) → i < w → bit (signed w (pos (bit_and (low_bits w a) (low_bits w b)))) i ≡ min (bit a i) (bit b i)
and_by_bits w a b i h =
    bit-signed w (bit_and (low_bits w a) (low_bits w b)) i h (omega (arith, and_le_l (low_bits w a) (low_bits w b), low_bits-lt w a))
    ∙ bit_at_and (low_bits w a) (low_bits w b) i ∙ sym (ap₂ min (bit-low w a i h) (bit-low w b i h))

pub or_by_bits : (w : ℕ) (a b : ℤ) (i : ℕ) → i < w → bit (signed w (pos (bit_or (low_bits w a) (low_bits w b)))) i ≡ max (bit a i) (bit b i)
or_by_bits w a b i h =
    bit-signed w (bit_or (low_bits w a) (low_bits w b)) i h (or_lt w _ _ (low_bits-lt w a) (low_bits-lt w b))
    ∙ bit_at_or (low_bits w a) (low_bits w b) i ∙ sym (ap₂ max (bit-low w a i h) (bit-low w b i h))

pub xor_by_bits : (w : ℕ) (a b : ℤ) (i : ℕ) → i < w → bit (signed w (pos (bit_xor (low_bits w a) (low_bits w b)))) i ≡ (bit a i + bit b i) % 2
xor_by_bits w a b i h =
    bit-signed w (bit_xor (low_bits w a) (low_bits w b)) i h (xor_lt w _ _ (low_bits-lt w a) (low_bits-lt w b))
    ∙ bit_at_xor (low_bits w a) (low_bits w b) i ∙ sym (ap₂ (λ x y. (x + y) % 2) (bit-low w a i h) (bit-low w b i h))

-- ---- each row

-- a division with a result has a divisor other than 0
by_nonzero : (b z r : ℤ) → unless_zero b z ≡ Some r → (z ≡ r) × (0 < unsigned_abs b)
by_nonzero b z r = by (nat_eq (unsigned_abs b) 0) refl
  where
    by : (t : Bool) → nat_eq (unsigned_abs b) 0 ≡ t → cond t None (Some z) ≡ Some r → (z ≡ r) × (0 < unsigned_abs b)
    by true is e = absurd (cc)
    by false is e = (cc, omega (arith, eqb-false (unsigned_abs b) 0 is))

-- each result satisfies what the specification says of it
pub satisfied : (op : Op) (w : ℕ) (a b r : ℤ) → result_of_op op w a b ≡ Some r → Satisfies op w a b r
satisfied Add w a b r e = subst (λ (z : ℤ). IsCongruent w z (a +ℤ b)) (cc) (signed_congruent w (a +ℤ b))
satisfied Sub w a b r e = subst (λ (z : ℤ). IsCongruent w z (a -ℤ b)) (cc) (signed_congruent w (a -ℤ b))
satisfied Mul w a b r e = subst (λ (z : ℤ). IsCongruent w z (a *ℤ b)) (cc) (signed_congruent w (a *ℤ b))
satisfied Div w a b r e =
    subst (λ (z : ℤ). IsCongruent w z (quotient a b)) (by_nonzero b _ r e).0 (signed_congruent w (quotient a b))
satisfied Rem w a b r e = let n = by_nonzero b _ r e in subst (IsRemainder a b) n.0 (remains a b n.1)
satisfied And w a b r e = λ i h. subst (λ (z : ℤ). bit z i ≡ min (bit a i) (bit b i)) (cc) (and_by_bits w a b i h)
satisfied Or w a b r e = λ i h. subst (λ (z : ℤ). bit z i ≡ max (bit a i) (bit b i)) (cc) (or_by_bits w a b i h)
satisfied Xor w a b r e = λ i h. subst (λ (z : ℤ). bit z i ≡ (bit a i + bit b i) % 2) (cc) (xor_by_bits w a b i h)

-- ---- the quotient that is rounded down

-- the quotient that is rounded down is the floor
pub floors : (a : ℤ) (d : ℕ) → 0 < d → IsFloor a d (floor_quotient a d)
unfolding floor_quotient
floors (pos a) d h = record { at_most = omega (arith, ints, div-add-mod' a d); next_above = omega (arith, ints, div-add-mod' a d, mod-lt a h) }
floors (negsuc a) d h =
    let next : negsuc (a / d) +ℤ pos 1 ≡ neg_ℤ (pos (a / d)) = omega (arith, ints) in
    record {
      at_most = omega (arith, ints, div-add-mod' a d, mod-lt a h);
      next_above = rw (next, minus_times) (omega (arith, ints, div-add-mod' a d));
    }
