-- What the machine operations of two ints or longs give, in the words of the definitions.
use Rattle.std.proofs.Common.{◌≡◌, ℕ, zero, suc, ◌+◌, ◌≤◌, min, ℤ, pos, negsuc, ◌+ℤ◌, ◌-ℤ◌, ◌*ℤ◌, ap, ◌∙◌, arith}
use Rattle.std.specs.Prelude.{unsigned_abs, FitsSigned, bit_and, bit_or, bit_xor, int_div, int_rem}
use Rattle.std.specs.Int.{Width, cast_signed, int_wrapping_add, int_wrapping_sub, int_wrapping_mul, int_wrapping_div, int_bit_and, int_bit_or, int_bit_xor}
use Rattle.std.proofs.Math.Nat.{div-le_self, zero-div, zero-mod}
use Rattle.std.proofs.lemmas.Nat.{or_lt, xor_lt, and_le_l}
use Rattle.std.proofs.lemmas.Int.{ints, wrapping_add_is, wrapping_sub_is, wrapping_mul_is}
use mir.Val.{bits}
use mir.ValLaws.{pow-bits}
use lib.Signed.{mag}
use Rattle.fm_alu.specs.TwosComplement.{low_bits, signed}
use Rattle.fm_alu.specs.Operations.{quotient, remainder}
use Rattle.fm_alu.proofs.TwosComplementLemmas.{low_bits-lt, int_wrap-signed, cast_unsigned-fits, cast_both, cast_signed-pos}

-- ---- division, by the signs of the two numbers

-- 1 is the sign of a positive number
min-one : (n : ℕ) → min (suc n) 1 ≡ 1
min-one n = omega arith

-- std's quotient is the one of the magnitudes and signs
pub quotient-is : (a b : ℤ) → int_div a b ≡ quotient a b
unfolding quotient
quotient-is (pos zero) (pos b) = omega (arith, ints, zero-div b)
quotient-is (pos (suc a)) (pos zero) = omega (arith, ints)
quotient-is (pos (suc a)) (pos (suc b)) = rw (min-one a, min-one b) (omega (arith, ints))
quotient-is (pos zero) (negsuc b) = omega (arith, ints, zero-div (suc b))
quotient-is (pos (suc a)) (negsuc b) = rw (min-one a) (omega (arith, ints))
quotient-is (negsuc a) (pos zero) = omega (arith, ints)
quotient-is (negsuc a) (pos (suc b)) = rw (min-one b) (omega (arith, ints))
quotient-is (negsuc a) (negsuc b) = omega (arith, ints)

-- std's remainder is the one of the magnitudes, with the sign of the dividend
pub remainder-is : (a b : ℤ) → int_rem a b ≡ remainder a b
unfolding remainder
remainder-is (pos zero) b = omega (arith, ints, zero-mod (unsigned_abs b))
remainder-is (pos (suc a)) b = rw (min-one a) (omega (arith, ints))
remainder-is (negsuc a) b = omega (arith, ints)

-- the quotient is out of range by one at most
quotient_below : (a b : ℤ) → mag (int_div a b) ≤ mag a + 1
quotient_below (pos a) (pos b) = omega (arith, div-le_self a b)
quotient_below (pos a) (negsuc b) = omega (arith, ints, div-le_self a (suc b))
quotient_below (negsuc a) (pos b) = omega (arith, ints, div-le_self (suc a) b)
quotient_below (negsuc a) (negsuc b) = omega (arith, div-le_self (suc a) (suc b))

-- ---- the rows, of two values a and b of a signed type

module _ (w : Width) (a b : ℤ) (f : FitsSigned w a) (g : FitsSigned w b) where
  pub sum-is : int_wrapping_add w a b ≡ signed (bits w) (a +ℤ b)
  sum-is = wrapping_add_is w a b f g ∙ int_wrap-signed w (a +ℤ b)

  pub difference-is : int_wrapping_sub w a b ≡ signed (bits w) (a -ℤ b)
  difference-is = wrapping_sub_is w a b f g ∙ int_wrap-signed w (a -ℤ b)

  pub product-is : int_wrapping_mul w a b ≡ signed (bits w) (a *ℤ b)
  product-is = wrapping_mul_is w a b f g ∙ int_wrap-signed w (a *ℤ b)

  pub division-is : int_wrapping_div w a b ≡ signed (bits w) (quotient a b)
  division-is = cast_both w (int_div a b) (omega (arith, quotient_below a b, f.sfits, pow-bits w)) ∙ ap (signed (bits w)) (quotient-is a b)

  pub conjunction-is : int_bit_and w a b ≡ signed (bits w) (pos (bit_and (low_bits (bits w) a) (low_bits (bits w) b)))
  conjunction-is = (λ i. cast_signed w (bit_and (cast_unsigned-fits w a f i) (cast_unsigned-fits w b g i)))
      ∙ cast_signed-pos w _ (omega (arith, and_le_l (low_bits (bits w) a) (low_bits (bits w) b), low_bits-lt (bits w) a))

  pub disjunction-is : int_bit_or w a b ≡ signed (bits w) (pos (bit_or (low_bits (bits w) a) (low_bits (bits w) b)))
  disjunction-is = (λ i. cast_signed w (bit_or (cast_unsigned-fits w a f i) (cast_unsigned-fits w b g i)))
      ∙ cast_signed-pos w _ (or_lt (bits w) _ _ (low_bits-lt (bits w) a) (low_bits-lt (bits w) b))

  pub exclusive-is : int_bit_xor w a b ≡ signed (bits w) (pos (bit_xor (low_bits (bits w) a) (low_bits (bits w) b)))
  exclusive-is = (λ i. cast_signed w (bit_xor (cast_unsigned-fits w a f i) (cast_unsigned-fits w b g i)))
      ∙ cast_signed-pos w _ (xor_lt (bits w) _ _ (low_bits-lt (bits w) a) (low_bits-lt (bits w) b))
