-- What the machine's shifts give, in the words of the definitions.
use Rattle.std.proofs.Common.{◌≡◌, ℕ, ◌/◌, ◌%◌, ◌^◌, ◌<◌, ◌≤◌, ℤ, pos, negsuc, ◌*ℤ◌, refl, sym, ap, subst, ◌∙◌, arith}
use Rattle.std.specs.Prelude.{FitsSigned}
use Rattle.std.specs.Int.{Width, w32, cast_signed, cast_unsigned, int_wrap, int_shl, int_shr}
use Rattle.std.proofs.lemmas.Nat.{pow_below, shr_le}
use Rattle.std.proofs.lemmas.Int.{to_z-of_z, wrapping_mul-bits, int_wrap-mul_right}
use mir.Val.{bits}
use mir.ValLaws.{sfits_le}
use lib.Signed.{mag_shr}
use Rattle.fm_alu.specs.TwosComplement.{low_bits, signed}
use Rattle.fm_alu.specs.Shifts.{floor_quotient}
use Rattle.fm_alu.proofs.TwosComplementLemmas.{low_bits-lt, int_wrap-signed, cast_unsigned-fits, cast_unsigned-mod, cast_signed-pos}

-- std's shift with copies of the sign rounds down
floor_quotient-is : (a : ℤ) (k : ℕ) → int_shr a k ≡ floor_quotient a (2 ^ k)
unfolding floor_quotient
floor_quotient-is (pos a) k = refl
floor_quotient-is (negsuc a) k = refl

-- ---- the three shifts of a value a of a signed type by k bits

module _ (w : Width) (a : ℤ) (f : FitsSigned w a) (k : ℕ) where
  pub left-is : k < bits w → int_shl w a k ≡ signed (bits w) (a *ℤ pos (2 ^ k))
  left-is h = by (int_wrap-signed w (pos (2 ^ k)) ∙ sym (cast_signed-pos w (2 ^ k) small))
    where
      small : 2 ^ k < 2 ^ bits w
      small = pow_below k (bits w) h

      low : cast_unsigned w a < 2 ^ bits w
      low = subst (λ (n : ℕ). n < 2 ^ bits w) (sym (cast_unsigned-fits w a f)) (low_bits-lt (bits w) a)

      by : int_wrap w (pos (2 ^ k)) ≡ cast_signed w (2 ^ k) → int_shl w a k ≡ signed (bits w) (a *ℤ pos (2 ^ k))
      by e = wrapping_mul-bits w (cast_unsigned w a) (2 ^ k) low small
          ∙ ap (λ z. int_wrap w (z *ℤ cast_signed w (2 ^ k))) (to_z-of_z w a f)
          ∙ ap (λ z. int_wrap w (a *ℤ z)) (sym e) ∙ int_wrap-mul_right w a (pos (2 ^ k))
          ∙ int_wrap-signed w _

  pub right-is : cast_signed w (cast_unsigned w (int_shr (cast_signed w (cast_unsigned w a)) k)) ≡ floor_quotient a (2 ^ k)
  right-is = (λ i. cast_signed w (cast_unsigned w (int_shr (to_z-of_z w a f i) k)))
      ∙ to_z-of_z w (int_shr a k) (sfits_le (mag_shr a (2 ^ k)) f) ∙ floor_quotient-is a k

  pub right_with_zeros-is : cast_signed w (cast_unsigned w a / 2 ^ k) ≡ signed (bits w) (pos (low_bits (bits w) a / 2 ^ k))
  right_with_zeros-is = ap (λ n. cast_signed w (n / 2 ^ k)) (cast_unsigned-fits w a f)
      ∙ cast_signed-pos w _ (omega (arith, low_bits-lt (bits w) a, shr_le (low_bits (bits w) a) k))

-- ---- the count, as the code takes it from the bits of an int

-- the count's low k bits, from what the code computes
count-is : (n : ℤ) (k r : ℕ) → k ≤ 32 → FitsSigned w32 n → r ≡ cast_unsigned w32 (cast_signed w32 (cast_unsigned w32 n)) → r % 2 ^ k ≡ low_bits k n
count-is n k r h f e = ap (λ m. m % 2 ^ k) (e ∙ ap (cast_unsigned w32) (to_z-of_z w32 n f)) ∙ cast_unsigned-mod w32 n k h f

-- the count of an int
pub count_5 : (n : ℤ) (r : ℕ) → FitsSigned w32 n → r ≡ cast_unsigned w32 (cast_signed w32 (cast_unsigned w32 n)) → r % 32 ≡ low_bits 5 n
count_5 n r f e = count-is n 5 r (omega arith) f e

-- the count of a long
pub count_6 : (n : ℤ) (r : ℕ) → FitsSigned w32 n → r ≡ cast_unsigned w32 (cast_signed w32 (cast_unsigned w32 n)) → r % 64 ≡ low_bits 6 n
count_6 n r f e = count-is n 6 r (omega arith) f e
