-- What a shift to the left and back to the right gives: the low bits, read with a sign.
use Rattle.std.proofs.Common.{◌≡◌, ℕ, suc, ◌-◌, ◌*◌, ◌/◌, ◌%◌, ◌+◌, ◌^◌, ◌<◌, ◌≤◌, Bool, true, false, cond, ltb, ℤ, pos, negsuc, ◌-ℤ◌, refl, sym, ap, ◌∙◌, arith}
use Rattle.std.specs.Prelude.{FitsSigned, bit_and}
use Rattle.std.specs.Int.{w64, cast_signed, cast_unsigned, int_shl, int_shr}
use Rattle.std.proofs.Math.Nat.{mod-lt, mul-le-mul_right, div-add-mod'}
use Rattle.std.proofs.lemmas.Nat.{pow_pos, pow-add, shl-shr, shr_high, mod-mul-add, and_mask}
use Rattle.std.proofs.lemmas.Int.{ints, to_z-of_z, to_z_pos}
use borrow.Author.Tests.{ltb-true, ltb-false}
use mir.ValLaws.{to_z-neg, to_z-Fits, Fits-wrap, sfits_le}
use lib.Signed.{mag_shr}
use Rattle.fm_alu.specs.TwosComplement.{low_bits, signed}
use Rattle.fm_alu.proofs.TwosComplementLemmas.{low_bits-lt, cast_unsigned-mod, doubled}

-- the bits m of a number of which h is half of the range, moved g places up to the top of a long and back
back : (g h m : ℕ) → h * 2 ^ g ≡ 2 ^ 63 → m < h + h → (t : Bool) → ltb m h ≡ t
    → int_shr (cast_signed w64 (m * 2 ^ g)) g ≡ cond t (pos m) (pos m -ℤ pos (h + h))
back g h m top low true e =
    let below : suc m * 2 ^ g ≤ h * 2 ^ g = mul-le-mul_right (2 ^ g) (ltb-true m h e) in
    let some = pow_pos g in
    ap (λ z. int_shr z g) (to_z_pos w64 (m * 2 ^ g) (omega arith)) ∙ ap pos (shl-shr m g)
back g h m top low false e =
    let j = h + h - suc m in
    let some = pow_pos g in
    let sum : (m + j + 1) * 2 ^ g ≡ (h + h) * 2 ^ g = ap (λ n. n * 2 ^ g) (omega arith) in
    let above : suc j * 2 ^ g ≤ h * 2 ^ g = mul-le-mul_right (2 ^ g) (omega (arith, ltb-false m h e)) in
    let k = j * 2 ^ g + (2 ^ g - 1) in
    let bits : m * 2 ^ g ≡ 2 ^ 64 - suc k = omega arith in
    ap (λ n. int_shr (cast_signed w64 n) g) bits
    ∙ ap (λ z. int_shr z g) (to_z-neg w64 k (omega arith))
    ∙ ap negsuc (shr_high j g (2 ^ g - 1) (omega arith)) ∙ omega (arith, ints)

-- the low 64 bits of a number moved g places up are its low 64 − g bits, moved
low_product : (u n g : ℕ) → n + g ≡ 64 → (u * 2 ^ g) % 2 ^ 64 ≡ (u % 2 ^ n) * 2 ^ g
low_product u n g e =
    let whole : 2 ^ n * 2 ^ g ≡ 2 ^ 64 = sym (pow-add 2 n g) ∙ ap (λ k. 2 ^ k) e in
    let r = u % 2 ^ n in
    let q = u / 2 ^ n in
    let split : u ≡ q * 2 ^ n + r = sym (div-add-mod' u (2 ^ n)) in
    let product : u * 2 ^ g ≡ q * (2 ^ n * 2 ^ g) + r * 2 ^ g = ap (λ x. x * 2 ^ g) split ∙ omega arith in
    let small : suc r * 2 ^ g ≤ 2 ^ n * 2 ^ g = mul-le-mul_right (2 ^ g) (mod-lt u (pow_pos n)) in
    let some = pow_pos g in
    ap (λ x. x % 2 ^ 64) product ∙ ap (λ m. (q * (2 ^ n * 2 ^ g) + r * 2 ^ g) % m) (sym whole)
    ∙ mod-mul-add q (2 ^ n * 2 ^ g) (r * 2 ^ g) (omega arith)

-- up by 64 − n places and back leaves the low n bits, read with a sign
pub extension : (a : ℤ) (n : ℕ) → FitsSigned w64 a → 0 < n → n ≤ 64
    → cast_signed w64 (cast_unsigned w64 (int_shr (int_shl w64 a (64 - n)) (64 - n))) ≡ signed n a
unfolding signed
extension a n f some within =
    let g = 64 - n in
    let u = cast_unsigned w64 a in
    let m = low_bits n a in
    let h = 2 ^ (n - 1) in
    let all : n - 1 + g ≡ 63 = omega arith in
    let top : h * 2 ^ g ≡ 2 ^ 63 = sym (pow-add 2 (n - 1) g) ∙ ap (λ k. 2 ^ k) all in
    let double = doubled n some in
    let moved : (u * 2 ^ g) % 2 ^ 64 ≡ m * 2 ^ g = low_product u n g (omega arith) ∙ ap (λ x. x * 2 ^ g) (cast_unsigned-mod w64 a n within f) in
    to_z-of_z w64 (int_shr (int_shl w64 a g) g) (sfits_le (mag_shr (int_shl w64 a g) (2 ^ g)) (to_z-Fits w64 _ (Fits-wrap w64 (u * 2 ^ g))))
    ∙ ap (λ x. int_shr (cast_signed w64 x) g) moved
    ∙ back g h m top (omega (arith, low_bits-lt n a)) (ltb m h) refl
    ∙ ap (λ k. cond (ltb m h) (pos m) (pos m -ℤ pos k)) double

-- a mask of 16 ones leaves the low 16 bits
pub low_char : (a : ℤ) → FitsSigned w64 a → cast_signed w64 (bit_and (cast_unsigned w64 a) 65535) ≡ pos (low_bits 16 a)
low_char a f =
    ap (cast_signed w64) (and_mask (cast_unsigned w64 a) 16 ∙ cast_unsigned-mod w64 a 16 (omega arith) f)
    ∙ to_z_pos w64 (low_bits 16 a) (omega (arith, low_bits-lt 16 a))
