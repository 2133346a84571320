-- Numbers as the elements of each kind keep them.
use Rattle.std.proofs.Common.{◌≡◌, ℕ, ◌%◌, ◌<◌, ◌≤◌, ◌^◌, ℤ, pos, ap, sym, ◌∙◌, subst, arith}
use Rattle.std.specs.Prelude.{FitsSigned}
use Rattle.std.specs.Int.{w8, w16, w32, w64, cast_signed, cast_unsigned}
use Rattle.std.proofs.lemmas.Int.{of_z-to_z, to_z-of_z, to_z_pos}
use Rattle.fm_alu.proofs.TwosComplementLemmas.{cast_signed-pos, cast_unsigned-fits, cast_unsigned-mod, signed-fits}
use Rattle.fm_alu.specs.TwosComplement.{low_bits, signed}
use Rattle.fm_base.specs.declared.kinds.Kind.{Kind}
use Rattle.fm_base.specs.declared.kinds.Kind.TheVariants as kind
use Rattle.fm_base.specs.declared.kinds.TypeRef.{TypeRef}
use Rattle.fm_frames.specs.Elements.{int_bits, read}
use Rattle.fm_frames.specs.declared.values.Value.TheVariants as value
use Rattle.fm_frames.specs.inner.Places.{IsOfKind}

-- ---- what is kept

pub bits-kept : (own k : Kind) (n : ℤ) (bits : ℕ) → own ≡ k → bits ≡ cast_unsigned w64 (cast_signed w64 (cast_unsigned w64 n)) → FitsSigned w64 n → int_bits k ≤ 64
    → bits % 2 ^ int_bits k ≡ low_bits (int_bits own) n
bits-kept own k n bits is cast fits few =
    ap (λ b. b % 2 ^ int_bits k) (cast ∙ ap (cast_unsigned w64) (to_z-of_z w64 n fits)) ∙ cast_unsigned-mod w64 n (int_bits k) few fits ∙ sym (ap (λ k. low_bits (int_bits k) n) is)

pub long-kept : (own : Kind) (n : ℤ) (bits : ℕ) → own ≡ kind.Long → bits ≡ cast_unsigned w64 (cast_signed w64 (cast_unsigned w64 n)) → FitsSigned w64 n → bits ≡ low_bits (int_bits own) n
long-kept own n bits is cast fits =
    cast ∙ ap (cast_unsigned w64) (to_z-of_z w64 n fits) ∙ cast_unsigned-fits w64 n fits ∙ sym (ap (λ k. low_bits (int_bits k) n) is)

-- ---- what is read

pub boolean-read : (own : Kind) (n : ℕ) → own ≡ kind.Boolean → IsOfKind own n → value.Int (cast_signed w32 n) ≡ read own n
unfolding read
boolean-read own n is small =
    let few : n < 2 ^ 1 = subst (λ k. n < 2 ^ int_bits k) is small in
    ap value.Int (to_z_pos w32 n (omega (arith, few))) ∙ sym (ap (λ k. read k n) is)

pub char-read : (own : Kind) (n : ℕ) → own ≡ kind.Char → IsOfKind own n → value.Int (cast_signed w32 n) ≡ read own n
unfolding read
char-read own n is small =
    let few : n < 2 ^ 16 = subst (λ k. n < 2 ^ int_bits k) is small in
    ap value.Int (to_z_pos w32 n (omega (arith, few))) ∙ sym (ap (λ k. read k n) is)

pub byte-read : (own : Kind) (n : ℕ) (r : ℤ) → own ≡ kind.Byte → IsOfKind own n → r ≡ cast_signed w8 n
    → value.Int (cast_signed w32 (cast_unsigned w32 (cast_signed w8 (cast_unsigned w8 r)))) ≡ read own n
unfolding read
byte-read own n r is small cast =
    let few : n < 2 ^ 8 = subst (λ k. n < 2 ^ int_bits k) is small in
    ap (λ r. value.Int (cast_signed w32 (cast_unsigned w32 (cast_signed w8 (cast_unsigned w8 r))))) cast
    ∙ ap (λ m. value.Int (cast_signed w32 (cast_unsigned w32 (cast_signed w8 m)))) (of_z-to_z w8 n few)
    ∙ ap (λ z. value.Int (cast_signed w32 (cast_unsigned w32 z))) (cast_signed-pos w8 n few)
    ∙ ap value.Int (to_z-of_z w32 (signed 8 (pos n)) (signed-fits 8 (pos n) (omega arith) (omega arith)))
    ∙ sym (ap (λ k. read k n) is)

pub short-read : (own : Kind) (n : ℕ) (r : ℤ) → own ≡ kind.Short → IsOfKind own n → r ≡ cast_signed w16 n
    → value.Int (cast_signed w32 (cast_unsigned w32 (cast_signed w16 (cast_unsigned w16 r)))) ≡ read own n
unfolding read
short-read own n r is small cast =
    let few : n < 2 ^ 16 = subst (λ k. n < 2 ^ int_bits k) is small in
    ap (λ r. value.Int (cast_signed w32 (cast_unsigned w32 (cast_signed w16 (cast_unsigned w16 r))))) cast
    ∙ ap (λ m. value.Int (cast_signed w32 (cast_unsigned w32 (cast_signed w16 m)))) (of_z-to_z w16 n few)
    ∙ ap (λ z. value.Int (cast_signed w32 (cast_unsigned w32 z))) (cast_signed-pos w16 n few)
    ∙ ap value.Int (to_z-of_z w32 (signed 16 (pos n)) (signed-fits 16 (pos n) (omega arith) (omega arith)))
    ∙ sym (ap (λ k. read k n) is)

pub int-read : (own : Kind) (n : ℕ) (r : ℤ) → own ≡ kind.Int → IsOfKind own n → r ≡ cast_signed w32 n
    → value.Int (cast_signed w32 (cast_unsigned w32 r)) ≡ read own n
unfolding read
int-read own n r is small cast =
    let few : n < 2 ^ 32 = subst (λ k. n < 2 ^ int_bits k) is small in
    ap (λ r. value.Int (cast_signed w32 (cast_unsigned w32 r))) cast
    ∙ ap (λ m. value.Int (cast_signed w32 m)) (of_z-to_z w32 n few)
    ∙ ap value.Int (cast_signed-pos w32 n few) ∙ sym (ap (λ k. read k n) is)

pub long-read : (own : Kind) (n : ℕ) (r : ℤ) → own ≡ kind.Long → IsOfKind own n → r ≡ cast_signed w64 n
    → value.Long (cast_signed w64 (cast_unsigned w64 r)) ≡ read own n
unfolding read
long-read own n r is small cast =
    let few : n < 2 ^ 64 = subst (λ k. n < 2 ^ int_bits k) is small in
    ap (λ r. value.Long (cast_signed w64 (cast_unsigned w64 r))) cast
    ∙ ap (λ m. value.Long (cast_signed w64 m)) (of_z-to_z w64 n few)
    ∙ ap value.Long (cast_signed-pos w64 n few) ∙ sym (ap (λ k. read k n) is)

pub ref-read : (own : Kind) (t : TypeRef) (n : ℕ) → own ≡ kind.Ref t → value.Ref (record { 0 = n }) ≡ read own n
unfolding read
ref-read own t n is = sym (ap (λ k. read k n) is)
