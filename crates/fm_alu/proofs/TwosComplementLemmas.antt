-- What the low bits of a number are in std's words for the values of a type.
use Rattle.std.proofs.Common.{◌≡◌, ℕ, suc, ◌-◌, ◌*◌, ◌/◌, ◌%◌, ◌+◌, ◌^◌, ◌<◌, ◌≤◌, Bool, true, false, cond, ℤ, pos, negsuc, ◌-ℤ◌, refl, sym, ap, subst, ◌∙◌, arith, ltb}
use Rattle.std.specs.Prelude.{unsigned_abs, FitsSigned}
use Rattle.std.specs.Int.{Width, w8, w16, w32, w64, w128, cast_signed, cast_unsigned, int_rem_euclid, int_wrap}
use Rattle.std.proofs.Math.Nat.{mod-lt, mod-eq_of_lt, div-add-mod', pow-le-pow_right}
use Rattle.std.proofs.lemmas.Nat.{pow_pos, pow-add, div_below, mod-mul-add, mod-pow-add}
use Rattle.std.proofs.lemmas.Int.{ints}
use borrow.Author.Tests.{ltb-true, ltb-false}
use mir.Val.{bits, sel}
use mir.ValLaws.{half_full}
use lib.Signed.{mag}
use Rattle.fm_alu.specs.TwosComplement.{low_bits, signed}

-- the low bits are the remainder that isn't negative, which std's wrapping is stated with
low_bits-is : (n : ℕ) (z : ℤ) → unsigned_abs (int_rem_euclid z (pos (2 ^ n))) ≡ low_bits n z
unfolding low_bits
low_bits-is n (pos a) = refl
low_bits-is n (negsuc a) = refl

-- n bits make a number below 2 ^ n
pub low_bits-lt : (n : ℕ) (z : ℤ) → low_bits n z < 2 ^ n
unfolding low_bits
low_bits-lt n (pos a) = mod-lt a (pow_pos n)
low_bits-lt n (negsuc a) = omega (arith, mod-lt a (pow_pos n), pow_pos n)

-- a number below 0 read from its bits m, in std's form and in ours
below_zero : (m k : ℕ) → m < k → negsuc (k - suc m) ≡ pos m -ℤ pos k
below_zero m k h = omega (arith, ints)

-- the choice between the two readings, in std's form and in ours
read : (m k : ℕ) → m < k → (t : Bool) → sel t (pos m) (negsuc (k - suc m)) ≡ cond t (pos m) (pos m -ℤ pos k)
read m k p true = refl
read m k p false = below_zero m k p

-- the low bits as the value of a signed type are the reading with a sign
cast_signed-low_bits : (w : Width) (z : ℤ) → cast_signed w (low_bits (bits w) z) ≡ signed (bits w) z
unfolding signed
cast_signed-low_bits w8 z = read (low_bits 8 z) (2 ^ 8) (low_bits-lt 8 z) (ltb (low_bits 8 z) (2 ^ 7))
cast_signed-low_bits w16 z = read (low_bits 16 z) (2 ^ 16) (low_bits-lt 16 z) (ltb (low_bits 16 z) (2 ^ 15))
cast_signed-low_bits w32 z = read (low_bits 32 z) (2 ^ 32) (low_bits-lt 32 z) (ltb (low_bits 32 z) (2 ^ 31))
cast_signed-low_bits w64 z = read (low_bits 64 z) (2 ^ 64) (low_bits-lt 64 z) (ltb (low_bits 64 z) (2 ^ 63))
cast_signed-low_bits w128 z = read (low_bits 128 z) (2 ^ 128) (low_bits-lt 128 z) (ltb (low_bits 128 z) (2 ^ 127))

-- std's wrapping is the reading with a sign
pub int_wrap-signed : (w : Width) (z : ℤ) → int_wrap w z ≡ signed (bits w) z
unfolding int_wrap
int_wrap-signed w z = ap (cast_signed w) (low_bits-is (bits w) z) ∙ cast_signed-low_bits w z

-- a type's value without its sign, also for a number that is a little out of range
pub cast_unsigned-low_bits : (w : Width) (z : ℤ) → mag z < 2 ^ bits w → cast_unsigned w z ≡ low_bits (bits w) z
unfolding low_bits
cast_unsigned-low_bits w (pos a) h = sym (mod-eq_of_lt h)
cast_unsigned-low_bits w (negsuc a) h = omega (arith, mod-eq_of_lt h)

-- the bits of a value of a signed type are its low bits
pub cast_unsigned-fits : (w : Width) (z : ℤ) → FitsSigned w z → cast_unsigned w z ≡ low_bits (bits w) z
cast_unsigned-fits w z f = cast_unsigned-low_bits w z (half_full w f.sfits)

-- a number that is a little out of range, turned into bits and back
pub cast_both : (w : Width) (z : ℤ) → mag z < 2 ^ bits w → cast_signed w (cast_unsigned w z) ≡ signed (bits w) z
cast_both w z h = ap (cast_signed w) (cast_unsigned-low_bits w z h) ∙ cast_signed-low_bits w z

-- bits that are read as a value of a signed type
pub cast_signed-pos : (w : Width) (m : ℕ) → m < 2 ^ bits w → cast_signed w m ≡ signed (bits w) (pos m)
cast_signed-pos w m h = cast_both w (pos m) h

-- the bits of −(a + 1) are those of a turned over
turned : (n k a : ℕ) → k ≤ n → a < 2 ^ n → (2 ^ n - suc a) % 2 ^ k ≡ 2 ^ k - 1 - a % 2 ^ k
turned n k a h small =
    let m = 2 ^ k in
    let times = 2 ^ (n - k) in
    let q = a / m in
    let r = a % m in
    let sum_is : n - k + k ≡ n = omega arith in
    let whole : times * m ≡ 2 ^ n = sym (pow-add 2 (n - k) k) ∙ ap (λ i. 2 ^ i) sum_is in
    let fewer : q < times = div_below a m times (pow_pos k) (omega arith) in
    let split = div-add-mod' a m in
    let below = mod-lt a (pow_pos k) in
    let sum : times * m ≡ (q + suc (times - suc q)) * m = ap (λ i. i * m) (omega arith) in
    let is : 2 ^ n - suc a ≡ (times - suc q) * m + (m - 1 - r) = omega arith in
    ap (λ x. x % m) is ∙ mod-mul-add (times - suc q) m (m - 1 - r) (omega arith)

-- the low k bits of the low n bits of a natural number
low_of_low : (n k a : ℕ) → k ≤ n → a % 2 ^ n % 2 ^ k ≡ a % 2 ^ k
low_of_low n k a h =
    let sum : n ≡ n - k + k = omega arith in
    ap (λ i. a % 2 ^ i % 2 ^ k) sum ∙ ap (λ x. x % 2 ^ k) (mod-pow-add a (n - k) k)
    ∙ mod-mul-add (a / 2 ^ k % 2 ^ (n - k)) (2 ^ k) (a % 2 ^ k) (mod-lt a (pow_pos k))

-- the low k bits of the low n bits are the low k bits
pub low_bits-mod : (n k : ℕ) (z : ℤ) → k ≤ n → low_bits n z % 2 ^ k ≡ low_bits k z
unfolding low_bits
low_bits-mod n k (pos a) h = low_of_low n k a h
low_bits-mod n k (negsuc a) h =
    let less : 2 ^ n - 1 - a % 2 ^ n ≡ 2 ^ n - suc (a % 2 ^ n) = omega arith in
    ap (λ x. x % 2 ^ k) less ∙ turned n k (a % 2 ^ n) h (mod-lt a (pow_pos n)) ∙ ap (λ x. 2 ^ k - 1 - x) (low_of_low n k a h)

-- the low k bits of the bits of a value
pub cast_unsigned-mod : (w : Width) (z : ℤ) (k : ℕ) → k ≤ bits w → FitsSigned w z → cast_unsigned w z % 2 ^ k ≡ low_bits k z
cast_unsigned-mod w z k h f = ap (λ n. n % 2 ^ k) (cast_unsigned-fits w z f) ∙ low_bits-mod (bits w) k z h

-- each of the two readings has the bits that are read
low_bits-read : (n k m : ℕ) → k ≤ n → m < 2 ^ n → (t : Bool) → low_bits k (cond t (pos m) (pos m -ℤ pos (2 ^ n))) ≡ m % 2 ^ k
unfolding low_bits
low_bits-read n k m h small true = refl
low_bits-read n k m h small false =
    ap (low_bits k) (sym (below_zero m (2 ^ n) small)) ∙ omega (arith, turned n k m h small, mod-lt m (pow_pos k))

-- the reading with a sign keeps the bits that are read
pub low_bits-signed : (n k : ℕ) (z : ℤ) → k ≤ n → low_bits k (signed n z) ≡ low_bits k z
unfolding signed
low_bits-signed n k z h =
    low_bits-read n k (low_bits n z) h (low_bits-lt n z) (ltb (low_bits n z) (2 ^ (n - 1))) ∙ low_bits-mod n k z h

-- two halves of the range of n bits
pub doubled : (n : ℕ) → 0 < n → 2 ^ (n - 1) + 2 ^ (n - 1) ≡ 2 ^ n
doubled n some =
    let back_up : n - 1 + 1 ≡ n = omega arith in
    let power = sym (ap (λ k. 2 ^ k) back_up) ∙ pow-add 2 (n - 1) 1 in
    omega (arith, power)

-- each of the two readings is in its half
in_half : (m h : ℕ) → m < h + h → (t : Bool) → ltb m h ≡ t → mag (cond t (pos m) (pos m -ℤ pos (h + h))) < h
in_half m h p true e = ltb-true m h e
in_half m h p false e = subst (λ (z : ℤ). mag z < h) (below_zero m (h + h) p) (omega (arith, ltb-false m h e))

-- the reading of n bits with a sign is from −2 ^ (n − 1) to 2 ^ (n − 1) − 1
pub mag-signed : (n : ℕ) (z : ℤ) → 0 < n → mag (signed n z) < 2 ^ (n - 1)
unfolding signed
mag-signed n z some =
    let m = low_bits n z in
    let h = 2 ^ (n - 1) in
    let double = doubled n some in
    subst (λ (k : ℕ). mag (cond (ltb m h) (pos m) (pos m -ℤ pos k)) < h) double
    (in_half m h (omega (arith, double, low_bits-lt n z)) (ltb m h) refl)

-- a reading of 32 bits or fewer is in the range of an int
pub signed-fits : (n : ℕ) (z : ℤ) → 0 < n → n ≤ 32 → FitsSigned w32 (signed n z)
signed-fits n z some h =
    let shorter : n - 1 ≤ 31 = omega arith in
    let below = pow-le-pow_right {n = 2} (omega arith) shorter in
    record { sfits = omega (arith, mag-signed n z some, below) }
