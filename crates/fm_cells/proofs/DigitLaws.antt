-- Groups of bits of a word: a group is what a shift and a mask leave, and a group that is set changes no other.
use Rattle.std.proofs.Common.{◌≡◌, ◌≢◌, ℕ, zero, suc, ◌+◌, ◌-◌, ◌*◌, ◌/◌, ◌%◌, ◌^◌, ◌<◌, ◌≤◌, refl, sym, ◌∙◌, ap, subst, arith, bit_and, inl, inr}
use Rattle.std.proofs.Math.Pow.{mod-mod-pow}
use Rattle.std.proofs.lemmas.Bool.{cases_lt}
use Rattle.std.proofs.lemmas.Nat.{pow_pos, pow-add, shr-shr, and_mask, shr_high, mod_low, field_of, shl_whole, shr_split, mod_below, shr_below, mul-add-lt}
use Rattle.fm_cells.specs.Sizes.{IsPack}
use Rattle.fm_cells.specs.inner.Words.{digit, with_digit}

less_one : (p q : ℕ) → 0 < p → 0 < q → (p - 1) * q + (q - 1) ≡ p * q - 1
less_one zero q h k = absurd (omega arith)
less_one (suc p) q h k =
    let one : suc p - 1 ≡ p = omega arith in
    ap (λ n. n * q + (q - 1)) one ∙ grind arith

-- the word of ones, shifted, has as many ones as are left
pub mask-is : (bits : ℕ) → bits ≤ 64 → 18446744073709551615 / 2 ^ (64 - bits) ≡ 2 ^ bits - 1
mask-is bits h =
    let whole : 2 ^ bits * 2 ^ (64 - bits) ≡ 2 ^ 64 = sym (pow-add 2 bits (64 - bits)) ∙ (let e : bits + (64 - bits) ≡ 64 = omega arith in ap (λ n. 2 ^ n) e) in
    let split : (2 ^ bits - 1) * 2 ^ (64 - bits) + (2 ^ (64 - bits) - 1) ≡ 18446744073709551615 = less_one (2 ^ bits) (2 ^ (64 - bits)) (pow_pos bits) (pow_pos (64 - bits)) ∙ ap (λ n. n - 1) whole in
    ap (λ n. n / 2 ^ (64 - bits)) (sym split) ∙ shr_high (2 ^ bits - 1) (64 - bits) (2 ^ (64 - bits) - 1) (omega (arith, pow_pos (64 - bits)))

-- a shift and a mask leave a group
pub digit-is : (word bits place : ℕ) → bits ≤ 64 → bit_and (word / 2 ^ (bits * place)) (18446744073709551615 / 2 ^ (64 - bits)) ≡ digit bits place word
digit-is word bits place h = ap (λ mask. bit_and (word / 2 ^ (bits * place)) mask) (mask-is bits h) ∙ and_mask (word / 2 ^ (bits * place)) bits

pub digit-lt : (word bits place : ℕ) → digit bits place word < 2 ^ bits
digit-lt word bits place = mod_below (word / 2 ^ (bits * place)) (2 ^ bits) (pow_pos bits)

-- a word is its parts: what lies above a group, the group, and what lies below it
split : (word bits place : ℕ) → ((word / 2 ^ (bits * place) / 2 ^ bits) * 2 ^ bits + digit bits place word) * 2 ^ (bits * place) + word % 2 ^ (bits * place) ≡ word
split word bits place =
    ap (λ n. n * 2 ^ (bits * place) + word % 2 ^ (bits * place)) (shr_split (word / 2 ^ (bits * place)) bits) ∙ shr_split word (bits * place)

parts : (high old value shift low word : ℕ) → (high + old) * shift + low ≡ word → word - old * shift + value * shift ≡ (high + value) * shift + low
parts high old value shift low word e =
    let apart : (high + old) * shift ≡ high * shift + old * shift = grind arith in
    let joined : (high + value) * shift ≡ high * shift + value * shift = grind arith in
    omega (arith, apart, joined)

-- the same parts with another group
pub with_digit-split : (word bits place value : ℕ) → with_digit bits place value word ≡ ((word / 2 ^ (bits * place) / 2 ^ bits) * 2 ^ bits + value) * 2 ^ (bits * place) + word % 2 ^ (bits * place)
with_digit-split word bits place value = parts (word / 2 ^ (bits * place) / 2 ^ bits * 2 ^ bits) (digit bits place word) value (2 ^ (bits * place)) (word % 2 ^ (bits * place)) word (split word bits place)

-- the group that was set
pub digit-with_digit_same : (word bits place value : ℕ) → value < 2 ^ bits → digit bits place (with_digit bits place value word) ≡ value
digit-with_digit_same word bits place value fits =
    ap (λ w. digit bits place w) (with_digit-split word bits place value)
    ∙ ap (λ n. n % 2 ^ bits) (shr_high (word / 2 ^ (bits * place) / 2 ^ bits * 2 ^ bits + value) (bits * place) (word % 2 ^ (bits * place)) (mod_below word (2 ^ (bits * place)) (pow_pos (bits * place))))
    ∙ mod_low (word / 2 ^ (bits * place) / 2 ^ bits) bits value fits

further : (bits place other : ℕ) → place < other → bits * other ≡ bits * place + (bits + bits * (other - place - 1))
further bits place other h =
    let e : other ≡ place + (1 + (other - place - 1)) = omega arith in
    ap (λ n. bits * n) e ∙ grind arith

nearer : (bits place other : ℕ) → other < place → bits * place ≡ (bits * (place - other - 1)) + (bits + bits * other)
nearer bits place other h =
    let e : place ≡ (place - other - 1) + (1 + other) = omega arith in
    ap (λ n. bits * n) e ∙ grind arith

-- a group above the one that was set
digit-above : (word bits place other value : ℕ) → place < other → value < 2 ^ bits → digit bits other (with_digit bits place value word) ≡ digit bits other word
digit-above word bits place other value h fits =
    let more : bits * other ≡ bits * place + (bits + bits * (other - place - 1)) = further bits place other h in
    let high : with_digit bits place value word / 2 ^ (bits * place) / 2 ^ bits ≡ word / 2 ^ (bits * place) / 2 ^ bits =
    ap (λ w. w / 2 ^ (bits * place) / 2 ^ bits) (with_digit-split word bits place value)
    ∙ ap (λ n. n / 2 ^ bits) (shr_high (word / 2 ^ (bits * place) / 2 ^ bits * 2 ^ bits + value) (bits * place) (word % 2 ^ (bits * place)) (mod_below word (2 ^ (bits * place)) (pow_pos (bits * place))))
    ∙ shr_high (word / 2 ^ (bits * place) / 2 ^ bits) bits value fits in
    let down = λ (w : ℕ). let is : w / 2 ^ (bits * other) ≡ w / 2 ^ (bits * place) / 2 ^ bits / 2 ^ (bits * (other - place - 1)) =
    ap (λ n. w / 2 ^ n) more ∙ sym (shr-shr w (bits * place) (bits + bits * (other - place - 1))) ∙ sym (shr-shr (w / 2 ^ (bits * place)) bits (bits * (other - place - 1))) in is in
    ap (λ n. n % 2 ^ bits) (down (with_digit bits place value word) ∙ ap (λ n. n / 2 ^ (bits * (other - place - 1))) high ∙ sym (down word))

-- a group below the one that was set
digit-below : (word bits place other value : ℕ) → other < place → digit bits other (with_digit bits place value word) ≡ digit bits other word
digit-below word bits place other value h =
    let more : bits * place ≡ (bits * (place - other - 1)) + (bits + bits * other) = nearer bits place other h in
    let low : with_digit bits place value word % 2 ^ (bits * place) ≡ word % 2 ^ (bits * place) =
    ap (λ w. w % 2 ^ (bits * place)) (with_digit-split word bits place value)
    ∙ mod_low (word / 2 ^ (bits * place) / 2 ^ bits * 2 ^ bits + value) (bits * place) (word % 2 ^ (bits * place)) (mod_below word (2 ^ (bits * place)) (pow_pos (bits * place))) in
    let up = λ (w : ℕ). let is : digit bits other w ≡ w % 2 ^ (bits * place) % 2 ^ (bits + bits * other) / 2 ^ (bits * other) =
    sym (field_of w bits (bits * other)) ∙ ap (λ n. n / 2 ^ (bits * other)) (sym (mod-mod-pow w (bits * (place - other - 1)) (bits + bits * other)) ∙ ap (λ k. w % 2 ^ k % 2 ^ (bits + bits * other)) (sym more)) in is in
    up (with_digit bits place value word) ∙ ap (λ n. n % 2 ^ (bits + bits * other) / 2 ^ (bits * other)) low ∙ sym (up word)

-- each other group stays as it was
pub digit-with_digit_other : (word bits place other value : ℕ) → other ≢ place → value < 2 ^ bits → digit bits other (with_digit bits place value word) ≡ digit bits other word
digit-with_digit_other word bits place other value apart fits = elim (cases_lt place other) as (λ _. digit bits other (with_digit bits place value word) ≡ digit bits other word) [
  | inl h ↦ digit-above word bits place other value h fits
  | inr h ↦ digit-below word bits place other value (let ne : other ≢ place = apart in omega arith)
]

-- the word with another group fits a word
pub with_digit-lt : (word bits place value : ℕ) → bits * place + bits ≤ 64 → value < 2 ^ bits → word < 2 ^ 64 → with_digit bits place value word < 2 ^ 64
with_digit-lt word bits place value within fits small =
    let rest = 64 - bits * place in
    let left = 64 - bits * place - bits in
    let outer : rest + bits * place ≡ 64 = omega arith in
    let inner : left + bits ≡ rest = omega arith in
    let quotient : word / 2 ^ (bits * place) < 2 ^ rest = shr_below word rest (bits * place) (subst (λ n. word < 2 ^ n) (sym outer) small) in
    let high : word / 2 ^ (bits * place) / 2 ^ bits < 2 ^ left = shr_below (word / 2 ^ (bits * place)) left bits (subst (λ n. word / 2 ^ (bits * place) < 2 ^ n) (sym inner) quotient) in
    let joined : word / 2 ^ (bits * place) / 2 ^ bits * 2 ^ bits + value < 2 ^ bits * 2 ^ left = mul-add-lt (word / 2 ^ (bits * place) / 2 ^ bits) (2 ^ bits) value (2 ^ left) high fits in
    let whole : 2 ^ bits * 2 ^ left ≡ 2 ^ rest = sym (pow-add 2 bits left) ∙ (let e : bits + left ≡ rest = omega arith in ap (λ n. 2 ^ n) e) in
    let all : 2 ^ (bits * place) * 2 ^ rest ≡ 2 ^ 64 = sym (pow-add 2 (bits * place) rest) ∙ (let e : bits * place + rest ≡ 64 = omega arith in ap (λ n. 2 ^ n) e) in
    subst (λ n. n < 2 ^ 64) (sym (with_digit-split word bits place value))
    (subst (λ n. (word / 2 ^ (bits * place) / 2 ^ bits * 2 ^ bits + value) * 2 ^ (bits * place) + word % 2 ^ (bits * place) < n) all
    (mul-add-lt (word / 2 ^ (bits * place) / 2 ^ bits * 2 ^ bits + value) (2 ^ (bits * place)) (word % 2 ^ (bits * place)) (2 ^ rest) (omega arith) (mod_below word (2 ^ (bits * place)) (pow_pos (bits * place)))))

-- a group that is shifted to its place loses nothing
pub shifted-is : (bits place value : ℕ) → bits * place + bits ≤ 64 → value < 2 ^ bits → value * 2 ^ (bits * place) % 18446744073709551616 ≡ value * 2 ^ (bits * place)
shifted-is bits place value within fits = shl_whole value bits (bits * place) 64 fits (omega arith)

-- a pack is a power of two with an exponent below 4
pub IsPack-power : (exponent : ℕ) → exponent < 4 → IsPack (2 ^ exponent)
IsPack-power zero h = inl refl
IsPack-power (suc zero) h = inr (inl refl)
IsPack-power (suc (suc zero)) h = inr (inr (inl refl))
IsPack-power (suc (suc (suc zero))) h = inr (inr (inr refl))
IsPack-power (suc (suc (suc (suc n)))) h = absurd (omega arith)

-- the low bits of a place are its index in its word
pub low_bits : (place exponent : ℕ) → exponent < 4 → bit_and place (1 * 2 ^ exponent % 4294967296 - 1) ≡ place % 2 ^ exponent
low_bits place zero h = and_mask place 0
low_bits place (suc zero) h = and_mask place 1
low_bits place (suc (suc zero)) h = and_mask place 2
low_bits place (suc (suc (suc zero))) h = and_mask place 3
low_bits place (suc (suc (suc (suc n)))) h = absurd (omega arith)

-- an element has a bit at least, and lies within its word
pub bits-some : (exponent : ℕ) → exponent < 4 → 0 < 64 / 2 ^ exponent
bits-some zero h = omega arith
bits-some (suc zero) h = omega arith
bits-some (suc (suc zero)) h = omega arith
bits-some (suc (suc (suc zero))) h = omega arith
bits-some (suc (suc (suc (suc n)))) h = absurd (omega arith)

pub bits-within : (place exponent : ℕ) → exponent < 4 → 64 / 2 ^ exponent * (place % 2 ^ exponent) + 64 / 2 ^ exponent ≤ 64
bits-within place zero h = omega arith
bits-within place (suc zero) h = omega arith
bits-within place (suc (suc zero)) h = omega arith
bits-within place (suc (suc (suc zero))) h = omega arith
bits-within place (suc (suc (suc (suc n)))) h = absurd (omega arith)
