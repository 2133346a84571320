-- The results in a second form, as relations: what the specification says of a result r. The clauses
-- `law` and `floor` of the calls prove it beside the definitions.
use Rattle.std.specs.Prelude.{◌≡◌, ℕ, ◌+◌, ◌/◌, ◌%◌, ◌^◌, ◌<◌, min, max, ℤ, pos, ◌+ℤ◌, ◌-ℤ◌, ◌*ℤ◌, ◌<ℤ◌, ◌≤ℤ◌, unsigned_abs}
use Rattle.fm_code.specs.declared.operations.Op.{Op}
use Rattle.fm_code.specs.declared.operations.Op.TheVariants.{Add, Sub, Mul, Div, Rem, And, Or, Xor}
use Rattle.fm_alu.specs.TwosComplement.{low_bits}
use Rattle.fm_alu.specs.Operations.{quotient}

-- x and y differ by a multiple of 2 ^ n
abbrev pub IsCongruent : ℕ → ℤ → ℤ → Type 0
IsCongruent n x y = (k : ℤ) × (x ≡ y +ℤ k *ℤ pos (2 ^ n))

-- bit i of z in two's complement, 0 or 1
abbrev pub bit : ℤ → ℕ → ℕ
bit z i = low_bits (i + 1) z / 2 ^ i

-- r is what the division of a by b leaves over: together with the product of quotient and divisor it
-- makes a, it is smaller than the divisor, and it is negative or positive only where a is
pub record IsRemainder (a b r : ℤ) : Type 0 where
  pub makes_dividend : quotient a b *ℤ b +ℤ r ≡ a
  pub smaller : unsigned_abs r < unsigned_abs b
  pub negative : r <ℤ pos 0 → a <ℤ pos 0
  pub positive : pos 0 <ℤ r → pos 0 <ℤ a

-- what the specification says of the result r of an operation on the numbers a and b of w bits
abbrev pub Satisfies : Op → ℕ → ℤ → ℤ → ℤ → Type 0
Satisfies Add w a b r = IsCongruent w r (a +ℤ b)
Satisfies Sub w a b r = IsCongruent w r (a -ℤ b)
Satisfies Mul w a b r = IsCongruent w r (a *ℤ b)
Satisfies Div w a b r = IsCongruent w r (quotient a b)
Satisfies Rem w a b r = IsRemainder a b r
Satisfies And w a b r = (i : ℕ) → i < w → bit r i ≡ min (bit a i) (bit b i)
Satisfies Or w a b r = (i : ℕ) → i < w → bit r i ≡ max (bit a i) (bit b i)
Satisfies Xor w a b r = (i : ℕ) → i < w → bit r i ≡ (bit a i + bit b i) % 2

-- q is a / d, rounded down
pub record IsFloor (a : ℤ) (d : ℕ) (q : ℤ) : Type 0 where
  pub at_most : (q *ℤ pos d) ≤ℤ a
  pub next_above : a <ℤ ((q +ℤ pos 1) *ℤ pos d)
