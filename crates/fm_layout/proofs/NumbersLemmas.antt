-- The bytes of distances are read as the distances.
use Rattle.std.proofs.Common.{◌≡◌, ℕ, suc, ◌-◌, ◌<◌, ◌≤◌, ◌%◌, ◌/◌, true, List, [], ◌∷◌, refl, ap, ◌∙◌, arith, pos, negsuc, if◌then◌else◌}
use Rattle.std.specs.Prelude.{ℤ, nat_lt, int_le, ◌+ℤ◌, ◌-ℤ◌, ◌≤ℤ◌, FitsSigned}
use Rattle.std.specs.Int.{w32}
use Rattle.std.specs.Int.Signed.{le_z_yes}
use Rattle.std.proofs.lemmas.Bool.{lt-ltb, le-ltb, and_parts}
use Rattle.std.proofs.lemmas.Float.{T_from_true}
use Rattle.std.proofs.lemmas.Int.{ints}
use Rattle.fm_code.specs.Numbers.{two, four, number_of_two, number_of_four, signed_two, signed_four, signed_four_of}
use Rattle.fm_layout.specs.Rooms.{is_in_reach}
use Rattle.fm_layout.specs.Spelling.{distance, signed_short}

-- ---- two bytes

-- the bytes are two that read as a number
pub record IsReadAsTwo (bytes : List ℕ) (z : ℤ) : Type 0 where
  pub high : ℕ
  pub low : ℕ
  pub bytes_are : bytes ≡ high ∷ low ∷ []
  pub reads : signed_two high low ≡ z

pub halves : (n : ℕ) → n < 65536 → number_of_two (n / 256 % 256) (n % 256) ≡ n
halves n small = omega arith

signed_two-pos : (a b m : ℕ) → number_of_two a b ≡ m → m < 32768 → signed_two a b ≡ pos m
signed_two-pos a b m e small = ap (λ n. if nat_lt n 32768 then pos n else pos n -ℤ pos 65536) e ∙ rw (lt-ltb m 32768 small) refl

signed_two-neg : (a b m : ℕ) → number_of_two a b ≡ 65536 - suc m → m < 32768 → signed_two a b ≡ negsuc m
signed_two-neg a b m e small =
    let large : 32768 ≤ 65536 - suc m = omega arith in
    let value : pos (65536 - suc m) -ℤ pos 65536 ≡ negsuc m = omega (arith, ints) in
    ap (λ n. if nat_lt n 32768 then pos n else pos n -ℤ pos 65536) e ∙ rw (le-ltb (65536 - suc m) 32768 large) value

pub short_reads : (z : ℤ) → negsuc 32767 ≤ℤ z → z ≤ℤ pos 32767 → IsReadAsTwo (signed_short z) z
unfolding two
short_reads (pos m) low high =
    let small : m < 32768 = omega (arith, ints) in
    let same : m % 65536 ≡ m = omega arith in
    record {
      high = (m % 65536) / 256 % 256;
      low = (m % 65536) % 256;
      bytes_are = refl;
      reads = signed_two-pos ((m % 65536) / 256 % 256) ((m % 65536) % 256) m (halves (m % 65536) (omega arith) ∙ same) small;
    }
short_reads (negsuc m) low high =
    let small : m < 32768 = omega (arith, ints) in
    let n : ℕ = (4294967296 - suc m) % 65536 in
    let same : (4294967296 - suc m) % 65536 ≡ 65536 - suc m = omega arith in
    record {
      high = ((4294967296 - suc m) % 65536) / 256 % 256;
      low = ((4294967296 - suc m) % 65536) % 256;
      bytes_are = refl;
      reads = signed_two-neg (((4294967296 - suc m) % 65536) / 256 % 256) (((4294967296 - suc m) % 65536) % 256) m
          (halves ((4294967296 - suc m) % 65536) (omega arith) ∙ same) small;
    }

-- a distance that is in reach
pub in_reach : (from to : ℕ) → is_in_reach from to ≡ true → IsReadAsTwo (signed_short (distance from to)) (distance from to)
in_reach from to near =
    let both = and_parts (int_le (negsuc 32767) (distance from to)) (int_le (distance from to) (pos 32767)) near in
    short_reads (distance from to) (le_z_yes (T_from_true (int_le (negsuc 32767) (distance from to)) both.0)) (le_z_yes (T_from_true (int_le (distance from to) (pos 32767)) both.1))

-- ---- four bytes

-- the bytes are four that read as a number
pub record IsReadAsFour (bytes : List ℕ) (z : ℤ) : Type 0 where
  pub a : ℕ
  pub b : ℕ
  pub c : ℕ
  pub d : ℕ
  pub bytes_are : bytes ≡ a ∷ b ∷ c ∷ d ∷ []
  pub reads : signed_four_of a b c d ≡ z

quarters : (n : ℕ) → n < 4294967296 → number_of_four (n / 16777216 % 256) (n / 65536 % 256) (n / 256 % 256) (n % 256) ≡ n
quarters n small = omega arith

signed_four_of-pos : (a b c d m : ℕ) → number_of_four a b c d ≡ m → m < 2147483648 → signed_four_of a b c d ≡ pos m
signed_four_of-pos a b c d m e small = ap (λ n. if nat_lt n 2147483648 then pos n else pos n -ℤ pos 4294967296) e ∙ rw (lt-ltb m 2147483648 small) refl

signed_four_of-neg : (a b c d m : ℕ) → number_of_four a b c d ≡ 4294967296 - suc m → m < 2147483648 → signed_four_of a b c d ≡ negsuc m
signed_four_of-neg a b c d m e small =
    let large : 2147483648 ≤ 4294967296 - suc m = omega arith in
    let value : pos (4294967296 - suc m) -ℤ pos 4294967296 ≡ negsuc m = omega (arith, ints) in
    ap (λ n. if nat_lt n 2147483648 then pos n else pos n -ℤ pos 4294967296) e ∙ rw (le-ltb (4294967296 - suc m) 2147483648 large) value

pub four_reads : (z : ℤ) → FitsSigned w32 z → IsReadAsFour (signed_four z) z
unfolding signed_four four
four_reads (pos m) fits =
    let small : m < 2147483648 = omega (arith, ints) in
    record {
      a = m / 16777216 % 256;
      b = m / 65536 % 256;
      c = m / 256 % 256;
      d = m % 256;
      bytes_are = refl;
      reads = signed_four_of-pos (m / 16777216 % 256) (m / 65536 % 256) (m / 256 % 256) (m % 256) m (quarters m (omega arith)) small;
    }
four_reads (negsuc m) fits =
    let small : m < 2147483648 = omega (arith, ints) in
    let n : ℕ = 4294967296 - suc m in
    record {
      a = (4294967296 - suc m) / 16777216 % 256;
      b = (4294967296 - suc m) / 65536 % 256;
      c = (4294967296 - suc m) / 256 % 256;
      d = (4294967296 - suc m) % 256;
      bytes_are = refl;
      reads = signed_four_of-neg ((4294967296 - suc m) / 16777216 % 256) ((4294967296 - suc m) / 65536 % 256) ((4294967296 - suc m) / 256 % 256) ((4294967296 - suc m) % 256) m
          (quarters (4294967296 - suc m) (omega arith)) small;
    }

-- a distance between two offsets of code fits four bytes
pub distance_fits : (from to : ℕ) → from ≤ 65535 → to ≤ 65535 → FitsSigned w32 (distance from to)
distance_fits from to near far = omega (arith, ints)

-- from an offset by the distance to another one
pub distance_back : (from to : ℕ) → pos from +ℤ distance from to ≡ pos to
distance_back from to = omega (arith, ints)
