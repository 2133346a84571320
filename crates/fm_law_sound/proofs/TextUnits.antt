-- Units of the texts that built-in methods make are those of chars.
use Rattle.std.proofs.Common.{ℕ, ℤ, pos, negsuc, zero, suc, ◌+◌, ◌/◌, ◌%◌, ◌^◌, ◌<◌, ◌==◌, Bool, true, false, cond, List, [], ◌∷◌, ◌++◌, take, drop, replicate, nat_lt, slice_index_or, arith}
use Rattle.std.specs.Fmt.{decimal, digit_glyph, digits, digits_onto, signed_decimal}
use Rattle.fm_law_sound.specs.Making.{AreUnits}

-- ---- lists

pub units-append : (xs ys : List ℕ) → AreUnits xs → AreUnits ys → AreUnits (xs ++ ys)
units-append [] ys first second = second
units-append (x ∷ xs) ys first second = (first.0, units-append xs ys first.1 second)

pub units-take : (n : ℕ) (xs : List ℕ) → AreUnits xs → AreUnits (take n xs)
units-take zero xs all = tt
units-take (suc n) [] all = tt
units-take (suc n) (x ∷ xs) all = (all.0, units-take n xs all.1)

pub units-drop : (n : ℕ) (xs : List ℕ) → AreUnits xs → AreUnits (drop n xs)
units-drop zero xs all = all
units-drop (suc n) [] all = tt
units-drop (suc n) (x ∷ xs) all = units-drop n xs all.1

pub units-zeros : (count : ℕ) → AreUnits (replicate count 0)
units-zeros zero = tt
units-zeros (suc count) = (omega arith, units-zeros count)

-- each place of a list has one
pub units-each : (xs : List ℕ) → ((place : ℕ) → slice_index_or xs place 0 < 2 ^ 16) → AreUnits xs
units-each [] each = tt
units-each (x ∷ xs) each = (each 0, units-each xs (λ place. each (suc place)))

-- ---- digits

glyph_if : (b : Bool) (d : ℕ) → d < 16 → cond b (48 + d) (87 + d) < 2 ^ 16
glyph_if true d small = omega (arith, small)
glyph_if false d small = omega (arith, small)

digits_on : (base : ℕ) → ((n : ℕ) → n % base < 16) → (k n : ℕ) (acc : List ℕ) → AreUnits acc → AreUnits (digits_onto k base false n acc)
digits_on base small zero n acc all = all
digits_on base small (suc k) n acc all =
    by_end ((n / base) == 0) (digits_on base small k (n / base) (digit_glyph false (n % base) ∷ acc) next) where
      next : AreUnits (digit_glyph false (n % base) ∷ acc)
      next = (glyph_if (nat_lt (n % base) 10) (n % base) (small n), all)

      by_end : (b : Bool) → AreUnits (digits_onto k base false (n / base) (digit_glyph false (n % base) ∷ acc))
          → AreUnits (cond b (digit_glyph false (n % base) ∷ acc) (digits_onto k base false (n / base) (digit_glyph false (n % base) ∷ acc)))
      by_end true later = next
      by_end false later = later

pub units-hex : (n : ℕ) → AreUnits (digits 16 false n)
unfolding digits
units-hex n = digits_on 16 (λ m. omega arith) 64 n [] tt

units-decimal : (n : ℕ) → AreUnits (decimal n)
unfolding digits
units-decimal n = digits_on 10 (λ m. omega arith) 64 n [] tt

pub units-signed : (n : ℤ) → AreUnits (signed_decimal n)
units-signed (pos n) = units-decimal n
units-signed (negsuc n) = (omega arith, units-decimal (suc n))
