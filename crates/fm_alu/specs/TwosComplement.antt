-- Two's complement: the numbers that the lowest bits of a whole number make (JVMS 2.3.1).
use Rattle.std.specs.Prelude.{ℕ, ◌-◌, ◌%◌, ◌^◌, ℤ, pos, negsuc, ◌-ℤ◌, nat_lt, if◌then◌else◌}

-- z modulo 2 ^ n: the lowest n bits of z, read without a sign. `negsuc a` is −(a + 1)
unfoldable pub low_bits : ℕ → ℤ → ℕ
low_bits n (pos a) = a % 2 ^ n
low_bits n (negsuc a) = 2 ^ n - 1 - a % 2 ^ n

-- the lowest n bits of z, read with a sign: the one number from −2 ^ (n − 1) to 2 ^ (n − 1) − 1 that
-- differs from z by a multiple of 2 ^ n
unfoldable pub signed : ℕ → ℤ → ℤ
signed n z = let m = low_bits n z in if nat_lt m (2 ^ (n - 1)) then pos m else pos m -ℤ pos (2 ^ n)
