-- Numbers that the test of two numbers finds the same.
use Rattle.std.proofs.Common.{◌≡◌, ℕ, true, nat_eq, arith}
use Rattle.std.proofs.lemmas.Bool.Decides.{nat_tests}

pub eq-nat_eq : (a b : ℕ) → nat_eq a b ≡ true → a ≡ b
eq-nat_eq a b h = grind (arith, nat_tests)
