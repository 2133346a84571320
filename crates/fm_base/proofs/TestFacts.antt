-- Tests that a program makes: of a fact, and of two texts. For every crate above.
use Rattle.std.proofs.Common.{◌≡◌, ◌≢◌, ℕ, Bool, true, false, not, List, ◌⊎◌, inl, inr, IsTrue, ◌↔◌, refl, sym, ◌∙◌, rules, ◌&&◌, ◌||◌, nat_eq, arith}
use Rattle.std.specs.Str.{bytes_eq}
use Rattle.std.proofs.lemmas.Bool.{not-false, false≢true}
use Rattle.std.proofs.lemmas.Bool.Decides.{nat_tests}
use Rattle.std.proofs.lemmas.Slice.Eq.{bytes_eq-Decides}
use Rattle.std.specs.Prelude.{MatchBool}

-- a test that was false refutes what it decides
pub refuted : (b : Bool) (P : Type 0) → IsTrue b ↔ P → b ≡ false → P → ⊥
refuted b P decides refused holds = let passed : b ≡ true = search (rules, decides.1 holds) in false≢true (sym refused ∙ passed)

-- two texts are the same or they are not
pub same_or_other : (text other : List ℕ) → (text ≡ other) ⊎ (text ≢ other)
same_or_other text other = go (bytes_eq text other) refl where
  go : (b : Bool) → bytes_eq text other ≡ b → (text ≡ other) ⊎ (text ≢ other)
  go true e = inl ((bytes_eq-Decides text other).0 e)
  go false e = inr (λ same. false≢true (sym e ∙ (bytes_eq-Decides text other).1 same))

-- texts that differ fail the test
pub bytes_eq-other : (text other : List ℕ) → text ≢ other → bytes_eq text other ≡ false
bytes_eq-other text other apart = go (bytes_eq text other) refl where
  go : (b : Bool) → bytes_eq text other ≡ b → bytes_eq text other ≡ false
  go true e = absurd (apart ((bytes_eq-Decides text other).0 e))
  go false e = e

-- texts that a `!=` found the same are the same
pub same_from_not : (text other : List ℕ) → false ≡ not (bytes_eq text other) → text ≡ other
same_from_not text other tested = (bytes_eq-Decides text other).0 (not-false (bytes_eq text other) (sym tested))

-- the first of two tests that both pass
pub and_left : (a b : Bool) → (a && b) ≡ true → a ≡ true
and_left true b h = refl
and_left false b h = h

-- and the second
pub and_right : (a b : Bool) → (a && b) ≡ true → b ≡ true
and_right true b h = h
and_right false b h = cc

-- the first of two tests of which none passes
pub or_left_fails : (a b : Bool) → (a || b) ≡ false → a ≡ false
or_left_fails true b e = cc
or_left_fails false b e = refl

-- and the second
pub or_right_fails : (a b : Bool) → (a || b) ≡ false → b ≡ false
or_right_fails true b e = cc
or_right_fails false b e = e

-- a test and one that fails
pub and_false : (b : Bool) → (b && false) ≡ false
and_false true = refl
and_false false = refl

-- a test and one that passes
pub and_true : (a : Bool) → (a && true) ≡ a
and_true true = refl
and_true false = refl

-- tests that pass together are one
pub same_test : (a b : Bool) → (a ≡ true → b ≡ true) → (b ≡ true → a ≡ true) → a ≡ b
same_test true true f g = refl
same_test true false f g = sym (f refl)
same_test false true f g = g refl
same_test false false f g = refl

-- what is the negation of a test that fails
pub false_from_not : (b x : Bool) → b ≡ not x → b ≡ true → x ≡ false
false_from_not b true e t = absurd (false≢true (sym e ∙ t))
false_from_not b false e t = refl

-- the arm of a test that passed
pub match_true : (A B : Type 0) (b : Bool) → b ≡ true → MatchBool b A B → A
match_true A B true e h = h
match_true A B false e h = absurd (false≢true e)

-- and of one that failed
pub match_false : (A B : Type 0) (b : Bool) → b ≡ false → MatchBool b A B → B
match_false A B true e h = absurd (false≢true (sym e))
match_false A B false e h = h

-- the test of two numbers is the same either way round
pub nat_eq-comm : (a b : ℕ) → nat_eq a b ≡ nat_eq b a
nat_eq-comm a b = grind (arith, nat_tests)

-- numbers that differ fail it
pub apart-nat_eq : (a b : ℕ) → a ≢ b → nat_eq a b ≡ false
apart-nat_eq a b h = grind (arith, nat_tests)

-- a number passes it with itself
pub same-nat_eq : (a : ℕ) → nat_eq a a ≡ true
same-nat_eq a = grind (arith, nat_tests)
