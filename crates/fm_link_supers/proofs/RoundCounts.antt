-- After as many rounds as there are classes no round changes anything: each one but the last lets some class go on no longer.
use Rattle.std.proofs.Common.{◌≡◌, refl, sym, ◌∙◌, ap, ℕ, zero, suc, ◌+◌, ◌<◌, ◌≤◌, ◌⊎◌, inl, inr, Bool, true, false, List, length, arith}
use Rattle.std.proofs.lemmas.Bool.{cases_lt, false≢true}
use Rattle.fm_link_supers.proofs.InterfaceLemmas.{goes_deep_ends, stays}
use Rattle.fm_world.specs.Causes.{goes_deep}
use Rattle.fm_world.specs.declared.declarations.DeclaredClass.{DeclaredClass}

-- how many numbers below n pass a test
abbrev pub bit : Bool → ℕ
bit true = 1
bit false = 0

abbrev pub count_below : (ℕ → Bool) → ℕ → ℕ
count_below f zero = 0
count_below f (suc n) = bit (f n) + count_below f n

bit_small : (b : Bool) → bit b ≤ 1
bit_small true = omega arith
bit_small false = omega arith

count_small : (f : ℕ → Bool) (n : ℕ) → count_below f n ≤ n
count_small f zero = omega arith
count_small f (suc n) = let one = bit_small (f n) in let rest = count_small f n in omega (arith, one, rest)

none_counted : (f : ℕ → Bool) (n k : ℕ) → k < n → count_below f n ≡ 0 → f k ≡ false
none_counted f zero k h none = absurd (omega (arith, h))
none_counted f (suc n) k h none = by_place (λ less. none_counted f n k less (omega (arith, none))) (cases_lt k n) where
  unset : (b : Bool) → bit b ≡ 0 → b ≡ false
  unset false e = refl
  unset true e = absurd (omega (arith, e))

  by_place : (k < n → f k ≡ false) → (k < n) ⊎ (n ≤ k) → f k ≡ false
  by_place before (inl less) = before less
  by_place before (inr more) = let same : k ≡ n = omega (arith, h, more) in ap f same ∙ unset (f n) (omega (arith, none))

bit_less : (a b : Bool) → (a ≡ false → b ≡ false) → bit b ≤ bit a
bit_less true b e = bit_small b
bit_less false b e = let none = ap bit (e refl) in omega (arith, none)

count_less : (f g : ℕ → Bool) → ((k : ℕ) → f k ≡ false → g k ≡ false) → (n : ℕ) → count_below g n ≤ count_below f n
count_less f g ends zero = omega arith
count_less f g ends (suc n) = let one = bit_less (f n) (g n) (ends n) in let rest = count_less f g ends n in omega (arith, one, rest)

-- one test passes where another one does, or fewer numbers pass it
abbrev pub AgreeBelow : (ℕ → Bool) → (ℕ → Bool) → ℕ → Type 0
AgreeBelow f g n = (k : ℕ) → k < n → g k ≡ f k

agree_more : (f g : ℕ → Bool) (n : ℕ) → AgreeBelow f g n → g n ≡ f n → AgreeBelow f g (suc n)
agree_more f g n same here k h = by_place (cases_lt k n) where
  by_place : (k < n) ⊎ (n ≤ k) → g k ≡ f k
  by_place (inl less) = same k less
  by_place (inr more) = let e : k ≡ n = omega (arith, h, more) in ap g e ∙ here ∙ ap f (sym e)

fewer_more : (f g : ℕ → Bool) (n : ℕ) → ((k : ℕ) → f k ≡ false → g k ≡ false) → AgreeBelow f g n ⊎ (count_below g n < count_below f n)
    → (a b : Bool) → f n ≡ a → g n ≡ b → AgreeBelow f g (suc n) ⊎ (count_below g (suc n) < count_below f (suc n))
fewer_more f g n ends (inr less) a b is other = inr (let one = bit_less (f n) (g n) (ends n) in omega (arith, less, one))
fewer_more f g n ends (inl same) true true is other = inl (agree_more f g n same (other ∙ sym is))
fewer_more f g n ends (inl same) false false is other = inl (agree_more f g n same (other ∙ sym is))
fewer_more f g n ends (inl same) false true is other = absurd (false≢true (sym (ends n is) ∙ other))
fewer_more f g n ends (inl same) true false is other =
    inr (let x = ap bit is in let y = ap bit other in let rest = count_less f g ends n in omega (arith, x, y, rest))

fewer : (f g : ℕ → Bool) → ((k : ℕ) → f k ≡ false → g k ≡ false) → (n : ℕ) → AgreeBelow f g n ⊎ (count_below g n < count_below f n)
fewer f g ends zero = inl (λ k h. absurd (omega (arith, h)))
fewer f g ends (suc n) = fewer_more f g n ends (fewer f g ends n) (f n) (g n) refl refl

-- ---- rounds

abbrev pub EndsHere : List DeclaredClass → ℕ → Type 0
EndsHere classes round = AgreeBelow (goes_deep round classes) (goes_deep (suc round) classes) (length classes)

ends_after : (classes : List DeclaredClass) (round : ℕ) → EndsHere classes round → EndsHere classes (suc round)
ends_after classes round same k h =
    stays classes round (suc (suc round)) (omega arith) same k h ∙ sym (same k h)

next_round : (classes : List DeclaredClass) (round : ℕ)
    → EndsHere classes round ⊎ (count_below (goes_deep (suc round) classes) (length classes) < count_below (goes_deep round classes) (length classes))
    → EndsHere classes round ⊎ (count_below (goes_deep round classes) (length classes) + round ≤ length classes)
    → EndsHere classes (suc round) ⊎ (count_below (goes_deep (suc round) classes) (length classes) + suc round ≤ length classes)
next_round classes round (inl same) so_far = inl (ends_after classes round same)
next_round classes round (inr less) (inl same) = inl (ends_after classes round same)
next_round classes round (inr less) (inr few) = inr (omega (arith, less, few))

few_left : (classes : List DeclaredClass) (round : ℕ)
    → EndsHere classes round ⊎ (count_below (goes_deep round classes) (length classes) + round ≤ length classes)
few_left classes zero = inr (let small = count_small (goes_deep 0 classes) (length classes) in omega (arith, small))
few_left classes (suc round) =
    next_round classes round
    (fewer (goes_deep round classes) (goes_deep (suc round) classes) (λ k e. goes_deep_ends classes round k e) (length classes)) (few_left classes round)

-- a class whose chains end has fewer members in them than there are classes
pub ends_within : (classes : List DeclaredClass) (class : ℕ) → class < length classes → goes_deep (suc (length classes)) classes class ≡ false
    → goes_deep (length classes) classes class ≡ false
ends_within classes class within e = by_case (few_left classes (length classes)) where
  by_case : EndsHere classes (length classes) ⊎ (count_below (goes_deep (length classes) classes) (length classes) + length classes ≤ length classes)
      → goes_deep (length classes) classes class ≡ false
  by_case (inl same) = sym (same class within) ∙ e
  by_case (inr few) = none_counted (goes_deep (length classes) classes) (length classes) class within (omega (arith, few))
