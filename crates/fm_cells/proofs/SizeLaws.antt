-- Size classes: the first one that has room, and how far a cell is above the words that it holds.
use Rattle.std.proofs.Common.{◌≡◌, ℕ, zero, suc, ◌+◌, ◌-◌, ◌*◌, ◌^◌, ◌<◌, ◌≤◌, true, false, refl, sym, ◌∙◌, ap, subst, arith, inl, inr}
use Rattle.std.proofs.Math.Nat.{pow-le-pow_right}
use Rattle.std.specs.Prelude.{nat_le, cond}
use Rattle.std.proofs.lemmas.Bool.{leb-true, leb-false, le-leb, lt-leb, cases_lt}
use Rattle.fm_cells.specs.Sizes.{class_words, first_class, size_class, cell_words}

pow-mono : (i j : ℕ) → i ≤ j → 2 ^ i ≤ 2 ^ j
pow-mono i j h = pow-le-pow_right (omega arith) {i = i} {j = j} h

-- up to 32 the words of a cell are its size class
pub class_words-small : (s : ℕ) → s ≤ 32 → class_words s ≡ s
class_words-small s h = rw (le-leb s 32 h) refl

-- above 32 they are a power of two
pub class_words-large : (s : ℕ) → 32 < s → class_words s ≡ 2 ^ (s - 27)
class_words-large s h = rw (lt-leb s 32 h) refl

-- a higher size class has larger cells
pub class_words-mono : (s t : ℕ) → s ≤ t → class_words s ≤ class_words t
class_words-mono s t h =
    elim (nat_le t 32) as (λ b. nat_le t 32 ≡ b → class_words s ≤ class_words t) [
      | true ↦ λ e. let low : t ≤ 32 = leb-true t 32 e in omega (arith, class_words-small s (omega arith), class_words-small t low)
      | false ↦ λ e. let high : 32 < t = leb-false t 32 e in
          elim (nat_le s 32) as (λ b. nat_le s 32 ≡ b → class_words s ≤ class_words t) [
            | true ↦ λ f. let low : s ≤ 32 = leb-true s 32 f in
                let big : 2 ^ 6 ≤ 2 ^ (t - 27) = pow-mono 6 (t - 27) (omega arith) in
                omega (arith, class_words-small s low, class_words-large t high, big)
            | false ↦ λ f. let high' : 32 < s = leb-false s 32 f in
                let big : 2 ^ (s - 27) ≤ 2 ^ (t - 27) = pow-mono (s - 27) (t - 27) (omega arith) in
                omega (arith, class_words-large s high', class_words-large t high, big)
          ] refl
    ] refl

first_class-is : (more from s n : ℕ) → from ≤ s → s ≤ from + more → n ≤ class_words s → ((t : ℕ) → from ≤ t → t < s → class_words t < n) → first_class more from n ≡ s
first_class-is zero from s n a b fits below = omega arith
first_class-is (suc more) from s n a b fits below =
    elim (nat_le n (class_words from)) as (λ r. nat_le n (class_words from) ≡ r → cond r from (first_class more (suc from) n) ≡ s) [
      | true ↦ λ e. let here : n ≤ class_words from = leb-true n (class_words from) e in
          elim (nat_le s from) as (λ r. nat_le s from ≡ r → from ≡ s) [
            | true ↦ λ f. omega (arith, leb-true s from f)
            | false ↦ λ f. let over : class_words from < n = below from (omega arith) (leb-false s from f) in absurd (omega arith)
          ] refl
      | false ↦ λ e. let over : class_words from < n = leb-false n (class_words from) e in
          let next : suc from ≤ s = elim (cases_lt from s) as (λ _. suc from ≤ s) [
            | inl up ↦ omega arith
            | inr low ↦ let no_more : class_words s ≤ class_words from = class_words-mono s from low in absurd (omega arith)
          ] in
          first_class-is more (suc from) s n next (omega arith) fits (λ t h k. below t (omega arith) k)
    ] refl

-- the size class of n words is the one whose cells have n words, where those of the one below have fewer
pub size_class-is : (n s : ℕ) → s < 64 → n ≤ class_words s → ((t : ℕ) → t < s → class_words t < n) → size_class n ≡ s
unfolding size_class
size_class-is n s bound fits below = first_class-is 63 0 s n (omega arith) (omega arith) fits (λ t _ h. below t h)

-- what is found from a class on has room, and no class before it has
first_class-fits : (more from n : ℕ) → n ≤ class_words (from + more) → (n ≤ class_words (first_class more from n)) × ((t : ℕ) → from ≤ t → t < first_class more from n → class_words t < n) × (first_class more from n ≤ from + more)
first_class-fits zero from n h = (let e : from + zero ≡ from = omega arith in subst (λ k. n ≤ class_words k) e h, λ t a b. absurd (omega arith), omega arith)
first_class-fits (suc more) from n h =
    elim (nat_le n (class_words from)) as (λ r. nat_le n (class_words from) ≡ r → (n ≤ class_words (cond r from (first_class more (suc from) n))) × ((t : ℕ) → from ≤ t → t < cond r from (first_class more (suc from) n) → class_words t < n) × (cond r from (first_class more (suc from) n) ≤ from + suc more)) [
      | true ↦ λ e. (leb-true n (class_words from) e, λ t a b. absurd (omega arith), omega arith)
      | false ↦ λ e. let over : class_words from < n = leb-false n (class_words from) e in
          let rest = first_class-fits more (suc from) n (let e : from + suc more ≡ suc from + more = omega arith in subst (λ k. n ≤ class_words k) e h) in (
            rest.0,
            λ t a b. elim (nat_le t from) as (λ r. nat_le t from ≡ r → class_words t < n) [
              | true ↦ λ f. let low : t ≤ from = leb-true t from f in let small : class_words t ≤ class_words from = class_words-mono t from low in omega arith
              | false ↦ λ f. let up : from < t = leb-false t from f in rest.1 t (omega arith) b
            ] refl,
            omega (arith, rest.2),
          )
    ] refl

last_class : class_words 63 ≡ 2 ^ 36
last_class = refl

-- a cell has room for the words that it holds
pub words-le-cell_words : (n : ℕ) → n ≤ 2 ^ 36 → n ≤ cell_words n
unfolding size_class
words-le-cell_words n h = (first_class-fits 63 0 n h).0

-- the cells of the size classes below have less
pub below-size_class : (n t : ℕ) → n ≤ 2 ^ 36 → t < size_class n → class_words t < n
unfolding size_class
below-size_class n t h = (first_class-fits 63 0 n h).1 t (omega arith)

-- there are 64 size classes
first_class-le : (more from n : ℕ) → first_class more from n ≤ from + more
first_class-le zero from n = omega arith
first_class-le (suc more) from n = elim (nat_le n (class_words from)) as (λ r. cond r from (first_class more (suc from) n) ≤ from + suc more) [
  | true ↦ omega arith
  | false ↦ omega (arith, first_class-le more (suc from) n)
]

pub size_class-lt : (n : ℕ) → size_class n < 64
unfolding size_class
size_class-lt n = omega (arith, first_class-le 63 0 n)

-- a size class above 1 has cells of two words at least, and two words or more are of such a class
first_class-ge : (more from n : ℕ) → from ≤ first_class more from n
first_class-ge zero from n = omega arith
first_class-ge (suc more) from n = elim (nat_le n (class_words from)) as (λ r. from ≤ cond r from (first_class more (suc from) n)) [
  | true ↦ omega arith
  | false ↦ omega (arith, first_class-ge more (suc from) n)
]

pub size_class-ge : (n : ℕ) → 2 ≤ n → 2 ≤ size_class n
unfolding size_class
size_class-ge n h =
    elim (nat_le n 0) as (λ r. nat_le n 0 ≡ r → 2 ≤ cond r 0 (first_class 62 1 n)) [
      | true ↦ λ e. let low : n ≤ 0 = leb-true n 0 e in absurd (omega arith)
      | false ↦ λ _. elim (nat_le n 1) as (λ r. nat_le n 1 ≡ r → 2 ≤ cond r 1 (first_class 61 2 n)) [
        | true ↦ λ e. let low : n ≤ 1 = leb-true n 1 e in absurd (omega arith)
        | false ↦ λ _. first_class-ge 61 2 n
      ] refl
    ] refl

pub cell_words-ge : (n : ℕ) → 2 ≤ n → 2 ≤ cell_words n
cell_words-ge n h = let wide : class_words 2 ≤ cell_words n = class_words-mono 2 (size_class n) (size_class-ge n h) in omega arith

-- the words of a size class are below the double of those of the one below it
class_words-step : (s : ℕ) → 0 < s → class_words (suc s) ≤ 2 * class_words s
class_words-step s h =
    elim (nat_le s 31) as (λ r. nat_le s 31 ≡ r → class_words (suc s) ≤ 2 * class_words s) [
      | true ↦ λ e. let low : s ≤ 31 = leb-true s 31 e in omega (arith, class_words-small s (omega arith), class_words-small (suc s) (omega arith))
      | false ↦ λ e. let up : 31 < s = leb-false s 31 e in
          elim (nat_le s 32) as (λ r. nat_le s 32 ≡ r → class_words (suc s) ≤ 2 * class_words s) [
            | true ↦ λ f. let is : s ≡ 32 = omega (arith, leb-true s 32 f) in subst (λ k. class_words (suc k) ≤ 2 * class_words k) (sym is) (omega arith)
            | false ↦ λ f. let high : 32 < s = leb-false s 32 f in
                let exponent : suc s - 27 ≡ suc (s - 27) = omega arith in
                let doubled : 2 ^ (suc s - 27) ≡ 2 * 2 ^ (s - 27) = ap (λ k. 2 ^ k) exponent ∙ grind arith in
                omega (arith, class_words-large s high, class_words-large (suc s) (omega arith), doubled)
          ] refl
    ] refl

-- the words of a cell are below the double of the words that it holds
pub cell_words-lt-double : (n : ℕ) → 0 < n → n ≤ 2 ^ 36 → cell_words n < 2 * n
cell_words-lt-double n pos h =
    let s = size_class n in
    elim s as (λ s. size_class n ≡ s → class_words s < 2 * n) [
      | zero ↦ λ e. omega (arith, class_words-small 0 (omega arith))
      | suc zero ↦ λ e. omega (arith, class_words-small 1 (omega arith))
      | suc (suc s) ↦ λ e. let under : class_words (suc s) < n = below-size_class n (suc s) h (omega arith) in omega (arith, class_words-step (suc s) (omega arith))
    ] refl

-- up to 32 the size class is the number of words
pub size_class-up_to_32 : (n : ℕ) → n ≤ 32 → n ≡ size_class n
size_class-up_to_32 n h = sym (size_class-is n n (omega arith) (omega (arith, class_words-small n h)) (λ t k. omega (arith, class_words-small t (omega arith))))

-- above 32 it is that of the power of two which has room, and whose half has none
pub size_class-power : (n s : ℕ) → 32 < n → 33 ≤ s → s < 64 → n ≤ 2 ^ (s - 27) → 2 ^ (s - 27) < 2 * n → s ≡ size_class n
size_class-power n s big above bound fits half =
    sym (size_class-is n s bound (omega (arith, class_words-large s (omega arith))) (λ t k.
    let step : class_words t ≤ class_words (s - 1) = class_words-mono t (s - 1) (omega arith) in
    elim (nat_le s 33) as (λ r. nat_le s 33 ≡ r → class_words t < n) [
      | true ↦ λ e. let low : class_words (s - 1) ≡ s - 1 = class_words-small (s - 1) (omega (arith, leb-true s 33 e)) in omega (arith, leb-true s 33 e)
      | false ↦ λ e. let up : 33 < s = leb-false s 33 e in
          let exponent : s - 27 ≡ suc (s - 1 - 27) = omega arith in
          let doubled : 2 ^ (s - 27) ≡ 2 * 2 ^ (s - 1 - 27) = ap (λ k. 2 ^ k) exponent ∙ grind arith in
          omega (arith, class_words-large (s - 1) (omega arith), doubled)
    ] refl))

-- a power of two below 2 ^ k has an exponent below k
pub exponent_below : (i k : ℕ) → 2 ^ i < 2 ^ k → i < k
exponent_below i k h =
    elim (nat_le k i) as (λ r. nat_le k i ≡ r → i < k) [
      | true ↦ λ e. let up : 2 ^ k ≤ 2 ^ i = pow-mono k i (leb-true k i e) in absurd (omega arith)
      | false ↦ λ e. leb-false k i e
    ] refl

-- the cell of the next class is twice as large
pub pow-next : (cell s : ℕ) → 27 ≤ s → cell ≡ 2 ^ (s - 27) → cell * 2 ≡ 2 ^ (s + 1 - 27)
pow-next cell s h e =
    let exponent : s + 1 - 27 ≡ suc (s - 27) = omega arith in
    let doubled : 2 ^ (s + 1 - 27) ≡ 2 * 2 ^ (s - 27) = ap (λ k. 2 ^ k) exponent ∙ grind arith in
    omega (arith, doubled)
