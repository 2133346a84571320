-- Each opcode has the shape that the instruction table gives it.
use Rattle.std.proofs.Common.{◌≡◌, ℕ, zero, suc, ◌+◌, ◌<◌, ◌≤◌, map, refl, sym, subst, arith, inl, inr}
use Rattle.std.specs.List.{AllByRecursion, range_with_len}
use Rattle.std.proofs.lemmas.Bool.{cases_lt}
use Rattle.std.proofs.lemmas.List.{get_or_past}
use Rattle.fm_code.specs.InstructionTable.{Row, rows, malformed, reading_of}
use Rattle.fm_decode.specs.inner.Shapes.{listed_reading, constant_opcodes, load_opcodes, store_opcodes, arithmetic_opcodes, conversion_opcodes, jump_opcodes, object_opcodes}

-- what holds of each number of a range
between : (P : ℕ → Type 0) (low n : ℕ) → AllByRecursion P (range_with_len low n) → (k : ℕ) → low ≤ k → k < low + n → P k
between P low zero all k above below = absurd (omega arith)
between P low (suc n) all k above below =
    elim (cases_lt low k) [
      | inl lt ↦ between P (low + 1) n all.1 k (omega arith) (omega arith)
      | inr le ↦ let same : low ≡ k = omega arith in subst P same all.0
    ]

infixr 5 ◌also◌
-- an opcode's fact in front of those of the later ones
◌also◌ : {A B : Type 0} → A → B → A × B
a also b = (a, b)

-- 0 to 20
pub constant_opcodes-as_listed : (opcode : ℕ) → 0 ≤ opcode → opcode ≤ 20 → listed_reading constant_opcodes opcode ≡ reading_of opcode
constant_opcodes-as_listed opcode above below = between (λ k. listed_reading constant_opcodes k ≡ reading_of k) 0 21 each opcode above (omega arith) where
  each : AllByRecursion (λ k. listed_reading constant_opcodes k ≡ reading_of k) (range_with_len 0 21)
  each =
      refl also refl also refl also refl also refl also refl also refl also refl also refl also refl also refl also refl also refl also refl also refl also refl
      also refl also refl also refl also refl also refl also tt

-- 21 to 53
pub load_opcodes-as_listed : (opcode : ℕ) → 21 ≤ opcode → opcode ≤ 53 → listed_reading load_opcodes opcode ≡ reading_of opcode
load_opcodes-as_listed opcode above below = between (λ k. listed_reading load_opcodes k ≡ reading_of k) 21 33 each opcode above (omega arith) where
  each : AllByRecursion (λ k. listed_reading load_opcodes k ≡ reading_of k) (range_with_len 21 33)
  each =
      refl also refl also refl also refl also refl also refl also refl also refl also refl also refl also refl also refl also refl also refl also refl also refl
      also refl also refl also refl also refl also refl also refl also refl also refl also refl also refl also refl also refl also refl also refl also refl also refl
      also refl also tt

-- 54 to 95
pub store_opcodes-as_listed : (opcode : ℕ) → 54 ≤ opcode → opcode ≤ 95 → listed_reading store_opcodes opcode ≡ reading_of opcode
store_opcodes-as_listed opcode above below = between (λ k. listed_reading store_opcodes k ≡ reading_of k) 54 42 each opcode above (omega arith) where
  each : AllByRecursion (λ k. listed_reading store_opcodes k ≡ reading_of k) (range_with_len 54 42)
  each =
      refl also refl also refl also refl also refl also refl also refl also refl also refl also refl also refl also refl also refl also refl also refl also refl
      also refl also refl also refl also refl also refl also refl also refl also refl also refl also refl also refl also refl also refl also refl also refl also refl
      also refl also refl also refl also refl also refl also refl also refl also refl also refl also refl also tt

-- 96 to 131
pub arithmetic_opcodes-as_listed : (opcode : ℕ) → 96 ≤ opcode → opcode ≤ 131 → listed_reading arithmetic_opcodes opcode ≡ reading_of opcode
arithmetic_opcodes-as_listed opcode above below = between (λ k. listed_reading arithmetic_opcodes k ≡ reading_of k) 96 36 each opcode above (omega arith) where
  each : AllByRecursion (λ k. listed_reading arithmetic_opcodes k ≡ reading_of k) (range_with_len 96 36)
  each =
      refl also refl also refl also refl also refl also refl also refl also refl also refl also refl also refl also refl also refl also refl also refl also refl
      also refl also refl also refl also refl also refl also refl also refl also refl also refl also refl also refl also refl also refl also refl also refl also refl
      also refl also refl also refl also refl also tt

-- 132 to 152
pub conversion_opcodes-as_listed : (opcode : ℕ) → 132 ≤ opcode → opcode ≤ 152 → listed_reading conversion_opcodes opcode ≡ reading_of opcode
conversion_opcodes-as_listed opcode above below = between (λ k. listed_reading conversion_opcodes k ≡ reading_of k) 132 21 each opcode above (omega arith) where
  each : AllByRecursion (λ k. listed_reading conversion_opcodes k ≡ reading_of k) (range_with_len 132 21)
  each =
      refl also refl also refl also refl also refl also refl also refl also refl also refl also refl also refl also refl also refl also refl also refl also refl
      also refl also refl also refl also refl also refl also tt

-- 153 to 177
pub jump_opcodes-as_listed : (opcode : ℕ) → 153 ≤ opcode → opcode ≤ 177 → listed_reading jump_opcodes opcode ≡ reading_of opcode
jump_opcodes-as_listed opcode above below = between (λ k. listed_reading jump_opcodes k ≡ reading_of k) 153 25 each opcode above (omega arith) where
  each : AllByRecursion (λ k. listed_reading jump_opcodes k ≡ reading_of k) (range_with_len 153 25)
  each =
      refl also refl also refl also refl also refl also refl also refl also refl also refl also refl also refl also refl also refl also refl also refl also refl
      also refl also refl also refl also refl also refl also refl also refl also refl also refl also tt

-- 178 to 201
pub object_opcodes-as_listed : (opcode : ℕ) → 178 ≤ opcode → opcode ≤ 201 → listed_reading object_opcodes opcode ≡ reading_of opcode
object_opcodes-as_listed opcode above below = between (λ k. listed_reading object_opcodes k ≡ reading_of k) 178 24 each opcode above (omega arith) where
  each : AllByRecursion (λ k. listed_reading object_opcodes k ≡ reading_of k) (range_with_len 178 24)
  each =
      refl also refl also refl also refl also refl also refl also refl also refl also refl also refl also refl also refl also refl also refl also refl also refl
      also refl also refl also refl also refl also refl also refl also refl also refl also tt

-- from 202 on no row is in the table
pub reading_of-past : (opcode : ℕ) → 202 ≤ opcode → malformed ≡ reading_of opcode
reading_of-past opcode past = sym (get_or_past (map (λ (row : Row). row.1) rows) opcode malformed past)
