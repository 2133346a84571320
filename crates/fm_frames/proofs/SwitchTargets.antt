-- Switches lead to targets that they have.
use Rattle.std.proofs.Common.{◌≡◌, ◌≤◌, not, nat_lt, ltb-true, position, ℕ, ℤ, suc, ◌+◌, ◌<◌, ◌||◌, pos, ◌+ℤ◌, ◌-ℤ◌, int_lt, int_le, unsigned_abs, Bool, true, false, List, length, take, cond, Some, None, refl, arith}
use Rattle.std.proofs.lemmas.Bool.{or_parts}
use Rattle.std.proofs.lemmas.Int.{ints}
use Rattle.std.proofs.lemmas.List.{length-take}
use Rattle.std.specs.List.{prefix_len}
use Rattle.std.specs.Ordering.{int_eq}
use Rattle.fm_frames.specs.JumpRows.{key_target, table_target}

pub between : (low : ℤ) (count : ℕ) (key : ℤ) → int_lt key low ≡ false → int_le (low +ℤ pos count) key ≡ false → unsigned_abs (key -ℤ low) < count
between low count key first second = omega (arith, ints)

pub table_if : (b : Bool) (i n : ℕ) → (b ≡ false → i < n) → cond b 0 (i + 1) < suc n
table_if true i n h = omega arith
table_if false i n h = let lt : i < n = h refl in omega arith

pub table_within : (low : ℤ) (count : ℕ) (key : ℤ) → table_target low count key < suc count
table_within low count key =
    table_if (int_lt key low || int_le (low +ℤ pos count) key) (unsigned_abs (key -ℤ low)) count
    (λ e. let parts = or_parts (int_lt key low) (int_le (low +ℤ pos count) key) e in between low count key parts.0 parts.1)

pub within_if : (b : Bool) (i n : ℕ) → (b ≡ true → i < n) → key_target (cond b (Some i) None) < suc n
within_if true i n h = let lt : i < n = h refl in omega arith
within_if false i n h = omega arith

pub key_within : (keys : List ℤ) (key : ℤ) (n : ℕ) → length keys ≤ n → key_target (position (int_eq key) keys) < suc n
key_within keys key n le =
    let i : ℕ = prefix_len (λ other. not (int_eq key other)) keys in
    within_if (nat_lt i (length keys)) i n (λ e. let lt : i < length keys = ltb-true i (length keys) e in omega arith)

pub few_keys : (keys : List ℤ) (n : ℕ) → length (take n keys) ≤ n
few_keys keys n = omega (arith, length-take n keys)
