-- How many bits of a row aren't set.
use Rattle.std.proofs.Common.{◌≡◌, ℕ, zero, suc, ◌+◌, ◌<◌, ◌≤◌, Bool, true, false, not, cond, List, [], ◌∷◌, length, get_or, set, refl, ap, sym, arith}
use Rattle.std.proofs.lemmas.Bool.{false≢true}
use Rattle.std.proofs.lemmas.List.Sums.{sum_by-cons, sum_by-set}
use Rattle.fm_base.specs.Rows.{has}
use Rattle.fm_flow.specs.Marking.{unset}

-- one bit fewer is unset
pub unset-set : (row : List Bool) (i : ℕ) → i < length row → has row i ≡ false → unset (set row i true) + 1 ≡ unset row
unset-set row i inside is =
    let one : Bool → ℕ = λ b. cond (not b) 1 0 in
    let change : unset (set row i true) + one (get_or row i false) ≡ unset row + one true = sum_by-set one row i true false inside in
    let was : one (get_or row i false) ≡ 1 = ap one is in
    omega arith

pub unset-cons : (x : Bool) (row : List Bool) → unset (x ∷ row) ≡ cond (not x) 1 0 + unset row
unset-cons x row = sum_by-cons (λ b. cond (not b) 1 0) x row

-- no more where all bits stay set
pub unset-le : (old new : List Bool) → length new ≡ length old → ((k : ℕ) → has old k ≡ true → has new k ≡ true) → unset new ≤ unset old
unset-le [] [] same kept = omega arith
unset-le [] (y ∷ new) same kept = absurd (omega arith)
unset-le (x ∷ old) [] same kept = absurd (omega arith)
unset-le (true ∷ old) (true ∷ new) same kept =
    let rest = unset-le old new (omega arith) (λ k is. kept (suc k) is) in omega (arith, unset-cons true old, unset-cons true new)
unset-le (true ∷ old) (false ∷ new) same kept = absurd (false≢true (kept 0 refl))
unset-le (false ∷ old) (true ∷ new) same kept =
    let rest = unset-le old new (omega arith) (λ k is. kept (suc k) is) in omega (arith, unset-cons false old, unset-cons true new)
unset-le (false ∷ old) (false ∷ new) same kept =
    let rest = unset-le old new (omega arith) (λ k is. kept (suc k) is) in omega (arith, unset-cons false old, unset-cons false new)

-- fewer where a bit was added
pub unset-lt : (old new : List Bool) (i : ℕ) → length new ≡ length old → ((k : ℕ) → has old k ≡ true → has new k ≡ true) → has old i ≡ false → has new i ≡ true →
    unset new + 1 ≤ unset old
unset-lt [] [] i same kept was is = absurd (false≢true is)
unset-lt [] (y ∷ new) i same kept was is = absurd (omega arith)
unset-lt (x ∷ old) [] i same kept was is = absurd (omega arith)
unset-lt (true ∷ old) (y ∷ new) zero same kept was is = absurd (false≢true (sym was))
unset-lt (false ∷ old) (false ∷ new) zero same kept was is = absurd (false≢true is)
unset-lt (false ∷ old) (true ∷ new) zero same kept was is =
    let rest = unset-le old new (omega arith) (λ k is. kept (suc k) is) in omega (arith, unset-cons false old, unset-cons true new)
unset-lt (true ∷ old) (true ∷ new) (suc i) same kept was is =
    let rest = unset-lt old new i (omega arith) (λ k is. kept (suc k) is) was is in omega (arith, unset-cons true old, unset-cons true new)
unset-lt (true ∷ old) (false ∷ new) (suc i) same kept was is = absurd (false≢true (kept 0 refl))
unset-lt (false ∷ old) (true ∷ new) (suc i) same kept was is =
    let rest = unset-lt old new i (omega arith) (λ k is. kept (suc k) is) was is in omega (arith, unset-cons false old, unset-cons true new)
unset-lt (false ∷ old) (false ∷ new) (suc i) same kept was is =
    let rest = unset-lt old new i (omega arith) (λ k is. kept (suc k) is) was is in omega (arith, unset-cons false old, unset-cons false new)
