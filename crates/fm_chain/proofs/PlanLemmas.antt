-- The flags of holders, by the pairs of a plan in turn.
use Rattle.std.proofs.Common.{◌≡◌, ℕ, zero, suc, ◌+◌, ◌<◌, Bool, true, false, List, [], ◌∷◌, length, get_or, set, drop, ap, sym, ◌∙◌, arith, if◌then◌else◌, length-set}
use Rattle.std.proofs.Math.Seq.{drop-cons}
use Rattle.std.specs.List.{AllByRecursion}
use Rattle.fm_chain.specs.Loops.{is_looped}
use Rattle.fm_chain.specs.Planned.{flags_with, IsSiteIn}
use Rattle.fm_code.specs.declared.code_array.Code.{Code}

-- the pair at an index is of an item and a holder
pub site_at : (code : Code) (holders : ℕ) (pairs : List (ℕ × ℕ)) (i : ℕ) → AllByRecursion (IsSiteIn code holders) pairs → i < length pairs → IsSiteIn code holders (get_or pairs i (0, 0))
site_at code holders [] i all within = absurd (omega arith)
site_at code holders (p ∷ pairs) zero (one, rest) within = one
site_at code holders (p ∷ pairs) (suc i) (one, rest) within = site_at code holders pairs i rest (omega arith)

-- the flags after one pair more
pub flags_step : (code : Code) (row new : List Bool) (test : Bool) (after : List (ℕ × ℕ)) (i : ℕ) (all : List Bool) → i < length after
    → test ≡ is_looped code (get_or after i (0, 0)).0 → new ≡ (if test then set row (get_or after i (0, 0)).1 true else row)
    → flags_with code row (drop i after) ≡ all → flags_with code new (drop (i + 1) after) ≡ all
flags_step code row new test after i all within is set_if so_far =
    let p = get_or after i (0, 0) in
    let next : i + 1 ≡ suc i = omega arith in
    ap (λ k. flags_with code new (drop k after)) next
    ∙ ap (λ (flags : List Bool). flags_with code flags (drop (suc i) after)) (set_if ∙ ap (λ (b : Bool). if b then set row p.1 true else row) is)
    ∙ ap (λ list. flags_with code row list) (sym (drop-cons after i (0, 0) within))
    ∙ so_far

-- there are as many as before
pub flags_size : (row new : List Bool) (test : Bool) (holder size : ℕ) → new ≡ (if test then set row holder true else row) → length row ≡ size → length new ≡ size
flags_size row new true holder size is before = ap (λ (flags : List Bool). length flags) is ∙ length-set row holder true ∙ before
flags_size row new false holder size is before = ap (λ (flags : List Bool). length flags) is ∙ before
