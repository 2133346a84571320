-- Reading what is at the indices of a pool, as a loop does.
use Rattle.std.proofs.Common.{◌≡◌, ℕ, suc, ◌-◌, ◌+◌, ◌≤◌, ◌<◌, Bool, true, false, List, [], ◌∷◌, ◌++◌, Option, Some, None, refl, sym, ap, ◌∙◌, arith}
use Rattle.std.proofs.lemmas.List.{append-nil}
use Rattle.fm_code.specs.ConstantPool.{takes_two}
use Rattle.fm_code.specs.declared.constant_pool.Entry.{Entry}
use Rattle.fm_code.specs.declared.error.PieceFail.{PieceFail}
use Rattle.fm_code.specs.declared.error.PieceFail.TheVariants as fail
use Rattle.fm_code.specs.inner.Reading.{Fails, with_prefix}
use Rattle.fm_code.proofs.Several.{regroup}
use Rattle.fm_pool.specs.inner.Reading.{slot_at, slots_at}

-- what the loop has read, in front of what it has yet to read, is the whole
abbrev pub IsWhole : List Entry → Bool → ℕ → List ℕ → Option (List Entry × List ℕ) → Type 0
IsWhole front due count bytes whole = with_prefix front (slots_at due count bytes) ≡ whole

-- one more slot was read
pub next_slot : (front : List Entry) (due : Bool) (count i : ℕ) (bytes : List ℕ) (x : Entry) (after : List ℕ) (whole : Option (List Entry × List ℕ)) → i < count → slot_at due bytes ≡ Some (x, after)
    → IsWhole front due (count - i) bytes whole → IsWhole (front ++ x ∷ []) (takes_two x) (count - (i + 1)) after whole
unfolding slots_at
next_slot front due count i bytes x after whole lt h so_far =
    let k : count - i ≡ suc (count - (i + 1)) = omega arith in
    let one : with_prefix front (slots_at due (count - i) bytes) ≡ with_prefix (front ++ x ∷ []) (slots_at (takes_two x) (count - (i + 1)) after) = rw (k, h) (regroup front x (slots_at (takes_two x) (count - (i + 1)) after)) in
    sym one ∙ so_far

-- where a slot isn't read, the whole isn't
pub no_slot : (e : PieceFail) (front : List Entry) (due : Bool) (count i : ℕ) (bytes : List ℕ) (whole : Option (List Entry × List ℕ)) → i < count → Fails e (slot_at due bytes) → IsWhole front due (count - i) bytes whole → Fails e whole
unfolding slots_at
no_slot fail.NoMemory front due count i bytes whole lt h so_far = tt
no_slot fail.Malformed front due count i bytes whole lt h so_far =
    let k : count - i ≡ suc (count - (i + 1)) = omega arith in
    let none : with_prefix front (slots_at due (count - i) bytes) ≡ None = rw (k, h) refl in
    sym so_far ∙ none

-- after the last index nothing may be due
pub last_due : (front : List Entry) (due : Bool) (count i : ℕ) (bytes : List ℕ) (whole : Option (List Entry × List ℕ)) → due ≡ true → count ≤ i → IsWhole front due (count - i) bytes whole → whole ≡ None
unfolding slots_at
last_due front due count i bytes whole is le so_far =
    let k : count - i ≡ 0 = omega arith in
    let none : with_prefix front (slots_at due (count - i) bytes) ≡ None = rw (k, is) refl in
    sym so_far ∙ none

pub last_done : (front : List Entry) (due : Bool) (count i : ℕ) (bytes : List ℕ) (whole : Option (List Entry × List ℕ)) → due ≡ false → count ≤ i → IsWhole front due (count - i) bytes whole → whole ≡ Some (front, bytes)
unfolding slots_at
last_done front due count i bytes whole is le so_far =
    let k : count - i ≡ 0 = omega arith in
    let done : with_prefix front (slots_at due (count - i) bytes) ≡ Some (front, bytes) = rw (k, is) (ap (λ (xs : List Entry). Some (xs, bytes)) (append-nil front)) in
    sym so_far ∙ done
