-- Whether holders are freed where it is safe, and wherever they have to be, by rows of where their classes are busy and where they may hold something.
use Rattle.std.specs.Prelude.{ℕ, zero, suc, ◌+◌, ◌==◌, ◌&&◌, ◌||◌, not, Bool, true, List, [], ◌∷◌, length, nat_lt, slice_index}
use Rattle.std.specs.List.{list_all, list_any, range_with_len}
use Rattle.fm_base.specs.Rows.{has}
use Rattle.fm_flow.specs.inner.LiveWalks.{row_of}
use Rattle.fm_place.specs.inner.PlanRows.{is_freed}
use Rattle.fm_place_weave.specs.ByPlan.{here, later}

-- one of these pairs is of this holder
abbrev pub lists : (pairs : List (ℕ × ℕ)) → ℕ → Bool
lists pairs h = list_any (λ (p : ℕ × ℕ). h == p.1) pairs

-- no holder is in two of them
abbrev pub is_once : (pairs : List (ℕ × ℕ)) → Bool
is_once [] = true
is_once (p ∷ pairs) = not (lists pairs p.1) && is_once pairs

-- there is such a holder, and its class isn't busy at an item
abbrev pub is_quiet : (classes : List ℕ) → (busy : List (List Bool)) → (item : ℕ) → ℕ × ℕ → Bool
is_quiet classes busy item p = nat_lt p.1 (length classes) && not (has (row_of busy (slice_index classes p.1)) item)

-- a holder that has to be freed before an item is freed there
abbrev pub is_freed_there : (classes : List ℕ) → (busy rows : List (List Bool)) → (item : ℕ) → (pairs : List (ℕ × ℕ)) → ℕ → Bool
is_freed_there classes busy rows item pairs h = not (is_freed classes busy rows item h) || lists pairs h

-- all that have to be freed before an item are
abbrev pub are_freed_there : (classes : List ℕ) → (busy rows : List (List Bool)) → (item : ℕ) → (pairs : List (ℕ × ℕ)) → Bool
are_freed_there classes busy rows item pairs = list_all (is_freed_there classes busy rows item pairs) (range_with_len 0 (length classes))

-- Before an item no holder is freed twice, none whose class is busy, and all that may hold something and whose class isn't busy.
abbrev pub is_safe_at : (classes : List ℕ) → (busy rows : List (List Bool)) → (item : ℕ) → (pairs : List (ℕ × ℕ)) → Bool
is_safe_at classes busy rows item pairs =
    is_once pairs && (list_all (is_quiet classes busy item) pairs && are_freed_there classes busy rows item pairs)

-- a test holds of each of this many items, from one on, with its pairs
abbrev pub all_from : (test : ℕ → List (ℕ × ℕ) → Bool) → (item count : ℕ) → (pairs : List (ℕ × ℕ)) → Bool
all_from test item zero pairs = true
all_from test item (suc count) pairs = test item (here item pairs) && all_from test (item + 1) count (later item pairs)

-- no holder is freed twice
abbrev pub are_once_from : (item count : ℕ) → (pairs : List (ℕ × ℕ)) → Bool
are_once_from item count pairs = all_from (λ item own. is_once own) item count pairs

-- only holders are freed whose class isn't busy
abbrev pub are_quiet_from : (classes : List ℕ) → (busy : List (List Bool)) → (item count : ℕ) → (pairs : List (ℕ × ℕ)) → Bool
are_quiet_from classes busy item count pairs = all_from (λ item own. list_all (is_quiet classes busy item) own) item count pairs

-- the same of this many items, from one on, with the pairs of each
abbrev pub are_safe_from : (classes : List ℕ) → (busy rows : List (List Bool)) → (item count : ℕ) → (pairs : List (ℕ × ℕ)) → Bool
are_safe_from classes busy rows item zero pairs = true
are_safe_from classes busy rows item (suc count) pairs =
    is_safe_at classes busy rows item (here item pairs) && are_safe_from classes busy rows (item + 1) count (later item pairs)
