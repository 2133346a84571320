-- Lists one after the other in one vector.
use Rattle.std.proofs.Common.{◌≡◌, ℕ, zero, suc, ◌+◌, ◌-◌, ◌<◌, ◌≤◌, List, [], ◌∷◌, ◌++◌, length, take, drop, get_or, refl, ap, sym, ◌∙◌, ⊎_elim, arith, length-append, length-drop}
use Rattle.std.proofs.lemmas.Bool.{cases_lt}
use Rattle.std.proofs.lemmas.List.{ext_get_or, get_or_append_left, get_or_push, get_or_past, length_push, take-append-le, take_all, drop_at, drop-append-le}
use Rattle.std.proofs.lemmas.List.FromFn.{length-map-range_with_len, get_or-map-range_with_len}
use Rattle.std.specs.List.{slice_range}
use Rattle.fm_flow.specs.inner.EdgeLists.{list_at, lists_of, AreStarts}

-- there is a list for each start but the last
pub length-lists_of : (items starts : List ℕ) → length (lists_of items starts) ≡ length starts - 1
unfolding lists_of
length-lists_of items starts = length-map-range_with_len (list_at items starts) 0 (length starts - 1)

-- the list of a number
pub get_or-lists_of : (items starts : List ℕ) (j : ℕ) → j < length starts - 1 → get_or (lists_of items starts) j [] ≡ list_at items starts j
unfolding lists_of
get_or-lists_of items starts j below = get_or-map-range_with_len (list_at items starts) 0 (length starts - 1) j j [] below (omega arith)

-- no list
pub lists_of-none : lists_of [] (0 ∷ []) ≡ []
unfolding lists_of
lists_of-none = refl

zero_at : (j : ℕ) → get_or (0 ∷ []) j 0 ≤ 0
zero_at zero = omega arith
zero_at (suc j) = omega arith

pub AreStarts-none : AreStarts [] (0 ∷ [])
AreStarts-none = record { not_empty = omega arith; rising = λ j inside. absurd (omega arith); within = zero_at; last = refl }

-- a start more, at the end
start_before : (starts : List ℕ) (end j : ℕ) → j < length starts → get_or (starts ++ end ∷ []) j 0 ≡ get_or starts j 0
start_before starts end j below = get_or_append_left starts (end ∷ []) 0 j below

-- a list more
pub AreStarts-push : (items starts list : List ℕ) → AreStarts items starts → AreStarts (items ++ list) (starts ++ length (items ++ list) ∷ [])
AreStarts-push items starts list so_far =
    let n = length starts in
    let end = length (items ++ list) in
    let size : end ≡ length items + length list = length-append items list in
    let more : length (starts ++ end ∷ []) ≡ n + 1 = length_push starts end in
    let not_empty = so_far.not_empty in
    let newest : get_or (starts ++ end ∷ []) n 0 ≡ end = get_or_push starts end 0 n refl in
    record {
      not_empty = omega arith;
      rising = λ j inside.
          ⊎_elim
          (λ (below : j + 1 < n). let here = start_before starts end j (omega arith) in let next = start_before starts end (j + 1) below in
          let was = so_far.rising j below in omega arith)
          (λ (past : n ≤ j + 1). let here = start_before starts end j (omega arith) in
          let next : get_or (starts ++ end ∷ []) (j + 1) 0 ≡ end = get_or_push starts end 0 (j + 1) (omega arith) in
          let was = so_far.within j in omega arith)
          (cases_lt (j + 1) n);
      within = λ j.
          ⊎_elim (λ (below : j < n). let here = start_before starts end j below in let was = so_far.within j in omega arith)
          (λ (past : n ≤ j).
          ⊎_elim (λ (beyond : n < j). let gone = get_or_past (starts ++ end ∷ []) j 0 (omega arith) in omega arith)
          (λ (up_to : j ≤ n). let here = get_or_push starts end 0 j (omega arith) in omega arith)
          (cases_lt n j))
          (cases_lt j n);
      last = ap (λ k. get_or (starts ++ end ∷ []) (k - 1) 0) more ∙ get_or_push starts end 0 (n + 1 - 1) (omega arith);
    }

-- a part of the old vector is the same part of the longer one
slice_range-append : (items list : List ℕ) (a b : ℕ) → a ≤ b → b ≤ length items → slice_range (items ++ list) a b ≡ slice_range items a b
slice_range-append items list a b rising within =
    ap (take (b - a)) (drop-append-le a items list (omega arith))
    ∙ take-append-le (b - a) (drop a items) list (let left = length-drop a items in omega arith)

-- and what was added is the part after the old one
slice_range-added : (items list : List ℕ) (a b : ℕ) → a ≡ length items → b ≡ length (items ++ list) → slice_range (items ++ list) a b ≡ list
slice_range-added items list a b at_end is_end =
    let size = length-append items list in
    ap (take (b - a)) (drop_at items list a (sym at_end)) ∙ take_all (b - a) list (omega arith)

pub lists_of-push : (items starts list : List ℕ) → AreStarts items starts →
    lists_of (items ++ list) (starts ++ length (items ++ list) ∷ []) ≡ lists_of items starts ++ list ∷ []
lists_of-push items starts list so_far =
    let n = length starts in
    let end = length (items ++ list) in
    let longer = starts ++ end ∷ [] in
    let not_empty = so_far.not_empty in
    let more : length longer ≡ n + 1 = length_push starts end in
    let old_count : length (lists_of items starts) ≡ n - 1 = length-lists_of items starts in
    let new_count : length (lists_of (items ++ list) longer) ≡ length longer - 1 = length-lists_of (items ++ list) longer in
    let pushed_count : length (lists_of items starts ++ list ∷ []) ≡ length (lists_of items starts) + 1 = length_push (lists_of items starts) list in
    ext_get_or [] (lists_of (items ++ list) longer) (lists_of items starts ++ list ∷ []) (omega arith)
    (λ j inside.
    let here : get_or (lists_of (items ++ list) longer) j [] ≡ list_at (items ++ list) longer j = get_or-lists_of (items ++ list) longer j (omega arith) in
    let first : get_or longer j 0 ≡ get_or starts j 0 = start_before starts end j (omega arith) in
    ⊎_elim
    (λ (below : j < n - 1).
    let second : get_or longer (j + 1) 0 ≡ get_or starts (j + 1) 0 = start_before starts end (j + 1) (omega arith) in
    let rising = so_far.rising j (omega arith) in
    let within = so_far.within (j + 1) in
    here ∙ (λ k. slice_range (items ++ list) (first k) (second k)) ∙ slice_range-append items list (get_or starts j 0) (get_or starts (j + 1) 0) rising within
    ∙ sym (get_or-lists_of items starts j below)
    ∙ sym (get_or_append_left (lists_of items starts) (list ∷ []) [] j (omega arith)))
    (λ (past : n - 1 ≤ j).
    let is : j ≡ n - 1 = omega arith in
    let last : get_or longer j 0 ≡ length items = first ∙ ap (λ k. get_or starts k 0) is ∙ so_far.last in
    let second : get_or longer (j + 1) 0 ≡ end = get_or_push starts end 0 (j + 1) (omega arith) in
    here ∙ slice_range-added items list (get_or longer j 0) (get_or longer (j + 1) 0) last second
    ∙ sym (get_or_push (lists_of items starts) list [] j (omega arith)))
    (cases_lt j (n - 1)))
