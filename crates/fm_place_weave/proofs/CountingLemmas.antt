-- Where inserted items and old ones end.
use Rattle.std.proofs.Common.{◌≡◌, ℕ, suc, ◌+◌, ◌-◌, ◌<◌, ◌≤◌, Bool, true, false, List, [], ◌∷◌, ◌++◌, length, get_or, drop, Some, refl, sym, ap, ◌∙◌, arith}
use Rattle.std.specs.List.{flat_map, range_with_len}
use Rattle.fm_base.proofs.ListFacts.{drop_here}
use Rattle.fm_base.specs.Rows.{has}
use Rattle.fm_chain.specs.Chained.{released, taken}
use Rattle.fm_code.specs.declared.code_array.Item.{Item}
use Rattle.fm_layout.proofs.RoomsLemmas.{end_grows}
use Rattle.fm_layout.specs.Rooms.{room_of, rooms_of, size_at}
use Rattle.fm_layout.specs.declared.new_items.NewItem.{NewItem}
use Rattle.fm_place.specs.Woven.{freed, null_stored}
use Rattle.fm_place_weave.proofs.NarrowLemmas.{both-end}
use Rattle.fm_place_weave.specs.ByPlan.{end_after, here, inserted_end, later, no_calls, released_by, step_end, taken_by}

-- ---- holders that are made null

-- the holders from one on, of this many
abbrev pub nulls_from : (first holder holders : ℕ) → List NewItem
nulls_from first holder holders = flat_map (λ h. null_stored (first + h)) (range_with_len holder (holders - holder))

nulls_next : (first h holders : ℕ) → h < holders → nulls_from first h holders ≡ null_stored (first + h) ++ nulls_from first (h + 1) holders
nulls_next first h holders more =
    let left : holders - h ≡ suc (holders - (h + 1)) = omega arith in
    ap (λ n. flat_map (λ h. null_stored (first + h)) (range_with_len h n)) left

pub null_step : (first h holders end total : ℕ) → h < holders → inserted_end end (nulls_from first h holders) ≡ total
    → inserted_end (inserted_end end (null_stored (first + h))) (nulls_from first (h + 1) holders) ≡ total
null_step first h holders end total more so_far = sym (ap (λ items. inserted_end end items) (nulls_next first h holders more)) ∙ so_far

pub null_fits : (first h holders end total : ℕ) → h < holders → inserted_end end (nulls_from first h holders) ≡ total
    → inserted_end end (null_stored (first + h)) ≤ total
null_fits first h holders end total more so_far =
    let step = null_step first h holders end total more so_far in
    let grows = end_grows (inserted_end end (null_stored (first + h))) (rooms_of [] (nulls_from first (h + 1) holders)) in
    omega (arith, step, grows)

pub nulls_none : (first h holders end total : ℕ) → holders ≤ h → inserted_end end (nulls_from first h holders) ≡ total → end ≡ total
nulls_none first h holders end total past so_far =
    let none : holders - h ≡ 0 = omega arith in
    sym (ap (λ n. inserted_end end (flat_map (λ h. null_stored (first + h)) (range_with_len h n))) none) ∙ so_far

-- ---- pairs

-- how many bytes a call takes doesn't depend on which it is
pub released_bytes : (looped : Bool) (local : ℕ) → released no_calls looped local ≡ freed 0 local
released_bytes false local = refl
released_bytes true local = refl

-- one pair more is released
pub released_step : (looped : List Bool) (first : ℕ) (pairs : List (ℕ × ℕ)) (i end next : ℕ) (p : ℕ × ℕ) (total : ℕ) → i < length pairs → p ≡ get_or pairs i p
    → next ≡ inserted_end end (freed 0 (first + p.1)) → inserted_end end (released_by no_calls looped first (drop i pairs)) ≡ total
    → inserted_end next (released_by no_calls looped first (drop (i + 1) pairs)) ≡ total
released_step looped first pairs i end next p total within is next_is so_far =
    let rest = released_by no_calls looped first (drop (i + 1) pairs) in
    ap (λ e. inserted_end e rest) (next_is ∙ ap (λ items. inserted_end end items) (sym (released_bytes (has looped p.1) (first + p.1))))
    ∙ sym (both-end [] end (released no_calls (has looped p.1) (first + p.1)) rest)
    ∙ sym (ap (λ ps. inserted_end end (released_by no_calls looped first ps)) (drop_here pairs i p within is)) ∙ so_far

pub released_fits : (looped : List Bool) (first : ℕ) (pairs : List (ℕ × ℕ)) (i end : ℕ) (p : ℕ × ℕ) (total : ℕ) → i < length pairs → p ≡ get_or pairs i p
    → inserted_end end (released_by no_calls looped first (drop i pairs)) ≡ total → inserted_end end (freed 0 (first + p.1)) ≤ total
released_fits looped first pairs i end p total within is so_far =
    let step = released_step looped first pairs i end (inserted_end end (freed 0 (first + p.1))) p total within is refl so_far in
    let grows = end_grows (inserted_end end (freed 0 (first + p.1))) (rooms_of [] (released_by no_calls looped first (drop (i + 1) pairs))) in
    omega (arith, step, grows)

-- and one more takes
pub taken_step : (looped : List Bool) (first : ℕ) (pairs : List (ℕ × ℕ)) (i end next : ℕ) (p : ℕ × ℕ) (total : ℕ) → i < length pairs → p ≡ get_or pairs i p
    → next ≡ inserted_end end (taken no_calls (has looped p.1) (first + p.1)) → inserted_end end (taken_by no_calls looped first (drop i pairs)) ≡ total
    → inserted_end next (taken_by no_calls looped first (drop (i + 1) pairs)) ≡ total
taken_step looped first pairs i end next p total within is next_is so_far =
    let rest = taken_by no_calls looped first (drop (i + 1) pairs) in
    ap (λ e. inserted_end e rest) next_is ∙ sym (both-end [] end (taken no_calls (has looped p.1) (first + p.1)) rest)
    ∙ sym (ap (λ ps. inserted_end end (taken_by no_calls looped first ps)) (drop_here pairs i p within is)) ∙ so_far

pub taken_fits : (looped : List Bool) (first : ℕ) (pairs : List (ℕ × ℕ)) (i end : ℕ) (p : ℕ × ℕ) (total : ℕ) → i < length pairs → p ≡ get_or pairs i p
    → inserted_end end (taken_by no_calls looped first (drop i pairs)) ≡ total → inserted_end end (taken no_calls (has looped p.1) (first + p.1)) ≤ total
taken_fits looped first pairs i end p total within is so_far =
    let step = taken_step looped first pairs i end (inserted_end end (taken no_calls (has looped p.1) (first + p.1))) p total within is refl so_far in
    let grows = end_grows (inserted_end end (taken no_calls (has looped p.1) (first + p.1))) (rooms_of [] (taken_by no_calls looped first (drop (i + 1) pairs))) in
    omega (arith, step, grows)

-- ---- old items

-- an old item begins no later than all that it becomes ends
pub kept_fits : (looped : List Bool) (first end : ℕ) (before after : List (ℕ × ℕ)) (item : Item)
    → let start = inserted_end end (released_by no_calls looped first before) in
    (end ≤ start) × (start + size_at start (room_of (Some item) item.insn) ≤ step_end looped first end before after item)
kept_fits looped first end before after item =
    let start = inserted_end end (released_by no_calls looped first before) in (
      end_grows end (rooms_of [] (released_by no_calls looped first before)),
      end_grows (start + size_at start (room_of (Some item) item.insn)) (rooms_of [] (taken_by no_calls looped first after)),
    )

pub end_after_grows : (looped : List Bool) (first end j : ℕ) (before after : List (ℕ × ℕ)) (items : List Item) → end ≤ end_after looped first end j before after items
end_after_grows looped first end j before after [] = omega arith
end_after_grows looped first end j before after (item ∷ items) =
    let here_ends = kept_fits looped first end (here j before) (here j after) item in
    let rest = end_after_grows looped first (step_end looped first end (here j before) (here j after) item) (j + 1) (later j before) (later j after) items in
    omega (arith, here_ends.0, here_ends.1, rest)

pub item_fits : (looped : List Bool) (first : ℕ) (items : List Item) (i end j total : ℕ) (freeing taking before after : List (ℕ × ℕ)) (item : Item) → i < length items
    → item ≡ get_or items i item → end_after looped first end j freeing taking (drop i items) ≡ total → before ≡ here j freeing → after ≡ here j taking
    → step_end looped first end before after item ≤ total
item_fits looped first items i end j total freeing taking before after item within is so_far b a =
    let step = sym (ap (λ rest. end_after looped first end j freeing taking rest) (drop_here items i item within is)) ∙ so_far in
    let rest = end_after_grows looped first (step_end looped first end (here j freeing) (here j taking) item) (j + 1) (later j freeing) (later j taking) (drop (i + 1) items) in
    let same : step_end looped first end before after item ≡ step_end looped first end (here j freeing) (here j taking) item
    = λ k. step_end looped first end (b k) (a k) item in
    omega (arith, step, rest, same)
