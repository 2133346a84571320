-- How many new items a plan makes.
use Rattle.std.proofs.Common.{◌≡◌, ℕ, zero, suc, ◌+◌, ◌*◌, ◌≤◌, Bool, List, [], ◌∷◌, ◌++◌, length, take, refl, ap, arith, length-append}
use Rattle.std.proofs.lemmas.List.FromFn.{length-range_with_len}
use Rattle.std.specs.List.{flat_map, range_with_len}
use Rattle.fm_base.specs.Rows.{has}
use Rattle.fm_chain.proofs.LaidChains.{taken_size}
use Rattle.fm_chain.proofs.Replaced.{sum_cons}
use Rattle.fm_chain.specs.Chained.{released, taken, taken_items}
use Rattle.fm_chain.specs.declared.calls.Calls.{Calls}
use Rattle.fm_chain.specs.declared.plans.ChainPlan.{ChainPlan}
use Rattle.fm_code.specs.declared.code_array.Code.{Code}
use Rattle.fm_code.specs.declared.code_array.Item.{Item}
use Rattle.fm_code.specs.declared.instructions.Insn.{Insn}
use Rattle.fm_layout.specs.declared.new_items.NewItem.{NewItem}
use Rattle.fm_place.specs.Woven.{freed_items, kept, null_stored, null_stored_items}
use Rattle.fm_place_weave.proofs.PairLemmas.{leading_within}
use Rattle.fm_place_weave.specs.ByPlan.{anchors_by, count_here, here, items_by, later, leading, nulls_by, number_after, number_by, released_by, step_by, taken_by, taken_count, woven_after}

released-size : (calls : Calls) (looped : Bool) (local : ℕ) (rest : List NewItem) → length (released calls looped local ++ rest) ≡ length rest + freed_items
released-size calls looped local rest = omega arith

length-released : (calls : Calls) (looped : List Bool) (first : ℕ) (pairs : List (ℕ × ℕ)) → length (released_by calls looped first pairs) ≡ freed_items * length pairs
length-released calls looped first [] = refl
length-released calls looped first (p ∷ pairs) =
    let rest = length-released calls looped first pairs in
    let one = released-size calls (has looped p.1) (first + p.1) (released_by calls looped first pairs) in
    omega (arith, rest, one)

length-taken : (calls : Calls) (looped : List Bool) (first : ℕ) (pairs : List (ℕ × ℕ)) → length (taken_by calls looped first pairs) ≡ taken_count looped pairs
length-taken calls looped first [] = refl
length-taken calls looped first (p ∷ pairs) =
    let rest = length-taken calls looped first pairs in
    let both = length-append (taken calls (has looped p.1) (first + p.1)) (taken_by calls looped first pairs) in
    let one = taken_size calls (has looped p.1) (first + p.1) in
    let sum = sum_cons (λ (q : ℕ × ℕ). taken_items (has looped q.1)) p pairs in
    omega (arith, rest, both, one, sum)

length-nulls : (first : ℕ) (hs : List ℕ) → length (flat_map (λ h. null_stored (first + h)) hs) ≡ null_stored_items * length hs
length-nulls first [] = refl
length-nulls first (h ∷ hs) = let rest = length-nulls first hs in omega (arith, rest)

pub length-part : (n : ℕ) (pairs : List (ℕ × ℕ)) → n ≤ length pairs → length (take n pairs) ≡ n
length-part zero pairs within = refl
length-part (suc n) [] within = absurd (omega arith)
length-part (suc n) (p ∷ pairs) within = ap suc (length-part n pairs (omega arith))

length-step : (calls : Calls) (looped : List Bool) (first : ℕ) (anchors : List ℕ) (j : ℕ) (before after : List (ℕ × ℕ)) (i : Insn)
    → length (step_by calls looped first anchors j (here j before) (here j after) i) ≡ count_here looped j before after
length-step calls looped first anchors j before after i =
    let b = length-released calls looped first (here j before) in
    let a = length-taken calls looped first (here j after) in
    let both = length-append (released_by calls looped first (here j before)) (kept anchors j i ∷ taken_by calls looped first (here j after)) in
    let some = length-part (leading j before) before (leading_within j before) in
    omega (arith, b, a, both, some)

-- the number at the end is how many there are
number-is : (calls : Calls) (looped : List Bool) (first : ℕ) (anchors : List ℕ) (number j : ℕ) (before after : List (ℕ × ℕ)) (items : List Item)
    → number_after looped number j before after items ≡ number + length (woven_after calls looped first anchors j before after items)
number-is calls looped first anchors number j before after [] = omega arith
number-is calls looped first anchors number j before after (item ∷ items) =
    let rest = number-is calls looped first anchors (number + count_here looped j before after) (j + 1) (later j before) (later j after) items in
    let step = length-step calls looped first anchors j before after item.insn in
    let both = length-append (step_by calls looped first anchors j (here j before) (here j after) item.insn)
    (woven_after calls looped first anchors (j + 1) (later j before) (later j after) items) in
    omega (arith, rest, step, both)

pub number_by-is : (calls : Calls) (code : Code) (p : ChainPlan) → number_by code p ≡ length (items_by calls code p)
number_by-is calls code p =
    let nulls = length-nulls code.max_locals (range_with_len 0 p.plan.holders) in
    let count = length-range_with_len 0 p.plan.holders in
    let items = number-is calls p.looped code.max_locals (anchors_by code p) (null_stored_items * p.plan.holders) 0 p.plan.before.items p.plan.after.items
    code.items in
    let both = length-append (nulls_by code.max_locals p.plan.holders)
    (woven_after calls p.looped code.max_locals (anchors_by code p) 0 p.plan.before.items p.plan.after.items code.items) in
    omega (arith, nulls, count, items, both)

-- each old item is one of them
items-below : (looped : List Bool) (number j : ℕ) (before after : List (ℕ × ℕ)) (items : List Item)
    → number + length items ≤ number_after looped number j before after items
items-below looped number j before after [] = omega arith
items-below looped number j before after (item ∷ items) =
    let rest = items-below looped (number + count_here looped j before after) (j + 1) (later j before) (later j after) items in
    omega (arith, rest)

pub items-few : (code : Code) (p : ChainPlan) → length code.items ≤ number_by code p
items-few code p =
    let all = items-below p.looped (null_stored_items * p.plan.holders) 0 p.plan.before.items p.plan.after.items code.items in
    omega (arith, all)
