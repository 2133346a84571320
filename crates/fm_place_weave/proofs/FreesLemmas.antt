-- Each free of a plan takes bytes.
use Rattle.std.proofs.Common.{◌≡◌, ℕ, suc, ◌+◌, ◌≤◌, Bool, List, [], ◌∷◌, length, None, refl, ap, arith, length-append, if◌then◌else◌}
use Rattle.fm_base.specs.Rows.{has}
use Rattle.fm_chain.specs.declared.plans.ChainPlan.{ChainPlan}
use Rattle.fm_code.specs.declared.code_array.Code.{Code}
use Rattle.fm_code.specs.declared.code_array.Item.{Item}
use Rattle.fm_code.specs.declared.instructions.Insn.TheVariants as insn
use Rattle.fm_code.specs.declared.operations.Reg.TheVariants as reg
use Rattle.fm_layout.specs.Rooms.{room_of, size_at}
use Rattle.fm_place.specs.Insertions.{after_at, before_at, Insertions}
use Rattle.fm_place.specs.PlansBy.{paired}
use Rattle.fm_place_weave.proofs.CountingLemmas.{kept_fits}
use Rattle.fm_place_weave.proofs.PlanLemmas.{after-is, before-is, here-listed, later-listed, listed}
use Rattle.fm_place_weave.specs.ByPlan.{end_after, inserted_end, narrow_by, no_calls, nulls_by, released_by, step_end}
use Rattle.fm_place_weave.specs.Laws.{IsWholePlan}

frees_grow : (looped : List Bool) (first end : ℕ) (pairs : List (ℕ × ℕ)) → end + length pairs ≤ inserted_end end (released_by no_calls looped first pairs)
frees_grow looped first end [] = omega arith
frees_grow looped first end (p ∷ pairs) =
    let call = if has looped p.1 then no_calls.free_chain else no_calls.free in
    let loaded : ℕ = end + size_at end (room_of None (insn.Load reg.Ref (first + p.1))) in
    let called : ℕ = loaded + size_at loaded (room_of None (insn.Static call)) in
    let null : ℕ = called + size_at called (room_of None insn.Null) in
    let stored : ℕ = null + size_at null (room_of None (insn.Store reg.Ref (first + p.1))) in
    let rest : stored + length pairs ≤ inserted_end end (released_by no_calls looped first (p ∷ pairs)) = frees_grow looped first stored pairs in
    let one : size_at called (room_of None insn.Null) ≡ 1 = refl in
    omega (arith, rest, one)

step_grows : (looped : List Bool) (first end : ℕ) (before after : List (ℕ × ℕ)) (item : Item)
    → end + length before ≤ step_end looped first end before after item
step_grows looped first end before after item =
    let freed = frees_grow looped first end before in
    let kept = kept_fits looped first end before after item in
    omega (arith, freed, kept.1)

all_grow : (f g : ℕ → List ℕ) (looped : List Bool) (first end j : ℕ) (items : List Item)
    → end + length (listed f j (length items)) ≤ end_after looped first end j (listed f j (length items)) (listed g j (length items)) items
all_grow f g looped first end j [] = omega arith
all_grow f g looped first end j (item ∷ items) =
    let n = length items in
    let ends : end_after looped first end j (listed f j (suc n)) (listed g j (suc n)) (item ∷ items)
    ≡ end_after looped first (step_end looped first end (paired f j) (paired g j) item) (j + 1) (listed f (j + 1) n) (listed g (j + 1) n) items =
    λ k. end_after looped first (step_end looped first end (here-listed f j n k) (here-listed g j n k) item) (j + 1)
    (later-listed f j n k) (later-listed g j n k) items in
    let step = step_grows looped first end (paired f j) (paired g j) item in
    let rest = all_grow f g looped first (step_end looped first end (paired f j) (paired g j) item) (j + 1) items in
    let both = length-append (paired f j) (listed f (j + 1) n) in
    omega (arith, ends, step, rest, both)

-- there are no more frees than bytes
pub frees_within : (code : Code) (ins : Insertions) (p : ChainPlan) → IsWholePlan code ins p → length p.plan.before.items ≤ narrow_by code p
frees_within code ins p is =
    let start : ℕ = inserted_end 0 (nulls_by code.max_locals p.plan.holders) in
    let n = length code.items in
    let same : narrow_by code p
    ≡ end_after p.looped code.max_locals start 0 (listed (before_at ins) 0 n) (listed (after_at ins) 0 n) code.items =
    λ k. end_after p.looped code.max_locals start 0 (before-is code ins p is k) (after-is code ins p is k) code.items in
    let pairs : length p.plan.before.items ≡ length (listed (before_at ins) 0 n) = ap length (before-is code ins p is) in
    let grows = all_grow (before_at ins) (after_at ins) p.looped code.max_locals start 0 code.items in
    omega (arith, same, pairs, grows)
