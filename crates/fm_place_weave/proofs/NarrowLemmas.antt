-- The bytes that are counted from a plan are those of its new items.
use Rattle.std.proofs.Common.{◌≡◌, ℕ, suc, ◌+◌, ◌==◌, Bool, true, false, List, [], ◌∷◌, ◌++◌, Some, None, refl, sym, ap, subst, ◌∙◌, arith, if◌then◌else◌}
use Rattle.std.specs.Prelude.{slice_get, slice_index}
use Rattle.std.specs.List.{flat_map, range_with_len}
use Rattle.fm_base.specs.Rows.{has}
use Rattle.fm_chain.specs.Chained.{taken}
use Rattle.fm_chain.specs.declared.calls.Calls.{Calls}
use Rattle.fm_code.specs.Operands.{opcode_of}
use Rattle.fm_code.specs.SpellsCode.{with_targets}
use Rattle.fm_code.specs.declared.code_array.Item.{Item}
use Rattle.fm_code.specs.declared.instructions.Insn.{Insn}
use Rattle.fm_code.specs.declared.instructions.Insn.TheVariants as insn
use Rattle.fm_code.specs.declared.opcodes.TheConstants.{GOTO_W}
use Rattle.fm_code.specs.declared.operations.Reg.TheVariants as reg
use Rattle.fm_layout.proofs.SizesLemmas.{length-static}
use Rattle.fm_layout.specs.Laid.{narrow_length}
use Rattle.fm_layout.specs.Rooms.{end_from, narrow, room_of, rooms_of, size_at}
use Rattle.fm_layout.specs.declared.new_items.NewItem.{NewItem}
use Rattle.fm_layout.specs.declared.rooms.Room.{Room}
use Rattle.fm_layout.specs.declared.rooms.Room.TheVariants as room
use Rattle.fm_place.specs.Woven.{kept, null_stored}
use Rattle.fm_place_weave.specs.ByPlan.{anchors_by, end_after, here, inserted_end, later, no_calls, nulls_by, released_by, step_by, step_end, taken_by, woven_after}
use Rattle.fm_place_weave.specs.Laws.{BytesAreCounted}

-- ---- rooms of lists

end-append : (start : ℕ) (a b : List Room) → end_from start (a ++ b) ≡ end_from (end_from start a) b
end-append start [] b = refl
end-append start (r ∷ a) b = end-append (start + size_at start r) a b

rooms-append : (old : List Item) (a b : List NewItem) → rooms_of old (a ++ b) ≡ rooms_of old a ++ rooms_of old b
rooms-append old [] b = refl
rooms-append old (new ∷ a) b = ap (λ rs. rooms_of old (new ∷ []) ++ rs) (rooms-append old a b)

pub both-end : (old : List Item) (start : ℕ) (a b : List NewItem)
    → end_from start (rooms_of old (a ++ b)) ≡ end_from (end_from start (rooms_of old a)) (rooms_of old b)
both-end old start a b = ap (λ rs. end_from start rs) (rooms-append old a b) ∙ end-append start (rooms_of old a) (rooms_of old b)

-- ---- inserted items

nulls-rooms : (old : List Item) (first : ℕ) (hs : List ℕ)
    → rooms_of old (flat_map (λ h. null_stored (first + h)) hs) ≡ rooms_of [] (flat_map (λ h. null_stored (first + h)) hs)
nulls-rooms old first [] = refl
nulls-rooms old first (h ∷ hs) = ap (λ rs. rooms_of [] (null_stored (first + h)) ++ rs) (nulls-rooms old first hs)

static-room : (call other : ℕ) → room_of None (insn.Static call) ≡ room_of None (insn.Static other)
static-room call other = ap (λ n. room.Plain n) (sym (length-static call) ∙ length-static other)

released-rooms : (old : List Item) (calls : Calls) (looped : List Bool) (first : ℕ) (pairs : List (ℕ × ℕ))
    → rooms_of old (released_by calls looped first pairs) ≡ rooms_of [] (released_by no_calls looped first pairs)
released-rooms old calls looped first [] = refl
released-rooms old calls looped first (p ∷ pairs) =
    let call = static-room (if has looped p.1 then calls.free_chain else calls.free) (if has looped p.1 then no_calls.free_chain else no_calls.free) in
    λ k. room_of None (insn.Load reg.Ref (first + p.1)) ∷ call k ∷ room_of None insn.Null ∷ room_of None (insn.Store reg.Ref (first + p.1))
    ∷ released-rooms old calls looped first pairs k

taken-room : (old : List Item) (calls : Calls) (looped : Bool) (local : ℕ) → rooms_of old (taken calls looped local) ≡ rooms_of [] (taken no_calls looped local)
taken-room old calls false local = refl
taken-room old calls true local =
    let call = static-room calls.link no_calls.link in
    λ k. room_of None insn.Dup ∷ room_of None (insn.Load reg.Ref local) ∷ call k ∷ room_of None (insn.Store reg.Ref local) ∷ []

taken-rooms : (old : List Item) (calls : Calls) (looped : List Bool) (first : ℕ) (pairs : List (ℕ × ℕ))
    → rooms_of old (taken_by calls looped first pairs) ≡ rooms_of [] (taken_by no_calls looped first pairs)
taken-rooms old calls looped first [] = refl
taken-rooms old calls looped first (p ∷ pairs) =
    rooms-append old (taken calls (has looped p.1) (first + p.1)) (taken_by calls looped first pairs)
    ∙ (λ k. taken-room old calls (has looped p.1) (first + p.1) k ++ taken-rooms old calls looped first pairs k)
    ∙ sym (rooms-append [] (taken no_calls (has looped p.1) (first + p.1)) (taken_by no_calls looped first pairs))

-- ---- old items

-- the bytes of an item don't depend on its targets
goto-size : (start m n : ℕ) (b : Bool)
    → size_at start (if b then room.Plain 5 else narrow None m) ≡ size_at start (if b then room.Plain 5 else narrow None n)
goto-size start m n true = refl
goto-size start m n false = refl

kept-size : (start : ℕ) (item : Item) (f : ℕ → ℕ) (i : Insn) → size_at start (room_of (Some item) (with_targets f i)) ≡ size_at start (room_of (Some item) i)
kept-size start item f (insn.IfInt t n) = refl
kept-size start item f (insn.IfPair t n) = refl
kept-size start item f (insn.IfSame t n) = refl
kept-size start item f (insn.IfNull t n) = refl
kept-size start item f (insn.Goto n) = goto-size start (f n) n (opcode_of item == GOTO_W)
kept-size start item f (insn.Table low others targets) = refl
kept-size start item f (insn.Lookup others keys targets) = refl
kept-size start item f i = refl

step-end : (old : List Item) (calls : Calls) (looped : List Bool) (first : ℕ) (anchors : List ℕ) (j end : ℕ) (before after : List (ℕ × ℕ)) (item : Item)
    → slice_get old j ≡ Some item
    → end_from end (rooms_of old (step_by calls looped first anchors j before after item.insn)) ≡ step_end looped first end before after item
step-end old calls looped first anchors j end before after item there =
    both-end old end (released_by calls looped first before) (kept anchors j item.insn ∷ taken_by calls looped first after)
    ∙ (λ k. end_from (end_from end (released-rooms old calls looped first before k))
    (room_of (there k) (with_targets (slice_index anchors) item.insn) ∷ taken-rooms old calls looped first after k))
    ∙ (λ k. end_from (start + kept-size start item (slice_index anchors) item.insn k) (rooms_of [] (taken_by no_calls looped first after))) where
      start : ℕ
      start = inserted_end end (released_by no_calls looped first before)

items-end : (old : List Item) (calls : Calls) (looped : List Bool) (first : ℕ) (anchors : List ℕ) (j end : ℕ) (before after : List (ℕ × ℕ)) (items : List Item)
    → ((k : ℕ) (item : Item) → slice_get items k ≡ Some item → slice_get old (j + k) ≡ Some item)
    → end_from end (rooms_of old (woven_after calls looped first anchors j before after items)) ≡ end_after looped first end j before after items
items-end old calls looped first anchors j end before after [] there = refl
items-end old calls looped first anchors j end before after (item ∷ items) there =
    both-end old end (step_by calls looped first anchors j (here j before) (here j after) item.insn)
    (woven_after calls looped first anchors (j + 1) (later j before) (later j after) items)
    ∙ ap (λ e. end_from e (rooms_of old (woven_after calls looped first anchors (j + 1) (later j before) (later j after) items)))
    (step-end old calls looped first anchors j end (here j before) (here j after) item
    (subst (λ n. slice_get old n ≡ Some item) (omega arith) (there 0 item refl)))
    ∙ items-end old calls looped first anchors (j + 1) (step_end looped first end (here j before) (here j after) item) (later j before) (later j after) items
    (λ k other is. subst (λ n. slice_get old n ≡ Some other) (omega arith) (there (suc k) other is))

pub narrow-is : BytesAreCounted
unfolding narrow_length
narrow-is calls code p =
    let all = woven_after calls p.looped code.max_locals (anchors_by code p) 0 p.plan.before.items p.plan.after.items code.items in
    sym (both-end code.items 0 (nulls_by code.max_locals p.plan.holders) all
    ∙ ap (λ rs. end_from (end_from 0 rs) (rooms_of code.items all)) (nulls-rooms code.items code.max_locals (range_with_len 0 p.plan.holders))
    ∙ items-end code.items calls p.looped code.max_locals (anchors_by code p) 0 (inserted_end 0 (nulls_by code.max_locals p.plan.holders))
    p.plan.before.items p.plan.after.items code.items
    (λ k item is. subst (λ n. slice_get code.items n ≡ Some item) (omega arith) is))
