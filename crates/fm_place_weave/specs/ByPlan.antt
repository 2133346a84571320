-- The new items of a method and its new code, by the pairs of its plan.
use Rattle.std.specs.Prelude.{ℕ, ◌+◌, ◌*◌, ◌==◌, Bool, List, [], ◌∷◌, ◌++◌, map, take, drop, Some, nat_lt, if◌then◌else◌}
use Rattle.std.specs.List.{flat_map, range_with_len, sum}
use Rattle.fm_base.specs.Rows.{has}
use Rattle.fm_chain.specs.Chained.{released, taken, taken_items}
use Rattle.fm_chain.specs.Planned.{added_words, has_chain}
use Rattle.fm_chain.specs.declared.calls.Calls.{Calls}
use Rattle.fm_chain.specs.declared.plans.ChainPlan.{ChainPlan}
use Rattle.fm_code.specs.declared.code_array.Code.{Code}
use Rattle.fm_code.specs.declared.code_array.Item.{Item}
use Rattle.fm_code.specs.declared.code_array.TheConstants.{MAX_CODE_BYTES}
use Rattle.fm_code.specs.declared.instructions.Insn.{Insn}
use Rattle.fm_layout.specs.Laid.{laid_of}
use Rattle.fm_layout.specs.Rooms.{end_from, room_of, rooms_of, size_at}
use Rattle.fm_layout.specs.Tables.{moved_tables}
use Rattle.fm_layout.specs.declared.new_items.NewItem.{NewItem}
use Rattle.fm_place.specs.Woven.{freed_items, kept, null_stored, null_stored_items}
use Rattle.fm_place_weave.specs.declared.planned.Planned.{Planned}
use Rattle.fm_place_weave.specs.declared.planned.Planned.TheVariants as planned

-- ---- pairs of an item and a holder

-- how many of the pairs, from the first one on, are of this item
abbrev pub leading : ℕ → List (ℕ × ℕ) → ℕ
leading j [] = 0
leading j (p ∷ pairs) = if p.0 == j then leading j pairs + 1 else 0

-- these pairs
abbrev pub here : ℕ → List (ℕ × ℕ) → List (ℕ × ℕ)
here j pairs = take (leading j pairs) pairs

-- the others
abbrev pub later : ℕ → List (ℕ × ℕ) → List (ℕ × ℕ)
later j pairs = drop (leading j pairs) pairs

-- ---- anchors

-- how many new items an old one becomes, by the number of holders that are freed before it, and of
-- the items by which holders take its object
abbrev pub count_by : ℕ → ℕ → ℕ
count_by freed taken = freed_items * freed + 1 + taken

-- by how many items the holders of these pairs take an object, where these hold chains
abbrev pub taken_count : (looped : List Bool) → List (ℕ × ℕ) → ℕ
taken_count looped pairs = sum (map (λ p. taken_items (has looped p.1)) pairs)

-- how many new items this old one becomes
abbrev pub count_here : (looped : List Bool) → (j : ℕ) → (before after : List (ℕ × ℕ)) → ℕ
count_here looped j before after = count_by (leading j before) (taken_count looped (here j after))

-- the anchors of these items, from an item and the number of a new item on
abbrev pub anchors_after : (looped : List Bool) → (number j : ℕ) → (before after : List (ℕ × ℕ)) → List Item → List ℕ
anchors_after looped number j before after [] = number ∷ []
anchors_after looped number j before after (item ∷ items) =
    number ∷ anchors_after looped (number + count_here looped j before after) (j + 1) (later j before) (later j after) items

-- the number of all new items, by the same way
abbrev pub number_after : (looped : List Bool) → (number j : ℕ) → (before after : List (ℕ × ℕ)) → List Item → ℕ
number_after looped number j before after [] = number
number_after looped number j before after (item ∷ items) =
    number_after looped (number + count_here looped j before after) (j + 1) (later j before) (later j after) items

-- the anchors of a method
abbrev pub anchors_by : Code → ChainPlan → List ℕ
anchors_by code p = anchors_after p.looped (null_stored_items * p.plan.holders) 0 p.plan.before.items p.plan.after.items code.items

-- the number of all its new items
abbrev pub number_by : Code → ChainPlan → ℕ
number_by code p = number_after p.looped (null_stored_items * p.plan.holders) 0 p.plan.before.items p.plan.after.items code.items

-- ---- new items

-- `holders` holders are null
abbrev pub nulls_by : (first holders : ℕ) → List NewItem
nulls_by first holders = flat_map (λ h. null_stored (first + h)) (range_with_len 0 holders)

-- the holders of these pairs are freed
abbrev pub released_by : Calls → (looped : List Bool) → (first : ℕ) → List (ℕ × ℕ) → List NewItem
released_by calls looped first pairs = flat_map (λ p. released calls (has looped p.1) (first + p.1)) pairs

-- they take the object on top of the stack
abbrev pub taken_by : Calls → (looped : List Bool) → (first : ℕ) → List (ℕ × ℕ) → List NewItem
taken_by calls looped first pairs = flat_map (λ p. taken calls (has looped p.1) (first + p.1)) pairs

-- one old item with what is inserted before and after it
abbrev pub step_by : Calls → (looped : List Bool) → (first : ℕ) → List ℕ → (j : ℕ) → (before after : List (ℕ × ℕ)) → Insn → List NewItem
step_by calls looped first anchors j before after i = released_by calls looped first before ++ kept anchors j i ∷ taken_by calls looped first after

-- these old items, from a number on
abbrev pub woven_after : Calls → (looped : List Bool) → (first : ℕ) → List ℕ → (j : ℕ) → (before after : List (ℕ × ℕ)) → List Item → List NewItem
woven_after calls looped first anchors j before after [] = []
woven_after calls looped first anchors j before after (item ∷ items) =
    step_by calls looped first anchors j (here j before) (here j after) item.insn
    ++ woven_after calls looped first anchors (j + 1) (later j before) (later j after) items

-- all new items of a method, by its anchors
abbrev pub woven_by : Calls → Code → ChainPlan → List ℕ → List NewItem
woven_by calls code p anchors =
    nulls_by code.max_locals p.plan.holders
    ++ woven_after calls p.looped code.max_locals anchors 0 p.plan.before.items p.plan.after.items code.items

-- ---- code

-- the new items of a method
abbrev pub items_by : Calls → Code → ChainPlan → List NewItem
items_by calls code plan = woven_by calls code plan (anchors_by code plan)

-- these new items laid out by their anchors: so many words more of stack and a local for each holder; tables follow their items
abbrev pub laid_out_code : Code → (words holders : ℕ) → List NewItem → List ℕ → Code
laid_out_code code words holders items anchors =
    let laid = laid_of code.items items in
    let tables = moved_tables code laid anchors in
    record {
      max_stack = code.max_stack + words;
      max_locals = code.max_locals + holders;
      items = laid.items;
      length = laid.length;
      handlers = tables.handlers;
      attributes = tables.attributes;
    }

-- the new code
abbrev pub code_by : Calls → Code → ChainPlan → Code
code_by calls code p = laid_out_code code (added_words p) p.plan.holders (items_by calls code p) (anchors_by code p)

-- ---- how long it is

-- where inserted items end that begin at an offset
abbrev pub inserted_end : ℕ → List NewItem → ℕ
inserted_end end items = end_from end (rooms_of [] items)

-- how many bytes a call takes doesn't depend on its entry
abbrev pub no_calls : Calls
no_calls = record { free = 0; link = 0; free_chain = 0 }

-- where an old item ends, while no branch is widened, with what is inserted before and after it
abbrev pub step_end : (looped : List Bool) → (first end : ℕ) → (before after : List (ℕ × ℕ)) → Item → ℕ
step_end looped first end before after item =
    let start = inserted_end end (released_by no_calls looped first before) in
    inserted_end (start + size_at start (room_of (Some item) item.insn)) (taken_by no_calls looped first after)

-- where these old items end, from a number on
abbrev pub end_after : (looped : List Bool) → (first end j : ℕ) → (before after : List (ℕ × ℕ)) → List Item → ℕ
end_after looped first end j before after [] = end
end_after looped first end j before after (item ∷ items) =
    end_after looped first (step_end looped first end (here j before) (here j after) item) (j + 1) (later j before) (later j after) items

-- how many bytes a method's new items take, while no branch is widened
abbrev pub narrow_by : Code → ChainPlan → ℕ
narrow_by code p =
    end_after p.looped code.max_locals (inserted_end 0 (nulls_by code.max_locals p.plan.holders)) 0 p.plan.before.items p.plan.after.items code.items

-- ---- what is to be done

-- by a method's plan: nothing where no site is held; else it is woven, if it isn't too long already while no branch is widened
abbrev pub planned_by : Code → ChainPlan → Planned
planned_by code plan =
    if plan.plan.holders == 0 then planned.Same else
    if nat_lt MAX_CODE_BYTES (narrow_by code plan) then planned.TooLong (narrow_by code plan) (has_chain plan) else
    planned.Woven plan
