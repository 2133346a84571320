-- A method's items with what is inserted between them, and its code.
use Rattle.std.specs.Prelude.{ℕ, ◌+◌, ◌*◌, List, [], ◌∷◌, ◌++◌, length, Option, Some, None, slice_index}
use Rattle.std.specs.List.{flat_map, range_with_len}
use Rattle.fm_code.specs.SpellsCode.{with_targets}
use Rattle.fm_code.specs.declared.code_array.Code.{Code}
use Rattle.fm_code.specs.declared.code_array.Item.{Item}
use Rattle.fm_code.specs.declared.instructions.Insn.{Insn}
use Rattle.fm_code.specs.declared.instructions.Insn.TheVariants as insn
use Rattle.fm_code.specs.declared.operations.Reg.TheVariants as reg
use Rattle.fm_layout.specs.Laid.{laid_of, marks_of}
use Rattle.fm_layout.specs.Tables.{moved_tables}
use Rattle.fm_layout.specs.declared.new_items.NewItem.{NewItem}
use Rattle.fm_place.specs.Insertions.{after_at, before_at, Insertions}

-- ---- what is inserted for a holder, by its local

-- a new item that keeps no old one
abbrev pub inserted : Insn → NewItem
inserted i = record { insn = i; kept = None }

-- it is null
abbrev pub null_stored : ℕ → List NewItem
null_stored local = inserted insn.Null ∷ inserted (insn.Store reg.Ref local) ∷ []

-- it holds what is on top of the stack, which stays there
abbrev pub top_stored : ℕ → List NewItem
top_stored local = inserted insn.Dup ∷ inserted (insn.Store reg.Ref local) ∷ []

-- FreeMe.free, whose entry of the pool is given, frees what it holds, and then it is null
abbrev pub freed : (free local : ℕ) → List NewItem
freed free local = inserted (insn.Load reg.Ref local) ∷ inserted (insn.Static free) ∷ null_stored local

-- how many items make a holder null
abbrev pub null_stored_items : ℕ
null_stored_items = 2

-- how many items keep what is on top
abbrev pub top_stored_items : ℕ
top_stored_items = 2

-- how many items free a holder
abbrev pub freed_items : ℕ
freed_items = 4

-- ---- anchors

-- how many new items replace an old one, with what is inserted before and after it
abbrev pub count_at : Insertions → ℕ → ℕ
count_at plan j = freed_items * length (before_at plan j) + 1 + top_stored_items * length (after_at plan j)

-- from a new item's number and an old item's number on
abbrev pub anchors_from : Insertions → (number j : ℕ) → List Item → List ℕ
anchors_from plan number j [] = number ∷ []
anchors_from plan number j (item ∷ items) = number ∷ anchors_from plan (number + count_at plan j) (j + 1) items

-- For each old item the first new item that is inserted before it, or else it itself: there goes whatever named the item, and so a jump to the first
-- item doesn't go to the start. At the end the number of all new items.
abbrev pub anchors_of : Insertions → List Item → List ℕ
anchors_of plan items = anchors_from plan (null_stored_items * length plan.holders) 0 items

-- ---- the woven items

-- the local of a holder, whose number counts from 0, is one after those of the old code
abbrev pub local_of : Code → ℕ → ℕ
local_of code holder = code.max_locals + holder

-- a new item that keeps an old one, whose targets are anchors
abbrev pub kept : List ℕ → ℕ → Insn → NewItem
kept anchors j i = record { insn = with_targets (slice_index anchors) i; kept = Some j }

-- one old item: what is inserted before it, the item, whose targets are anchors, and what is inserted after it
abbrev pub woven_item : (free : ℕ) → Code → Insertions → List ℕ → ℕ → Insn → List NewItem
woven_item free code plan anchors j i =
    flat_map (λ h. freed free (local_of code h)) (before_at plan j) ++ kept anchors j i ∷ flat_map (λ h. top_stored (local_of code h)) (after_at plan j)

-- these old items, from a number on
abbrev pub woven_from : (free : ℕ) → Code → Insertions → List ℕ → ℕ → List Item → List NewItem
woven_from free code plan anchors j [] = []
woven_from free code plan anchors j (item ∷ items) =
    woven_item free code plan anchors j item.insn ++ woven_from free code plan anchors (j + 1) items

-- all new items of a method: at the start all holders are null, and the old items follow in their order
abbrev pub woven : (free : ℕ) → Code → Insertions → List NewItem
woven free code plan =
    flat_map (λ h. null_stored (local_of code h)) (range_with_len 0 (length plan.holders))
    ++ woven_from free code plan (anchors_of plan code.items) 0 code.items

-- ---- the code

-- laid out, with one more word of stack and a local for each holder; tables follow their items, and
-- all other attributes of the old code are dropped
abbrev pub woven_code : (free : ℕ) → Code → Insertions → Code
woven_code free code plan =
    let laid = laid_of code.items (woven free code plan) in
    let tables = moved_tables code laid (anchors_of plan code.items) in
    record {
      max_stack = code.max_stack + 1;
      max_locals = code.max_locals + length plan.holders;
      items = laid.items;
      length = laid.length;
      handlers = tables.handlers;
      attributes = tables.attributes;
    }

-- of each item of that code, which old item it is, if it isn't inserted
abbrev pub woven_marks : (free : ℕ) → Code → Insertions → List (Option ℕ)
woven_marks free code plan = marks_of code.items (woven free code plan)
