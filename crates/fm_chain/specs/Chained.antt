-- A method's items with what is inserted between them, where a holder of a site in a loop holds a chain of all objects that the site gave.
use Rattle.std.specs.Prelude.{ℕ, ◌+◌, ◌*◌, Bool, false, List, [], ◌∷◌, ◌++◌, length, map, Option, Some, None, if◌then◌else◌, slice_get}
use Rattle.std.specs.List.{flat_map, list_any, range_with_len, sum}
use Rattle.fm_code.specs.declared.code_array.Code.{Code}
use Rattle.fm_code.specs.declared.code_array.Item.{Item}
use Rattle.fm_code.specs.declared.instructions.Insn.{Insn}
use Rattle.fm_code.specs.declared.instructions.Insn.TheVariants as insn
use Rattle.fm_code.specs.declared.operations.Reg.TheVariants as reg
use Rattle.fm_layout.specs.Laid.{laid_of, marks_of}
use Rattle.fm_layout.specs.Tables.{moved_tables}
use Rattle.fm_layout.specs.declared.new_items.NewItem.{NewItem}
use Rattle.fm_place.specs.Insertions.{after_at, before_at, Holder, Insertions}
use Rattle.fm_place.specs.Woven.{freed, freed_items, inserted, kept, local_of, null_stored, null_stored_items, top_stored, top_stored_items}
use Rattle.fm_chain.specs.declared.calls.Calls.{Calls}

-- ---- what is inserted for a holder, by its local

-- what is on top of the stack is put before the chain that the local holds, and the local holds the whole; null and what lives for ever are put before none
abbrev pub top_linked : (link local : ℕ) → List NewItem
top_linked link local =
    inserted insn.Dup ∷ inserted (insn.Load reg.Ref local) ∷ inserted (insn.Static link) ∷ inserted (insn.Store reg.Ref local) ∷ []

-- a holder takes what is on top: into its chain, or in place of what it held
abbrev pub taken : Calls → (looped : Bool) → (local : ℕ) → List NewItem
taken calls looped local = if looped then top_linked calls.link local else top_stored local

-- a holder is freed: all of its chain, or what it holds
abbrev pub released : Calls → (looped : Bool) → (local : ℕ) → List NewItem
released calls looped local = freed (if looped then calls.free_chain else calls.free) local

-- how many items put what is on top into a chain
abbrev pub top_linked_items : ℕ
top_linked_items = 4

-- how many items a holder takes an object by
abbrev pub taken_items : Bool → ℕ
taken_items looped = if looped then top_linked_items else top_stored_items

-- ---- holders of a plan

-- the holder, if there is one, holds a chain
abbrev pub holds_chain : Option Holder → Bool
holds_chain None = false
holds_chain (Some h) = h.looped

-- the same of a holder by its number
abbrev pub looped_at : Insertions → ℕ → Bool
looped_at plan number = holds_chain (slice_get plan.holders number)

-- one of the holders holds a chain
abbrev pub has_chain : Insertions → Bool
has_chain plan = list_any (λ (h : Holder). h.looped) plan.holders

-- ---- anchors

-- how many new items replace an old one, with what is inserted before and after it
abbrev pub count_at : Insertions → ℕ → ℕ
count_at plan j = freed_items * length (before_at plan j) + 1 + sum (map (λ h. taken_items (looped_at plan h)) (after_at plan j))

-- from a new item's number and an old item's number on
abbrev pub anchors_from : Insertions → (number j : ℕ) → List Item → List ℕ
anchors_from plan number j [] = number ∷ []
anchors_from plan number j (item ∷ items) = number ∷ anchors_from plan (number + count_at plan j) (j + 1) items

-- for each old item the first new item that is inserted before it, or else it itself; at the end the number of all new items
abbrev pub anchors_of : Insertions → List Item → List ℕ
anchors_of plan items = anchors_from plan (null_stored_items * length plan.holders) 0 items

-- ---- the new items

-- one old item: what is inserted before it, the item, whose targets are anchors, and what is inserted after it
abbrev pub chained_item : Calls → Code → Insertions → List ℕ → ℕ → Insn → List NewItem
chained_item calls code plan anchors j i =
    flat_map (λ h. released calls (looped_at plan h) (local_of code h)) (before_at plan j)
    ++ kept anchors j i ∷ flat_map (λ h. taken calls (looped_at plan h) (local_of code h)) (after_at plan j)

-- these old items, from a number on
abbrev pub chained_items : Calls → Code → Insertions → List ℕ → ℕ → List Item → List NewItem
chained_items calls code plan anchors j [] = []
chained_items calls code plan anchors j (item ∷ items) =
    chained_item calls code plan anchors j item.insn ++ chained_items calls code plan anchors (j + 1) items

-- all new items of a method: at the start all holders are null, and the old items follow in their order
abbrev pub chained : Calls → Code → Insertions → List NewItem
chained calls code plan =
    flat_map (λ h. null_stored (local_of code h)) (range_with_len 0 (length plan.holders))
    ++ chained_items calls code plan (anchors_of plan code.items) 0 code.items

-- ---- the code

-- how many words of stack what is inserted takes at most
abbrev pub added_words : Insertions → ℕ
added_words plan = if has_chain plan then 2 else 1

-- laid out, with room for what is inserted on the stack and a local for each holder; tables follow their items, and all other attributes of the old
-- code are dropped
abbrev pub chained_code : Calls → Code → Insertions → Code
chained_code calls code plan =
    let laid = laid_of code.items (chained calls code plan) in
    let tables = moved_tables code laid (anchors_of plan code.items) in
    record {
      max_stack = code.max_stack + added_words plan;
      max_locals = code.max_locals + length plan.holders;
      items = laid.items;
      length = laid.length;
      handlers = tables.handlers;
      attributes = tables.attributes;
    }

-- of each item of that code, which old item it is, if it isn't inserted
abbrev pub chained_marks : Calls → Code → Insertions → List (Option ℕ)
chained_marks calls code plan = marks_of code.items (chained calls code plan)
