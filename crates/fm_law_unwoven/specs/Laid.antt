-- Where the items of an old code are in the code with insertions, and what is inserted between them, item by item.
use Rattle.std.specs.Prelude.{◌≡◌, ℕ, ◌+◌, ◌<◌, ◌≤◌, ◌↔◌, Bool, true, false, List, [], ◌∷◌, ◌++◌, length, map, Option, Some, None, option_and_then, slice_get}
use Rattle.std.specs.List.{flat_map, range_with_len}
use Rattle.fm_chain.specs.declared.calls.Calls.{Calls}
use Rattle.fm_code.specs.Edges.{insn_of, MeetsCodeRules}
use Rattle.fm_code.specs.SpellsCode.{with_targets}
use Rattle.fm_code.specs.declared.code_array.Code.{Code}
use Rattle.fm_code.specs.declared.code_array.Handler.{Handler}
use Rattle.fm_code.specs.declared.instructions.Insn.{Insn}
use Rattle.fm_code.specs.declared.instructions.Insn.TheVariants as insn
use Rattle.fm_code.specs.declared.operations.Reg.TheVariants as reg
use Rattle.fm_layout.specs.Spelling.{conditional, opposite}
use Rattle.fm_layout.specs.declared.rooms.Condition.{Condition}
use Rattle.fm_place.specs.Insertions.{after_at, before_at, Insertions}
use Rattle.fm_chain.specs.Chained.{chained_code, chained_marks, looped_at}
use Rattle.fm_place.specs.Woven.{local_of}
use Rattle.fm_law_woven_flow.specs.Roles.{CanStand}

-- ---- what is inserted, as things to do

-- a holder becomes null; it keeps what is on top of the stack, in place of what it kept or before its chain, where that may join one; or what it
-- keeps is freed, or all of its chain, and it becomes null
pub data Todo : Type 0 where
  ToStart : (holder : ℕ) → Todo
  ToKeep : (holder : ℕ) → Todo
  ToLink : (holder : ℕ) (joins : Bool) → Todo
  ToFree : (holder : ℕ) → Todo
  ToFreeAll : (holder : ℕ) → Todo

-- the instructions that do it, where the methods of FreeMe have these entries
abbrev pub insns_to : Calls → Code → Todo → List Insn
insns_to calls old (ToStart h) = insn.Null ∷ insn.Store reg.Ref (local_of old h) ∷ []
insns_to calls old (ToKeep h) = insn.Dup ∷ insn.Store reg.Ref (local_of old h) ∷ []
insns_to calls old (ToLink h joins) =
    insn.Dup ∷ insn.Load reg.Ref (local_of old h) ∷ insn.Static calls.link ∷ insn.Store reg.Ref (local_of old h) ∷ []
insns_to calls old (ToFree h) = insn.Load reg.Ref (local_of old h) ∷ insn.Static calls.free ∷ insn.Null ∷ insn.Store reg.Ref (local_of old h) ∷ []
insns_to calls old (ToFreeAll h) =
    insn.Load reg.Ref (local_of old h) ∷ insn.Static calls.free_chain ∷ insn.Null ∷ insn.Store reg.Ref (local_of old h) ∷ []

-- one after the other
abbrev pub all_insns_to : Calls → Code → List Todo → List Insn
all_insns_to calls old todos = flat_map (insns_to calls old) todos

-- each holder becomes null at the start
abbrev pub starts_of : Insertions → List Todo
starts_of plan = map ToStart (range_with_len 0 (length plan.holders))

-- how a holder keeps what is on top
abbrev pub to_keep : (looped joins : Bool) → (holder : ℕ) → Todo
to_keep true joins h = ToLink h joins
to_keep false joins h = ToKeep h

-- and how it is freed
abbrev pub to_free : (looped : Bool) → (holder : ℕ) → Todo
to_free true h = ToFreeAll h
to_free false h = ToFree h

-- each holder of an old item keeps what that gives, which may join a chain or not
abbrev pub keeps_at : Insertions → (joins : Bool) → ℕ → List Todo
keeps_at plan joins j = map (λ h. to_keep (looped_at plan h) joins h) (after_at plan j)

-- each holder that is to be freed before an old item is
abbrev pub frees_at : Insertions → ℕ → List Todo
frees_at plan j = map (λ h. to_free (looped_at plan h) h) (before_at plan j)

-- ---- items

-- the old item that an item of the new code is, if it isn't inserted
abbrev pub mark_at : List (Option ℕ) → ℕ → Option ℕ
mark_at marks n = option_and_then (λ old. old) (slice_get marks n)

-- from item n on just these instructions are inserted, and then item `next` follows
abbrev pub LieInserted : Code → List (Option ℕ) → (n : ℕ) → List Insn → (next : ℕ) → Type 0
LieInserted new marks n [] next = n ≡ next
LieInserted new marks n (i ∷ insns) next = (insn_of new n ≡ Some i) × (mark_at marks n ≡ None) × LieInserted new marks (n + 1) insns next

-- Item n keeps old item j with this instruction, whose targets go to entries, and what follows it is item `behind`. A branch that is too far from its target
-- is the opposite one, which skips the goto_w behind it; where the code ends behind that, it may lead anywhere.
pub data IsKept (old new : Code) (marks : List (Option ℕ)) (entries : ℕ → ℕ) (j : ℕ) (i : Insn) (n behind : ℕ) : Type 0 where
  IsWhole : insn_of new n ≡ Some (with_targets entries i) → behind ≡ n + 1 → IsKept old new marks entries j i n behind
  IsSplit : (condition : Condition) (target other : ℕ) → i ≡ conditional condition target → insn_of new n ≡ Some (conditional (opposite condition) other)
      → (j + 1 < length old.items → other ≡ behind) → insn_of new (n + 1) ≡ Some (insn.Goto (entries target)) → mark_at marks (n + 1) ≡ None → behind ≡ n + 2
      → IsKept old new marks entries j i n behind

-- an entry of the exception table, whose items are named by where control enters them (JVMS 4.7.3)
abbrev pub moved_to : (ℕ → ℕ) → Handler → Handler
moved_to entries h = record { start = entries h.start; end = entries h.end; handler = entries h.handler; catch_class = h.catch_class }

-- ---- the code

-- The new code has the items of the old one in their order, with just what its plan inserts between them.
pub record IsLaid (calls : Calls) (old : Code) (plan : Insertions) (new : Code) (marks : List (Option ℕ)) : Type 0 where
  -- a local for each holder comes after those of the old code
  pub locals : new.max_locals ≡ old.max_locals + length plan.holders
  -- the item that keeps an old one; where control enters an old one; and what follows it
  pub numbers : ℕ → ℕ
  pub entries : ℕ → ℕ
  pub behind : ℕ → ℕ
  pub start : LieInserted new marks 0 (all_insns_to calls old (starts_of plan ++ frees_at plan 0)) (numbers 0)
  pub entered : (j : ℕ) → j < length old.items → LieInserted new marks (entries j) (all_insns_to calls old (frees_at plan j)) (numbers j)
  pub left : (joins : Bool) (j : ℕ) → j + 1 < length old.items
      → LieInserted new marks (behind j) (all_insns_to calls old (keeps_at plan joins j ++ frees_at plan (j + 1))) (numbers (j + 1))
  pub kept : (j : ℕ) (i : Insn) → insn_of old j ≡ Some i → IsKept old new marks entries j i (numbers j) (behind j)
  -- marks name the old items
  pub marked : (j : ℕ) → j < length old.items → mark_at marks (numbers j) ≡ Some j
  pub once : (n j : ℕ) → mark_at marks n ≡ Some j → (j < length old.items) × (n ≡ numbers j)
  -- an entry of the exception table catches at an item that keeps an old one exactly where the old entry did
  pub handlers : new.handlers ≡ map (moved_to entries) old.handlers
  pub covered : (t j : ℕ) → t ≤ length old.items → j < length old.items → (entries t ≤ numbers j) ↔ (t ≤ j)

-- whatever can be inserted into a code that meets the rules of its attribute
abbrev pub CodesAreLaid : Type 0
CodesAreLaid = (calls : Calls) (old : Code) (plan : Insertions) → MeetsCodeRules old → CanStand old plan
    → IsLaid calls old plan (chained_code calls old plan) (chained_marks calls old plan)
