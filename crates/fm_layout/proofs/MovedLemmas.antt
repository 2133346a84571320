-- An item that is no branch of two bytes: its bytes take its room, and are read as its instruction.
use Rattle.std.proofs.Common.{◌≡◌, ℕ, suc, ◌≤◌, ◌==◌, Bool, true, false, List, [], ◌∷◌, length, refl, sym, ap, subst, ◌∙◌, if◌then◌else◌, Option, Some, None, option_and_then}
use Rattle.std.specs.Prelude.{slice_get, slice_index, IsSomeAnd}
use Rattle.std.specs.List.{AllByRecursion}
use Rattle.fm_base.proofs.ListFacts.{AllByRecursion-at}
use Rattle.fm_code.proofs.Bytes.{length-signed_four}
use Rattle.fm_code.specs.Fits.{AreBytes}
use Rattle.fm_code.specs.InstructionTable.{insn_at}
use Rattle.fm_code.specs.Operands.{opcode_of}
use Rattle.fm_code.specs.SpellsCode.{ItemIsSpelled, with_targets, targets_of}
use Rattle.fm_code.specs.declared.code_array.Item.{Item}
use Rattle.fm_code.specs.declared.opcodes.TheConstants.{GOTO_W}
use Rattle.fm_code.specs.declared.operations.Reg.TheVariants as reg
use Rattle.fm_code.specs.declared.instructions.Insn.{Insn}
use Rattle.fm_code.specs.declared.instructions.Insn.TheVariants as insn
use Rattle.fm_layout.specs.Conditions.{IsInserted, IsOrigin, IsSameButTargets}
use Rattle.fm_layout.specs.Rooms.{narrow, room_of, size_at}
use Rattle.fm_layout.specs.Spelling.{distance, is_goto_w, moved_bytes}
use Rattle.fm_layout.specs.inner.Weights.{AreOffsetsWithin}
use Rattle.fm_layout.specs.declared.rooms.Branch.{Branch}
use Rattle.fm_layout.specs.declared.rooms.Condition.TheVariants as condition
use Rattle.fm_layout.specs.declared.rooms.Room.{Room}
use Rattle.fm_layout.specs.declared.rooms.Room.TheVariants as room
use Rattle.fm_layout.proofs.ReadsLemmas.{goto_w_read, kept_read, plain_read}
use Rattle.fm_layout.proofs.SwitchLemmas.{table_fits, table_size, table_read, lookup_fits, lookup_size, lookup_read}

-- the room is of an item that is no branch of two bytes
abbrev pub IsMoved : Room → Type 0
IsMoved (room.Plain n) = Unit {0}
IsMoved (room.Switch n) = Unit {0}
IsMoved r = ⊥

pub record MovedFacts (starts : List ℕ) (start : ℕ) (kept : Option Item) (i : Insn) (r : Room) : Type 0 where
  pub size : length (moved_bytes starts start kept i) ≡ size_at start r
  pub read : insn_at start (moved_bytes starts start kept i) ≡ Some (with_targets (slice_index starts) i)

goto_w_facts : (starts : List ℕ) (start : ℕ) (item : Item) (n : ℕ) (r : Room) → room_of (Some item) (insn.Goto n) ≡ r → IsMoved r → start ≤ 65535 → AreOffsetsWithin starts
    → MovedFacts starts start (Some item) (insn.Goto n) r
goto_w_facts starts start item n r is moved near within = go (opcode_of item == GOTO_W) is where
  go : (t : Bool) → (if t then room.Plain 5 else narrow None n) ≡ r → MovedFacts starts start (Some item) (insn.Goto n) r
  go true e = record {
    size = ap suc (length-signed_four (distance start (slice_index starts n))) ∙ ap (size_at start) e;
    read = goto_w_read start (slice_index starts n) n (slice_index starts) near (within n) refl;
  }
  go false e = absurd (subst (λ (x : Room). IsMoved x) (sym e) moved)

moved_old : (old : List Item) (item : Item) (i : Insn) (starts : List ℕ) (start : ℕ) (r : Room) → ItemIsSpelled old item → AreBytes item.bytes → IsSameButTargets i item.insn
    → room_of (Some item) i ≡ r → IsMoved r → start ≤ 65535 → AreOffsetsWithin starts → MovedFacts starts start (Some item) i r
moved_old old item (insn.IfInt t n) starts start r spelled bytes same e moved near within = absurd (subst (λ (x : Room). IsMoved x) (sym e) moved)
moved_old old item (insn.IfPair t n) starts start r spelled bytes same e moved near within = absurd (subst (λ (x : Room). IsMoved x) (sym e) moved)
moved_old old item (insn.IfSame t n) starts start r spelled bytes same e moved near within = absurd (subst (λ (x : Room). IsMoved x) (sym e) moved)
moved_old old item (insn.IfNull t n) starts start r spelled bytes same e moved near within = absurd (subst (λ (x : Room). IsMoved x) (sym e) moved)
moved_old old item (insn.Goto n) starts start r spelled bytes same e moved near within = goto_w_facts starts start item n r e moved near within
moved_old old item (insn.Table low others targets) starts start r spelled bytes same e moved near within =
    let fits = table_fits old item low others targets spelled same in
    record { size = table_size starts start item low others targets fits ∙ ap (size_at start) e; read = table_read starts start item low others targets fits near within }
moved_old old item (insn.Lookup others keys targets) starts start r spelled bytes same e moved near within =
    let fits = lookup_fits old item others keys targets spelled same in
    record { size = lookup_size starts start item others keys targets bytes fits ∙ ap (size_at start) e; read = lookup_read starts start item others keys targets bytes fits near within }
moved_old old item i starts start r spelled bytes same e moved near within =
    record { size = ap (size_at start) e; read = kept_read old item i start (slice_index starts) spelled same refl }

moved_inserted : (old : List Item) (i : Insn) (starts : List ℕ) (start : ℕ) (r : Room) → AllByRecursion (ItemIsSpelled old) old → IsInserted i → room_of None i ≡ r
    → MovedFacts starts start None i r
moved_inserted old insn.Null starts start r spelled inserted e =
    record { size = ap (size_at start) e; read = plain_read old insn.Null None start (slice_index starts) spelled inserted refl }
moved_inserted old insn.Dup starts start r spelled inserted e =
    record { size = ap (size_at start) e; read = plain_read old insn.Dup None start (slice_index starts) spelled inserted refl }
moved_inserted old (insn.Load reg.Ref local) starts start r spelled inserted e =
    record { size = ap (size_at start) e; read = plain_read old (insn.Load reg.Ref local) None start (slice_index starts) spelled inserted refl }
moved_inserted old (insn.Store reg.Ref local) starts start r spelled inserted e =
    record { size = ap (size_at start) e; read = plain_read old (insn.Store reg.Ref local) None start (slice_index starts) spelled inserted refl }
moved_inserted old (insn.Static index) starts start r spelled inserted e =
    record { size = ap (size_at start) e; read = plain_read old (insn.Static index) None start (slice_index starts) spelled inserted refl }
moved_inserted old i starts start r spelled inserted e = absurd inserted

-- the old item of this number, if there is one
abbrev pub kept_of : List Item → Option ℕ → Option Item
kept_of old kept = option_and_then (λ k. slice_get old k) kept

pub moved_facts : (old : List Item) (kept : Option ℕ) (i : Insn) (starts : List ℕ) (start : ℕ) (r : Room) → AllByRecursion (ItemIsSpelled old) old
    → AllByRecursion (λ (item : Item). AreBytes item.bytes) old → IsOrigin old i kept → room_of (kept_of old kept) i ≡ r → IsMoved r → start ≤ 65535 → AreOffsetsWithin starts
    → MovedFacts starts start (kept_of old kept) i r
moved_facts old None i starts start r spelled bytes inserted e moved near within = moved_inserted old i starts start r spelled inserted e
moved_facts old (Some k) i starts start r spelled bytes origin e moved near within = go (slice_get old k) refl origin e where
  go : (o : Option Item) → slice_get old k ≡ o → IsSomeAnd o (λ item. IsSameButTargets i item.insn) → room_of o i ≡ r → MovedFacts starts start o i r
  go None found same room_is = absurd same
  go (Some item) found same room_is =
      moved_old old item i starts start r (AllByRecursion-at (ItemIsSpelled old) old k item spelled found) (AllByRecursion-at (λ (x : Item). AreBytes x.bytes) old k item bytes found) same room_is moved near within

-- ---- branches

same_branch : (a b : Branch) → room.Narrow a ≡ room.Narrow b → a.target ∷ [] ≡ b.target ∷ []
same_branch a b e = let same : a ≡ b = cc in ap (λ (c : Branch). c.target ∷ []) same

-- a branch names the target of its room
pub branch_target : (kept : Option Item) (i : Insn) (b : Branch) → room_of kept i ≡ room.Narrow b → targets_of i ≡ b.target ∷ []
branch_target kept (insn.IfInt t n) b e = same_branch (record { condition = Some (condition.Int t); target = n }) b e
branch_target kept (insn.IfPair t n) b e = same_branch (record { condition = Some (condition.Pair t); target = n }) b e
branch_target kept (insn.IfSame t n) b e = same_branch (record { condition = Some (condition.Same t); target = n }) b e
branch_target kept (insn.IfNull t n) b e = same_branch (record { condition = Some (condition.Null t); target = n }) b e
branch_target kept (insn.Goto n) b e = go (is_goto_w kept) e where
  go : (t : Bool) → (if t then room.Plain 5 else narrow None n) ≡ room.Narrow b → n ∷ [] ≡ b.target ∷ []
  go true same = cc
  go false same = same_branch (record { condition = None; target = n }) b same
branch_target kept (insn.Table low others targets) b e = cc
branch_target kept (insn.Lookup others keys targets) b e = cc
branch_target kept i b e = cc

-- no branch is wide before a round
pub never_wide : (kept : Option Item) (i : Insn) (b : Branch) → room_of kept i ≡ room.Wide b → ⊥
never_wide kept (insn.IfInt t n) b e = cc
never_wide kept (insn.IfPair t n) b e = cc
never_wide kept (insn.IfSame t n) b e = cc
never_wide kept (insn.IfNull t n) b e = cc
never_wide kept (insn.Goto n) b e = go (is_goto_w kept) e where
  go : (t : Bool) → (if t then room.Plain 5 else narrow None n) ≡ room.Wide b → ⊥
  go true same = cc
  go false same = cc
never_wide kept (insn.Table low others targets) b e = cc
never_wide kept (insn.Lookup others keys targets) b e = cc
never_wide kept i b e = cc
