-- How many bytes the new items can take.
use Rattle.std.proofs.Common.{◌≡◌, ℕ, zero, suc, ◌+◌, ◌*◌, ◌≤◌, ◌==◌, Bool, true, false, List, [], ◌∷◌, length, drop, refl, ap, arith, if◌then◌else◌, Option, Some, None, option_and_then, length-append}
use Rattle.std.specs.Prelude.{slice_get, nat_lt, IsSomeAnd}
use Rattle.std.specs.List.{AllByRecursion, flat_map, filter_map, cons_option, range_with_len}
use Rattle.fm_base.proofs.ListFacts.{AllByRecursion-at, AllByRecursion-weaker}
use Rattle.fm_code.proofs.CodeItems.{HasBytes}
use Rattle.fm_code.proofs.InsnPrefixes.{insn_at_not_empty}
use Rattle.fm_code.specs.ClassBytes.{item_bytes, offset_in}
use Rattle.fm_code.specs.Operands.{opcode_of}
use Rattle.fm_code.specs.SpellsCode.{ItemIsSpelled, with_targets}
use Rattle.fm_code.specs.declared.code_array.TheConstants.{MAX_CODE_BYTES}
use Rattle.fm_code.specs.declared.code_array.Item.{Item}
use Rattle.fm_code.specs.declared.opcodes.TheConstants.{GOTO_W}
use Rattle.fm_code.specs.declared.operations.Reg.TheVariants as reg
use Rattle.fm_code.specs.declared.instructions.Insn.{Insn}
use Rattle.fm_code.specs.declared.instructions.Insn.TheVariants as insn
use Rattle.fm_layout.specs.Conditions.{AreNewItems, AreOldItems, HasOrigin, IsInserted, IsOrigin, IsSameButTargets}
use Rattle.fm_layout.specs.Rooms.{room_of, rooms_of, narrow}
use Rattle.fm_layout.specs.Spelling.{kept_item}
use Rattle.fm_layout.specs.inner.Sizes.{local_size}
use Rattle.fm_layout.specs.inner.Weights.{weight, weight_of, AreShort}
use Rattle.fm_layout.specs.declared.new_items.NewItem.{NewItem}
use Rattle.fm_layout.specs.declared.rooms.Room.TheVariants as room
use Rattle.fm_layout.proofs.SizesLemmas.{length-load, length-store, length-static}

-- ---- one item

-- the bytes of the old item, if there is one
abbrev size_of : Option Item → ℕ
size_of (Some item) = length item.bytes
size_of None = 0

weight_kept : (item : Item) (i : Insn) → HasBytes item → weight (room_of (Some item) i) ≤ 7 + length item.bytes
weight_kept item (insn.IfInt t n) some = omega arith
weight_kept item (insn.IfPair t n) some = omega arith
weight_kept item (insn.IfSame t n) some = omega arith
weight_kept item (insn.IfNull t n) some = omega arith
weight_kept item (insn.Goto n) some = go (opcode_of item == GOTO_W) where
  go : (t : Bool) → weight (if t then room.Plain 5 else narrow None n) ≤ 7 + length item.bytes
  go true = omega arith
  go false = omega arith
weight_kept item (insn.Table low others targets) some = omega arith
weight_kept item (insn.Lookup others keys targets) some = omega arith
weight_kept item i some = omega arith

local_size-le : (local : ℕ) → local_size local ≤ 4
local_size-le local = go (nat_lt local 4) (nat_lt local 256) where
  go : (few some : Bool) → (if few then 1 else if some then 2 else 4) ≤ 4
  go true some = omega arith
  go false true = omega arith
  go false false = omega arith

weight_inserted : (i : Insn) → IsInserted i → weight (room_of None i) ≤ 7
weight_inserted insn.Null inserted = omega arith
weight_inserted insn.Dup inserted = omega arith
weight_inserted (insn.Load reg.Ref local) inserted = let size = length-load local in let few = local_size-le local in omega arith
weight_inserted (insn.Store reg.Ref local) inserted = let size = length-store local in let few = local_size-le local in omega arith
weight_inserted (insn.Static index) inserted = let size = length-static index in omega arith
weight_inserted i inserted = absurd inserted

weight_new : (old : List Item) (i : Insn) (kept : Option ℕ) → AllByRecursion HasBytes old → IsOrigin old i kept
    → weight (room_of (option_and_then (λ k. slice_get old k) kept) i) ≤ 7 + size_of (option_and_then (λ k. slice_get old k) kept)
weight_new old i None filled inserted = weight_inserted i inserted
weight_new old i (Some k) filled origin = go (slice_get old k) refl origin where
  go : (o : Option Item) → slice_get old k ≡ o → IsSomeAnd o (λ item. IsSameButTargets i item.insn) → weight (room_of o i) ≤ 7 + size_of o
  go None e origin = absurd origin
  go (Some item) e origin = weight_kept item i (AllByRecursion-at HasBytes old k item filled e)

-- ---- all items

abbrev kept_sizes : List Item → List NewItem → ℕ
kept_sizes old [] = 0
kept_sizes old (new ∷ items) = size_of (kept_item old new) + kept_sizes old items

weights : (old : List Item) (items : List NewItem) → AllByRecursion HasBytes old → AllByRecursion (HasOrigin old) items
    → weight_of (rooms_of old items) ≤ 7 * length items + kept_sizes old items
weights old [] filled each = omega arith
weights old (new ∷ items) filled each =
    let here = weight_new old new.insn new.kept filled each.0 in
    let later = weights old items filled each.1 in
    omega arith

-- the bytes of the old items from one on
abbrev tail_size : List Item → ℕ → ℕ
tail_size old k = length (flat_map item_bytes (drop k old))

tail_step : (old : List Item) (k : ℕ) → size_of (slice_get old k) + tail_size old (suc k) ≤ tail_size old k
tail_step [] zero = omega arith
tail_step [] (suc k) = omega arith
tail_step (item ∷ old) zero = let size = length-append item.bytes (flat_map item_bytes old) in omega arith
tail_step (item ∷ old) (suc k) = tail_step old k

kept_sizes_le : (old : List Item) (items : List NewItem) (k m : ℕ) → filter_map (λ (new : NewItem). new.kept) items ≡ range_with_len k m
    → kept_sizes old items ≤ tail_size old k
kept_sizes_le old [] k m e = omega arith
kept_sizes_le old (new ∷ items) k m e = go new.kept m e (λ k m. kept_sizes_le old items k m) where
  Later : Type 0
  Later = (k m : ℕ) → filter_map (λ (new : NewItem). new.kept) items ≡ range_with_len k m → kept_sizes old items ≤ tail_size old k

  go : (kept : Option ℕ) (m : ℕ) → cons_option kept (filter_map (λ (new : NewItem). new.kept) items) ≡ range_with_len k m → Later
      → size_of (option_and_then (λ k. slice_get old k) kept) + kept_sizes old items ≤ tail_size old k
  go None m e later = let others = later k m e in omega arith
  go (Some j) zero e later = cc
  go (Some j) (suc m) e later =
      let first : j ≡ k = cc in
      let rest : filter_map (λ (new : NewItem). new.kept) items ≡ range_with_len (k + 1) m = cc in
      let one : k + 1 ≡ suc k = omega arith in
      let others = later (k + 1) m rest in
      let same = ap (λ n. tail_size old n) one in
      let here = ap (λ n. size_of (slice_get old n)) first in
      let step = tail_step old k in
      omega arith

-- ---- what layout's conditions give

pub old_filled : (old : List Item) → AreOldItems old → AllByRecursion HasBytes old
old_filled old are =
    AllByRecursion-weaker (ItemIsSpelled old) HasBytes
    (λ item spelled. insn_at_not_empty item.offset item.bytes (with_targets (offset_in old zero) item.insn) spelled.instruction) old are.spelled.spelled

short_items : (n : ℕ) (old : List Item) → length (flat_map item_bytes old) ≤ n → AllByRecursion (λ (item : Item). length item.bytes ≤ n) old
short_items n [] within = tt
short_items n (item ∷ old) within =
    let size = length-append item.bytes (flat_map item_bytes old) in
    (omega arith, short_items n old (omega arith))

old_size : (old : List Item) → AreOldItems old → length (flat_map item_bytes old) ≤ MAX_CODE_BYTES
old_size old are = let same = ap length are.spelled.bytes_are in let short = are.not_long in omega arith

pub old_short : (old : List Item) → AreOldItems old → AreShort old
old_short old are = short_items MAX_CODE_BYTES old (old_size old are)

-- the weight of all rooms fits 32 bits
pub weight_fits : (old : List Item) (items : List NewItem) → AreOldItems old → AreNewItems old items → weight_of (rooms_of old items) ≤ 4200065535
weight_fits old items are new =
    let bound = weights old items (old_filled old are) new.each in
    let kept = kept_sizes_le old items 0 (length old) new.in_order in
    let size = old_size old are in
    let few = new.few in
    omega arith
