-- The bytes of laid items are bytes.
use Rattle.std.proofs.Common.{◌≡◌, ℕ, ◌+◌, ◌<◌, Bool, true, false, List, [], ◌∷◌, ◌++◌, length, drop, refl, arith, if◌then◌else◌, Option, Some, None, option_and_then}
use Rattle.std.specs.Prelude.{ℤ, nat_lt, slice_get, slice_index, IsSomeAnd}
use Rattle.std.specs.List.{AllByRecursion, flat_map}
use Rattle.std.proofs.lemmas.Bool.{ltb-true}
use Rattle.fm_base.proofs.ListFacts.{AllByRecursion-append, AllByRecursion-at}
use Rattle.fm_code.proofs.Bytes.{AreBytes-two, AreBytes-signed_four, AreBytes-append, AreBytes-take, AreBytes-drop}
use Rattle.fm_code.specs.Fits.{AreBytes}
use Rattle.fm_code.specs.InstructionTable.{padding_at}
use Rattle.fm_code.specs.Numbers.{two}
use Rattle.fm_code.specs.declared.code_array.Item.{Item}
use Rattle.fm_code.specs.declared.opcodes.TheConstants.{WIDE}
use Rattle.fm_code.specs.declared.operations.Reg.TheVariants as reg
use Rattle.fm_code.specs.declared.operations.Test.TheVariants as test
use Rattle.fm_code.specs.declared.instructions.Insn.{Insn}
use Rattle.fm_code.specs.declared.instructions.Insn.TheVariants as insn
use Rattle.fm_layout.specs.Conditions.{HasOrigin, IsInserted, IsOrigin, IsSameButTargets}
use Rattle.fm_layout.specs.Laid.{short_item, goto_w_item, wide_items, laid_items, laid_from, item_count}
use Rattle.fm_layout.specs.Rooms.{size_at}
use Rattle.fm_layout.specs.Spelling.{distance, inserted_bytes, jump_bytes, kept_item, local_bytes, lookup_bytes, moved_bytes, new_padding, old_padding, opcode_of_condition, opposite, pair_bytes, plain_bytes, switch_head, table_bytes}
use Rattle.fm_layout.specs.declared.new_items.NewItem.{NewItem}
use Rattle.fm_layout.specs.declared.rooms.Condition.{Condition}
use Rattle.fm_layout.specs.declared.rooms.Condition.TheVariants as condition
use Rattle.fm_layout.specs.declared.rooms.Room.{Room}
use Rattle.fm_layout.specs.declared.rooms.Room.TheVariants as room

-- an item's bytes are bytes
abbrev pub HasBytesOnly : Item → Type 0
HasBytesOnly item = AreBytes item.bytes

abbrev KeptBytes : Option Item → Type 0
KeptBytes None = Unit {0}
KeptBytes (Some item) = AreBytes item.bytes

-- ---- branches

opcode_byte : (taken : Condition) → opcode_of_condition taken < 256
opcode_byte (condition.Int test.Eq) = omega arith
opcode_byte (condition.Int test.Ne) = omega arith
opcode_byte (condition.Int test.Lt) = omega arith
opcode_byte (condition.Int test.Ge) = omega arith
opcode_byte (condition.Int test.Gt) = omega arith
opcode_byte (condition.Int test.Le) = omega arith
opcode_byte (condition.Pair test.Eq) = omega arith
opcode_byte (condition.Pair test.Ne) = omega arith
opcode_byte (condition.Pair test.Lt) = omega arith
opcode_byte (condition.Pair test.Ge) = omega arith
opcode_byte (condition.Pair test.Gt) = omega arith
opcode_byte (condition.Pair test.Le) = omega arith
opcode_byte (condition.Same true) = omega arith
opcode_byte (condition.Same false) = omega arith
opcode_byte (condition.Null true) = omega arith
opcode_byte (condition.Null false) = omega arith

short_bytes : (start to target : ℕ) (taken : Option Condition) → HasBytesOnly (short_item start taken to target)
short_bytes start to target None = (omega arith, AreBytes-two _)
short_bytes start to target (Some taken) = (opcode_byte taken, AreBytes-two _)

goto_w_bytes : (start to target : ℕ) → HasBytesOnly (goto_w_item start to target)
goto_w_bytes start to target = (omega arith, AreBytes-signed_four (distance start to))

wide_bytes : (start first : ℕ) (follows : Bool) (taken : Option Condition) (to target : ℕ) → AllByRecursion HasBytesOnly (wide_items start first follows taken to target)
wide_bytes start first follows None to target = (goto_w_bytes start to target, tt)
wide_bytes start first true (Some taken) to target =
    (short_bytes start (start + 8) (first + 2) (Some (opposite taken)), (goto_w_bytes (start + 3) to target, tt))
wide_bytes start first false (Some taken) to target =
    (short_bytes start (start + 3) (first + 1) (Some (opposite taken)), (goto_w_bytes (start + 3) to target, tt))

-- ---- inserted items

local_are_bytes : (first opcode local : ℕ) → first < 252 → opcode < 256 → AreBytes (local_bytes first opcode local)
local_are_bytes first opcode local first_byte opcode_byte = go (nat_lt local 4) refl (nat_lt local 256) refl where
  go : (few : Bool) → nat_lt local 4 ≡ few → (some : Bool) → nat_lt local 256 ≡ some
      → AreBytes (if few then (first + local) ∷ [] else if some then opcode ∷ local ∷ [] else WIDE ∷ opcode ∷ two local)
  go true e some f = let below = ltb-true local 4 e in (omega arith, tt)
  go false e true f = let below = ltb-true local 256 f in (opcode_byte, (below, tt))
  go false e false f = (omega arith, (opcode_byte, AreBytes-two local))

inserted_are_bytes : (i : Insn) → IsInserted i → AreBytes (inserted_bytes i)
inserted_are_bytes insn.Null inserted = (omega arith, tt)
inserted_are_bytes insn.Dup inserted = (omega arith, tt)
inserted_are_bytes (insn.Load reg.Ref local) inserted = local_are_bytes 42 25 local (omega arith) (omega arith)
inserted_are_bytes (insn.Store reg.Ref local) inserted = local_are_bytes 75 58 local (omega arith) (omega arith)
inserted_are_bytes (insn.Static index) inserted = (omega arith, AreBytes-two index)
inserted_are_bytes i inserted = absurd inserted

-- ---- switches

padding_are_bytes : (start : ℕ) (kept : Option Item) → KeptBytes kept → AreBytes (new_padding start kept)
padding_are_bytes start None bytes = AreBytes-take (padding_at start) (0 ∷ 0 ∷ 0 ∷ []) (omega arith, (omega arith, (omega arith, tt)))
padding_are_bytes start (Some item) bytes =
    AreBytes-take (padding_at start) (old_padding (Some item) ++ 0 ∷ 0 ∷ 0 ∷ [])
    (AreBytes-append (old_padding (Some item)) (0 ∷ 0 ∷ 0 ∷ []) (AreBytes-take (padding_at item.offset) (drop 1 item.bytes) (AreBytes-drop 1 item.bytes bytes))
    (omega arith, (omega arith, (omega arith, tt))))

head_are_bytes : (kept : Option Item) (count : ℕ) → KeptBytes kept → AreBytes (switch_head kept count)
head_are_bytes None count bytes = tt
head_are_bytes (Some item) count bytes =
    AreBytes-take count (drop (5 + padding_at item.offset) item.bytes) (AreBytes-drop (5 + padding_at item.offset) item.bytes bytes)

jump_are_bytes : (starts : List ℕ) (start target : ℕ) → AreBytes (jump_bytes starts start target)
jump_are_bytes starts start target = AreBytes-signed_four (distance start (slice_index starts target))

jumps_are_bytes : (starts : List ℕ) (start : ℕ) (targets : List ℕ) → AreBytes (flat_map (jump_bytes starts start) targets)
jumps_are_bytes starts start [] = tt
jumps_are_bytes starts start (target ∷ targets) =
    AreBytes-append (jump_bytes starts start target) (flat_map (jump_bytes starts start) targets) (jump_are_bytes starts start target) (jumps_are_bytes starts start targets)

pairs_are_bytes : (starts : List ℕ) (start : ℕ) (keys : List ℤ) (targets : List ℕ) → AreBytes (pair_bytes starts start keys targets)
pairs_are_bytes starts start [] targets = tt
pairs_are_bytes starts start (key ∷ keys) [] = tt
pairs_are_bytes starts start (key ∷ keys) (target ∷ targets) =
    AreBytes-append _ _ (AreBytes-signed_four key)
    (AreBytes-append (jump_bytes starts start target) (pair_bytes starts start keys targets) (jump_are_bytes starts start target) (pairs_are_bytes starts start keys targets))

table_are_bytes : (starts : List ℕ) (start : ℕ) (kept : Option Item) (others : ℕ) (targets : List ℕ) → KeptBytes kept → AreBytes (table_bytes starts start kept others targets)
table_are_bytes starts start kept others targets bytes = (
  omega arith,
  AreBytes-append (new_padding start kept) _ (padding_are_bytes start kept bytes)
      (AreBytes-append (jump_bytes starts start others) _ (jump_are_bytes starts start others)
      (AreBytes-append (switch_head kept 8) _ (head_are_bytes kept 8 bytes) (jumps_are_bytes starts start targets))),
)

lookup_are_bytes : (starts : List ℕ) (start : ℕ) (kept : Option Item) (others : ℕ) (keys : List ℤ) (targets : List ℕ) → KeptBytes kept
    → AreBytes (lookup_bytes starts start kept others keys targets)
lookup_are_bytes starts start kept others keys targets bytes = (
  omega arith,
  AreBytes-append (new_padding start kept) _ (padding_are_bytes start kept bytes)
      (AreBytes-append (jump_bytes starts start others) _ (jump_are_bytes starts start others)
      (AreBytes-append (switch_head kept 4) _ (head_are_bytes kept 4 bytes) (pairs_are_bytes starts start keys targets))),
)

-- ---- all items

moved_are_bytes : (starts : List ℕ) (start : ℕ) (kept : Option Item) (i : Insn) → KeptBytes kept → AreBytes (plain_bytes kept i) → AreBytes (moved_bytes starts start kept i)
moved_are_bytes starts start kept (insn.Goto n) bytes plain = (omega arith, AreBytes-signed_four (distance start (slice_index starts n)))
moved_are_bytes starts start kept (insn.Table low others targets) bytes plain = table_are_bytes starts start kept others targets bytes
moved_are_bytes starts start kept (insn.Lookup others keys targets) bytes plain = lookup_are_bytes starts start kept others keys targets bytes
moved_are_bytes starts start kept (insn.IfInt t n) bytes plain = plain
moved_are_bytes starts start kept (insn.IfPair t n) bytes plain = plain
moved_are_bytes starts start kept (insn.IfSame t n) bytes plain = plain
moved_are_bytes starts start kept (insn.IfNull t n) bytes plain = plain
moved_are_bytes starts start kept i bytes plain = plain

item_are_bytes : (old : List Item) (starts : List ℕ) (start : ℕ) (i : Insn) (kept : Option ℕ) → AllByRecursion HasBytesOnly old → IsOrigin old i kept
    → AreBytes (moved_bytes starts start (option_and_then (λ k. slice_get old k) kept) i)
item_are_bytes old starts start i None bytes inserted = moved_are_bytes starts start None i tt (inserted_are_bytes i inserted)
item_are_bytes old starts start i (Some k) bytes origin = go (slice_get old k) refl origin where
  go : (o : Option Item) → slice_get old k ≡ o → IsSomeAnd o (λ item. IsSameButTargets i item.insn) → AreBytes (moved_bytes starts start o i)
  go None found same = absurd same
  go (Some item) found same =
      let known = AllByRecursion-at HasBytesOnly old k item bytes found in
      moved_are_bytes starts start (Some item) i known known

laid_items_bytes : (old : List Item) (starts firsts : List ℕ) (start first : ℕ) (follows : Bool) (new : NewItem) (r : Room) → AllByRecursion HasBytesOnly old → HasOrigin old new
    → AllByRecursion HasBytesOnly (laid_items starts firsts start first follows (kept_item old new) new.insn r)
laid_items_bytes old starts firsts start first follows new (room.Plain n) bytes origin = (item_are_bytes old starts start new.insn new.kept bytes origin, tt)
laid_items_bytes old starts firsts start first follows new (room.Switch n) bytes origin = (item_are_bytes old starts start new.insn new.kept bytes origin, tt)
laid_items_bytes old starts firsts start first follows new (room.Narrow b) bytes origin =
    (short_bytes start (slice_index starts b.target) (slice_index firsts b.target) b.condition, tt)
laid_items_bytes old starts firsts start first follows new (room.Wide b) bytes origin =
    wide_bytes start first follows b.condition (slice_index starts b.target) (slice_index firsts b.target)

pub laid_bytes : (old : List Item) (starts firsts : List ℕ) (start first : ℕ) (items : List NewItem) (rooms : List Room) → AllByRecursion HasBytesOnly old
    → AllByRecursion (HasOrigin old) items → AllByRecursion HasBytesOnly (laid_from old starts firsts start first items rooms)
laid_bytes old starts firsts start first [] rooms bytes origins = tt
laid_bytes old starts firsts start first (new ∷ items) [] bytes origins = tt
laid_bytes old starts firsts start first (new ∷ items) (r ∷ rooms) bytes origins =
    AllByRecursion-append HasBytesOnly _ (laid_from old starts firsts (start + size_at start r) (first + item_count r) items rooms)
    (laid_items_bytes old starts firsts start first (nat_lt 0 (length items)) new r bytes origins.0)
    (laid_bytes old starts firsts (start + size_at start r) (first + item_count r) items rooms bytes origins.1)
