-- The laid-out bytes spell the laid items.
use Rattle.std.proofs.Common.{◌≡◌, ℕ, zero, suc, ◌+◌, ◌<◌, ◌≤◌, inl, inr, ◌&&◌, Bool, true, false, List, [], ◌∷◌, ◌++◌, length, refl, sym, ap, subst, ◌∙◌, arith, if◌then◌else◌, Option, Some, None, pos, negsuc, append_assoc, length-append, map}
use Rattle.std.specs.Prelude.{int_le, nat_lt, slice_index}
use Rattle.std.specs.List.{AllByRecursion, flat_map}
use Rattle.std.proofs.lemmas.Bool.{ltb-true}
use Rattle.std.proofs.lemmas.Int.{ints}
use Rattle.fm_base.proofs.ListFacts.{AllByRecursion-append, AllByRecursion-weaker, same_head, same_tail}
use Rattle.fm_code.proofs.Bytes.{length-signed_four, length-two}
use Rattle.fm_code.specs.ClassBytes.{item_bytes, offset_in}
use Rattle.fm_code.specs.Fits.{AreBytes}
use Rattle.fm_code.specs.SpellsCode.{AreOffsets, ItemIsSpelled, SpellsCode, targets_of, with_targets}
use Rattle.fm_code.specs.declared.code_array.Item.{Item}
use Rattle.fm_code.specs.declared.instructions.Insn.{Insn}
use Rattle.fm_code.specs.declared.instructions.Insn.TheVariants as insn
use Rattle.fm_layout.specs.Conditions.{HasOrigin}
use Rattle.fm_layout.specs.Laid.{branch_count, item_count, firsts_from, short_item, goto_w_item, moved_item, wide_items, laid_items, laid_from}
use Rattle.fm_layout.specs.Rooms.{is_in_reach, room_of, rooms_of, size_at, wide_size, end_from, starts_from, widened_at, widened_from, round_after}
use Rattle.fm_layout.specs.Spelling.{conditional, distance, kept_item, opposite}
use Rattle.fm_layout.specs.inner.Weights.{AreOffsetsWithin}
use Rattle.fm_layout.specs.declared.new_items.NewItem.{NewItem}
use Rattle.fm_layout.specs.declared.rooms.Branch.{Branch}
use Rattle.fm_layout.specs.declared.rooms.Condition.{Condition}
use Rattle.fm_layout.specs.declared.rooms.Condition.TheVariants as condition
use Rattle.fm_layout.specs.declared.rooms.Room.{Room}
use Rattle.fm_layout.specs.declared.rooms.Room.TheVariants as room
use Rattle.fm_layout.proofs.MovedLemmas.{IsMoved, MovedFacts, moved_facts, branch_target, never_wide}
use Rattle.fm_layout.proofs.ReadsLemmas.{IsRead, short_read, goto_w_read}
use Rattle.fm_layout.proofs.RoomsLemmas.{end_grows}
use Rattle.fm_layout.proofs.WideningLemmas.{IsWider, AreWider}

-- ---- one new item

-- what is known of a new item, its room and where it begins
pub record ItemFits (old : List Item) (count : ℕ) (starts : List ℕ) (start : ℕ) (new : NewItem) (r : Room) : Type 0 where
  pub origin : HasOrigin old new
  pub targets : AllByRecursion (λ target. target < count) (targets_of new.insn)
  pub wider : IsWider (room_of (kept_item old new) new.insn) r
  pub settled : widened_at starts start r ≡ r

-- the same of all new items
abbrev AreFit : List Item → ℕ → List ℕ → ℕ → List NewItem → List Room → Type 0
AreFit old count starts start [] [] = Unit {0}
AreFit old count starts start (new ∷ items) (r ∷ rooms) = ItemFits old count starts start new r × AreFit old count starts (start + size_at start r) items rooms
AreFit old count starts start items rooms = ⊥

are_fit : (old : List Item) (count : ℕ) (starts : List ℕ) (start : ℕ) (items : List NewItem) (rooms : List Room) → AllByRecursion (HasOrigin old) items
    → AllByRecursion (λ (new : NewItem). AllByRecursion (λ target. target < count) (targets_of new.insn)) items → AreWider (rooms_of old items) rooms
    → widened_from starts start rooms ≡ rooms → AreFit old count starts start items rooms
are_fit old count starts start [] [] origins targets wider settled = tt
are_fit old count starts start [] (r ∷ rooms) origins targets wider settled = absurd wider
are_fit old count starts start (new ∷ items) [] origins targets wider settled = absurd wider
are_fit old count starts start (new ∷ items) (r ∷ rooms) origins targets wider settled =
    let rest = widened_from starts (start + size_at start r) rooms in (
      record { origin = origins.0; targets = targets.0; wider = wider.0; settled = same_head (widened_at starts start r) r rest rooms settled },
      are_fit old count starts (start + size_at start r) items rooms origins.1 targets.1 wider.1 (same_tail (widened_at starts start r) r rest rooms settled),
    )

-- the room of an item that isn't widened
not_wide : (r s : Room) → IsMoved s → IsWider r s → r ≡ s
not_wide r s moved (inl e) = e
not_wide r s moved (inr (b, narrow, wide)) = absurd (subst (λ (x : Room). IsMoved x) wide moved)

narrow_room : (r : Room) (b : Branch) → IsWider r (room.Narrow b) → r ≡ room.Narrow b
narrow_room r b (inl e) = e
narrow_room r b (inr (c, narrow, wide)) = cc

wide_room : (kept : Option Item) (i : Insn) (b : Branch) → IsWider (room_of kept i) (room.Wide b) → targets_of i ≡ b.target ∷ []
wide_room kept i b (inl e) = absurd (never_wide kept i b e)
wide_room kept i b (inr (c, narrow, wide)) = let same : c ≡ b = (let h = wide in cc) in branch_target kept i c narrow ∙ ap (λ (x : Branch). x.target ∷ []) same

-- ---- sizes and offsets

length-short : (start to target : ℕ) (taken : Option Condition) → length (short_item start taken to target).bytes ≡ 3
length-short start to target None = ap suc (length-two _)
length-short start to target (Some taken) = ap suc (length-two _)

offset-short : (start to target : ℕ) (taken : Option Condition) → (short_item start taken to target).offset ≡ start
offset-short start to target None = refl
offset-short start to target (Some taken) = refl

-- laid items one after the other from an offset: their bytes and their number
record IsChunk (start size count : ℕ) (chunk : List Item) : Type 0 where
  offsets : AreOffsets start chunk
  total : length (flat_map item_bytes chunk) ≡ size
  number : length chunk ≡ count

one_item : (start size : ℕ) (item : Item) → item.offset ≡ start → length item.bytes ≡ size → IsChunk start size 1 (item ∷ [])
one_item start size item at long =
    record { offsets = (at, tt); total = omega (arith, length-append item.bytes []); number = refl }

two_items : (start n m : ℕ) (a b : Item) → a.offset ≡ start → b.offset ≡ start + n → length a.bytes ≡ n → length b.bytes ≡ m → IsChunk start (n + m) 2 (a ∷ b ∷ [])
two_items start n m a b a_at b_at a_long b_long = record {
  offsets = (a_at, (b_at ∙ ap (λ k. start + k) (sym a_long), tt));
  total = omega (arith, length-append a.bytes (b.bytes ++ []), length-append b.bytes []);
  number = refl;
}

wide_chunk : (start first : ℕ) (follows : Bool) (taken : Option Condition) (to target : ℕ) → IsChunk start (wide_size taken) (branch_count taken) (wide_items start first follows taken to target)
wide_chunk start first follows None to target = one_item start 5 (goto_w_item start to target) refl (ap suc (length-signed_four (distance start to)))
wide_chunk start first true (Some taken) to target =
    two_items start 3 5 (short_item start (Some (opposite taken)) (start + 8) (first + 2)) (goto_w_item (start + 3) to target) refl refl
    (length-short start (start + 8) (first + 2) (Some (opposite taken))) (ap suc (length-signed_four (distance (start + 3) to)))
wide_chunk start first false (Some taken) to target =
    two_items start 3 5 (short_item start (Some (opposite taken)) (start + 3) (first + 1)) (goto_w_item (start + 3) to target) refl refl
    (length-short start (start + 3) (first + 1) (Some (opposite taken))) (ap suc (length-signed_four (distance (start + 3) to)))

-- what holds of the old items
pub record OldFacts (old : List Item) : Type 0 where
  pub spelled : AllByRecursion (ItemIsSpelled old) old
  pub bytes : AllByRecursion (λ (item : Item). AreBytes item.bytes) old

moved_of : (old : List Item) (count : ℕ) (starts : List ℕ) (start : ℕ) (new : NewItem) (r : Room) → OldFacts old → ItemFits old count starts start new r → IsMoved r → start ≤ 65535
    → AreOffsetsWithin starts → MovedFacts starts start (kept_item old new) new.insn r
moved_of old count starts start new r known fits moved near within =
    moved_facts old new.kept new.insn starts start r known.spelled known.bytes fits.origin (not_wide (room_of (kept_item old new) new.insn) r moved fits.wider) moved near within

chunk_of : (old : List Item) (count : ℕ) (starts firsts : List ℕ) (start first : ℕ) (follows : Bool) (new : NewItem) (r : Room) → OldFacts old → ItemFits old count starts start new r
    → start ≤ 65535 → AreOffsetsWithin starts → IsChunk start (size_at start r) (item_count r) (laid_items starts firsts start first follows (kept_item old new) new.insn r)
chunk_of old count starts firsts start first follows new (room.Plain n) known fits near within =
    let facts = moved_of old count starts start new (room.Plain n) known fits tt near within in
    one_item start n (moved_item starts firsts start (kept_item old new) new.insn) refl facts.size
chunk_of old count starts firsts start first follows new (room.Switch n) known fits near within =
    let facts = moved_of old count starts start new (room.Switch n) known fits tt near within in
    one_item start (size_at start (room.Switch n)) (moved_item starts firsts start (kept_item old new) new.insn) refl facts.size
chunk_of old count starts firsts start first follows new (room.Narrow b) known fits near within =
    one_item start 3 (short_item start b.condition (slice_index starts b.target) (slice_index firsts b.target))
    (offset-short start (slice_index starts b.target) (slice_index firsts b.target) b.condition)
    (length-short start (slice_index starts b.target) (slice_index firsts b.target) b.condition)
chunk_of old count starts firsts start first follows new (room.Wide b) known fits near within =
    wide_chunk start first follows b.condition (slice_index starts b.target) (slice_index firsts b.target)

-- ---- lists of chunks

AreOffsets-append : (start middle : ℕ) (xs ys : List Item) → AreOffsets start xs → start + length (flat_map item_bytes xs) ≡ middle → AreOffsets middle ys → AreOffsets start (xs ++ ys)
AreOffsets-append start middle [] ys first e second = let same : middle ≡ start = omega arith in subst (λ n. AreOffsets n ys) same second
AreOffsets-append start middle (x ∷ xs) ys first e second =
    (first.0, AreOffsets-append (start + length x.bytes) middle xs ys first.1 (omega (arith, length-append x.bytes (flat_map item_bytes xs))) second)

bytes-append : (xs ys : List Item) → length (flat_map item_bytes (xs ++ ys)) ≡ length (flat_map item_bytes xs) + length (flat_map item_bytes ys)
bytes-append [] ys = omega arith
bytes-append (x ∷ xs) ys =
    let later = bytes-append xs ys in
    omega (arith, length-append x.bytes (flat_map item_bytes (xs ++ ys)), length-append x.bytes (flat_map item_bytes xs))

offset_in-append : (xs ys : List Item) (end m : ℕ) → offset_in (xs ++ ys) end (length xs + m) ≡ offset_in ys end m
offset_in-append [] ys end m = let same : 0 + m ≡ m = omega arith in ap (λ n. offset_in ys end n) same
offset_in-append (x ∷ xs) ys end m =
    let same : suc (length xs) + m ≡ suc (length xs + m) = omega arith in
    ap (λ n. offset_in (x ∷ (xs ++ ys)) end n) same ∙ offset_in-append xs ys end m

-- the laid items from an offset on, and where they end
record AreChunks (start end : ℕ) (laid : List Item) : Type 0 where
  offsets : AreOffsets start laid
  total : start + length (flat_map item_bytes laid) ≡ end

chunks_of : (old : List Item) (count : ℕ) (starts firsts : List ℕ) (start first : ℕ) (items : List NewItem) (rooms : List Room) → OldFacts old → AreFit old count starts start items rooms
    → end_from start rooms ≤ 65535 → AreOffsetsWithin starts → AreChunks start (end_from start rooms) (laid_from old starts firsts start first items rooms)
chunks_of old count starts firsts start first [] [] known fit short within = record { offsets = tt; total = omega arith }
chunks_of old count starts firsts start first [] (r ∷ rooms) known fit short within = absurd fit
chunks_of old count starts firsts start first (new ∷ items) [] known fit short within = absurd fit
chunks_of old count starts firsts start first (new ∷ items) (r ∷ rooms) known fit short within =
    let reach = end_grows start (r ∷ rooms) in
    let chunk = chunk_of old count starts firsts start first (nat_lt 0 (length items)) new r known fit.0 (omega arith) within in
    let later = chunks_of old count starts firsts (start + size_at start r) (first + item_count r) items rooms known fit.1 short within in
    let here = laid_items starts firsts start first (nat_lt 0 (length items)) (kept_item old new) new.insn r in
    let rest = laid_from old starts firsts (start + size_at start r) (first + item_count r) items rooms in
    let size = chunk.total in
    let total = later.total in
    let whole = bytes-append here rest in
    record { offsets = AreOffsets-append start (start + size_at start r) here rest chunk.offsets (omega arith) later.offsets; total = omega arith }

-- ---- where targets are laid

-- the first of a chunk begins where the chunk does
head_offset : (start size count : ℕ) (chunk rest : List Item) (end : ℕ) → 0 < count → IsChunk start size count chunk → offset_in (chunk ++ rest) end 0 ≡ start
head_offset start size count [] rest end some chunk = let number = chunk.number in absurd (omega arith)
head_offset start size count (x ∷ chunk) rest end some is = is.offsets.0

pub item_count-ge : (r : Room) → 0 < item_count r
item_count-ge (room.Plain n) = omega arith
item_count-ge (room.Switch n) = omega arith
item_count-ge (room.Narrow b) = omega arith
item_count-ge (room.Wide b) = go b.condition where
  go : (taken : Option Condition) → 0 < branch_count taken
  go None = omega arith
  go (Some taken) = omega arith

-- a target's first laid item, among those from a number on
record IsLaidAt (laid : List Item) (first start number : ℕ) : Type 0 where
  place : ℕ
  number_is : number ≡ first + place
  offset_is : offset_in laid zero place ≡ start
  inside : place < length laid

laid_at : (old : List Item) (count : ℕ) (starts firsts : List ℕ) (start first : ℕ) (items : List NewItem) (rooms : List Room) (t : ℕ) → OldFacts old
    → AreFit old count starts start items rooms → end_from start rooms ≤ 65535 → AreOffsetsWithin starts → t < length items
    → IsLaidAt (laid_from old starts firsts start first items rooms) first (slice_index (starts_from start rooms) t) (slice_index (firsts_from first rooms) t)
laid_at old count starts firsts start first [] rooms t known fit short within inside = absurd (omega arith)
laid_at old count starts firsts start first (new ∷ items) [] t known fit short within inside = absurd fit
laid_at old count starts firsts start first (new ∷ items) (r ∷ rooms) zero known fit short within inside =
    let reach = end_grows start (r ∷ rooms) in
    let here = laid_items starts firsts start first (nat_lt 0 (length items)) (kept_item old new) new.insn r in
    let rest = laid_from old starts firsts (start + size_at start r) (first + item_count r) items rooms in
    let chunk = chunk_of old count starts firsts start first (nat_lt 0 (length items)) new r known fit.0 (omega arith) within in
    let number = chunk.number in
    let some = item_count-ge r in
    record {
      place = 0;
      number_is = omega arith;
      offset_is = head_offset start (size_at start r) (item_count r) here rest zero some chunk;
      inside = omega (arith, length-append here rest);
    }
laid_at old count starts firsts start first (new ∷ items) (r ∷ rooms) (suc t) known fit short within inside =
    let reach = end_grows start (r ∷ rooms) in
    let here = laid_items starts firsts start first (nat_lt 0 (length items)) (kept_item old new) new.insn r in
    let rest = laid_from old starts firsts (start + size_at start r) (first + item_count r) items rooms in
    let chunk = chunk_of old count starts firsts start first (nat_lt 0 (length items)) new r known fit.0 (omega arith) within in
    let later = laid_at old count starts firsts (start + size_at start r) (first + item_count r) items rooms t known fit.1 short within (omega arith) in
    let number = chunk.number in
    let number_is = later.number_is in
    let below = later.inside in
    record {
      place = length here + later.place;
      number_is = omega arith;
      offset_is = offset_in-append here rest zero later.place ∙ later.offset_is;
      inside = omega (arith, length-append here rest);
    }

-- ---- reading

-- a laid item is read as its instruction, and names laid items
abbrev IsGood : List Item → Item → Type 0
IsGood laid item = IsRead (offset_in laid zero) item × AllByRecursion (λ t. t < length laid) (targets_of item.insn)

-- a short way on is in reach
near : (start n : ℕ) → (int_le (negsuc 32767) (pos n) && int_le (pos n) (pos 32767)) ≡ true → is_in_reach start (start + n) ≡ true
near start n small =
    let same : distance start (start + n) ≡ pos n = omega (arith, ints) in
    ap (λ z. int_le (negsuc 32767) z && int_le z (pos 32767)) same ∙ small

conditional_targets : (P : ℕ → Type 0) (taken : Condition) (target : ℕ) → P target → AllByRecursion P (targets_of (conditional taken target))
conditional_targets P (condition.Int t) target p = (p, tt)
conditional_targets P (condition.Pair t) target p = (p, tt)
conditional_targets P (condition.Same t) target p = (p, tt)
conditional_targets P (condition.Null t) target p = (p, tt)

short_good : (laid : List Item) (start to target : ℕ) (taken : Option Condition) → is_in_reach start to ≡ true → offset_in laid zero target ≡ to → target < length laid
    → IsGood laid (short_item start taken to target)
short_good laid start to target None reach at inside = (short_read start to target None (offset_in laid zero) reach at, (inside, tt))
short_good laid start to target (Some taken) reach at inside =
    (short_read start to target (Some taken) (offset_in laid zero) reach at, conditional_targets (λ t. t < length laid) taken target inside)

goto_w_good : (laid : List Item) (start to target : ℕ) → start ≤ 65535 → to ≤ 65535 → offset_in laid zero target ≡ to → target < length laid → IsGood laid (goto_w_item start to target)
goto_w_good laid start to target start_near to_near at inside = (goto_w_read start to target (offset_in laid zero) start_near to_near at, (inside, tt))

-- the offset of an item behind others
behind : (laid front rest : List Item) (first m : ℕ) → laid ≡ front ++ rest → length front ≡ first → offset_in laid zero (first + m) ≡ offset_in rest zero m
behind laid front rest first m is count =
    (λ k. offset_in (is k) zero (sym count k + m)) ∙ offset_in-append front rest zero m

wide_good : (laid front rest : List Item) (start first to target : ℕ) (follows : Bool) (taken : Option Condition) → laid ≡ front ++ (wide_items start first follows taken to target ++ rest)
    → length front ≡ first → start + wide_size taken ≤ 65535 → to ≤ 65535 → offset_in laid zero target ≡ to → target < length laid
    → (follows ≡ true → (offset_in rest zero 0 ≡ start + wide_size taken) × (0 < length rest)) → AllByRecursion (IsGood laid) (wide_items start first follows taken to target)
wide_good laid front rest start first to target follows None is count short to_short at inside next =
    (goto_w_good laid start to target (omega arith) to_short at inside, tt)
wide_good laid front rest start first to target true (Some taken) is count short to_short at inside next =
    let a = short_item start (Some (opposite taken)) (start + 8) (first + 2) in
    let b = goto_w_item (start + 3) to target in
    let (rest_at, some) = next refl in
    let size = ap length is ∙ length-append front (a ∷ b ∷ rest) in
    let two = behind laid front (a ∷ b ∷ rest) first 2 is count ∙ rest_at in (
      short_good laid start (start + 8) (first + 2) (Some (opposite taken)) (near start 8 refl) two (omega arith),
      (goto_w_good laid (start + 3) to target (omega arith) to_short at inside, tt),
    )
wide_good laid front rest start first to target false (Some taken) is count short to_short at inside next =
    let a = short_item start (Some (opposite taken)) (start + 3) (first + 1) in
    let b = goto_w_item (start + 3) to target in
    let size = ap length is ∙ length-append front (a ∷ b ∷ rest) in
    let one = behind laid front (a ∷ b ∷ rest) first 1 is count in (
      short_good laid start (start + 3) (first + 1) (Some (opposite taken)) (near start 3 refl) one (omega arith),
      (goto_w_good laid (start + 3) to target (omega arith) to_short at inside, tt),
    )

-- ---- targets

map-twice : (f g h : ℕ → ℕ) (ts : List ℕ) → AllByRecursion (λ t. f (g t) ≡ h t) ts → map f (map g ts) ≡ map h ts
map-twice f g h [] agree = refl
map-twice f g h (t ∷ ts) agree = (λ k. agree.0 k ∷ map-twice f g h ts agree.1 k)

pub with_targets-twice : (f g h : ℕ → ℕ) (i : Insn) → AllByRecursion (λ t. f (g t) ≡ h t) (targets_of i) → with_targets f (with_targets g i) ≡ with_targets h i
with_targets-twice f g h (insn.IfInt t n) agree = ap (insn.IfInt t) agree.0
with_targets-twice f g h (insn.IfPair t n) agree = ap (insn.IfPair t) agree.0
with_targets-twice f g h (insn.IfSame t n) agree = ap (insn.IfSame t) agree.0
with_targets-twice f g h (insn.IfNull t n) agree = ap (insn.IfNull t) agree.0
with_targets-twice f g h (insn.Goto n) agree = ap insn.Goto agree.0
with_targets-twice f g h (insn.Table low others targets) agree = (λ k. insn.Table low (agree.0 k) (map-twice f g h targets agree.1 k))
with_targets-twice f g h (insn.Lookup others keys targets) agree = (λ k. insn.Lookup (agree.0 k) keys (map-twice f g h targets agree.1 k))
with_targets-twice f g h i agree = refl

map-all : (P : ℕ → Type 0) (g : ℕ → ℕ) (ts : List ℕ) → AllByRecursion (λ t. P (g t)) ts → AllByRecursion P (map g ts)
map-all P g [] all = tt
map-all P g (t ∷ ts) all = (all.0, map-all P g ts all.1)

targets-with : (P : ℕ → Type 0) (g : ℕ → ℕ) (i : Insn) → AllByRecursion (λ t. P (g t)) (targets_of i) → AllByRecursion P (targets_of (with_targets g i))
targets-with P g (insn.IfInt t n) all = all
targets-with P g (insn.IfPair t n) all = all
targets-with P g (insn.IfSame t n) all = all
targets-with P g (insn.IfNull t n) all = all
targets-with P g (insn.Goto n) all = all
targets-with P g (insn.Table low others targets) all = (all.0, map-all P g targets all.1)
targets-with P g (insn.Lookup others keys targets) all = (all.0, map-all P g targets all.1)
targets-with P g i all = all

-- each new item's first laid item is laid where the new item begins
abbrev AreLaidAt : List Item → List ℕ → List ℕ → ℕ → Type 0
AreLaidAt laid starts firsts count = (t : ℕ) → t < count → (offset_in laid zero (slice_index firsts t) ≡ slice_index starts t) × (slice_index firsts t < length laid)

moved_good : (laid : List Item) (starts firsts : List ℕ) (count start : ℕ) (kept : Option Item) (i : Insn) (r : Room) → AreLaidAt laid starts firsts count
    → AllByRecursion (λ target. target < count) (targets_of i) → MovedFacts starts start kept i r → IsGood laid (moved_item starts firsts start kept i)
moved_good laid starts firsts count start kept i r at targets facts =
    let f = offset_in laid zero in
    let agree = AllByRecursion-weaker (λ t. t < count) (λ t. f (slice_index firsts t) ≡ slice_index starts t) (λ t below. (at t below).0) (targets_of i) targets in
    let inside = AllByRecursion-weaker (λ t. t < count) (λ t. slice_index firsts t < length laid) (λ t below. (at t below).1) (targets_of i) targets in
    (facts.read ∙ ap (λ j. Some j) (sym (with_targets-twice f (slice_index firsts) (slice_index starts) i agree)), targets-with (λ t. t < length laid) (slice_index firsts) i inside)

-- the first of the rest begins where the rest does
rest_head : (old : List Item) (count : ℕ) (starts firsts : List ℕ) (start first : ℕ) (items : List NewItem) (rooms : List Room) → OldFacts old → AreFit old count starts start items rooms
    → end_from start rooms ≤ 65535 → AreOffsetsWithin starts → 0 < length items
    → (offset_in (laid_from old starts firsts start first items rooms) zero 0 ≡ start) × (0 < length (laid_from old starts firsts start first items rooms))
rest_head old count starts firsts start first [] rooms known fit short within some = absurd (omega arith)
rest_head old count starts firsts start first (new ∷ items) [] known fit short within some = absurd fit
rest_head old count starts firsts start first (new ∷ items) (r ∷ rooms) known fit short within some =
    let reach = end_grows start (r ∷ rooms) in
    let here = laid_items starts firsts start first (nat_lt 0 (length items)) (kept_item old new) new.insn r in
    let rest = laid_from old starts firsts (start + size_at start r) (first + item_count r) items rooms in
    let chunk = chunk_of old count starts firsts start first (nat_lt 0 (length items)) new r known fit.0 (omega arith) within in
    let number = chunk.number in
    let one = item_count-ge r in
    (head_offset start (size_at start r) (item_count r) here rest zero one chunk, omega (arith, length-append here rest))

-- the target of a branch
branch_inside : (count : ℕ) (i : Insn) (target : ℕ) → targets_of i ≡ target ∷ [] → AllByRecursion (λ t. t < count) (targets_of i) → target < count
branch_inside count i target is all = (subst (λ (ts : List ℕ). AllByRecursion (λ t. t < count) ts) is all).0

settled_reach : (starts : List ℕ) (start : ℕ) (b : Branch) → widened_at starts start (room.Narrow b) ≡ room.Narrow b → is_in_reach start (slice_index starts b.target) ≡ true
settled_reach starts start b e = go (is_in_reach start (slice_index starts b.target)) e where
  go : (t : Bool) → (if t then room.Narrow b else room.Wide b) ≡ room.Narrow b → t ≡ true
  go true same = refl
  go false same = cc

here_good : (old : List Item) (count : ℕ) (starts firsts : List ℕ) (laid front rest : List Item) (start first : ℕ) (follows : Bool) (new : NewItem) (r : Room) → OldFacts old
    → ItemFits old count starts start new r → start + size_at start r ≤ 65535 → AreOffsetsWithin starts → AreLaidAt laid starts firsts count
    → laid ≡ front ++ (laid_items starts firsts start first follows (kept_item old new) new.insn r ++ rest) → length front ≡ first
    → (follows ≡ true → (offset_in rest zero 0 ≡ start + size_at start r) × (0 < length rest))
    → AllByRecursion (IsGood laid) (laid_items starts firsts start first follows (kept_item old new) new.insn r)
here_good old count starts firsts laid front rest start first follows new (room.Plain n) known fits short within at is number next =
    let facts = moved_of old count starts start new (room.Plain n) known fits tt (omega arith) within in
    (moved_good laid starts firsts count start (kept_item old new) new.insn (room.Plain n) at fits.targets facts, tt)
here_good old count starts firsts laid front rest start first follows new (room.Switch n) known fits short within at is number next =
    let facts = moved_of old count starts start new (room.Switch n) known fits tt (omega arith) within in
    (moved_good laid starts firsts count start (kept_item old new) new.insn (room.Switch n) at fits.targets facts, tt)
here_good old count starts firsts laid front rest start first follows new (room.Narrow b) known fits short within at is number next =
    let named = branch_target (kept_item old new) new.insn b (narrow_room (room_of (kept_item old new) new.insn) b fits.wider) in
    let below = branch_inside count new.insn b.target named fits.targets in
    (short_good laid start (slice_index starts b.target) (slice_index firsts b.target) b.condition (settled_reach starts start b fits.settled) (at b.target below).0 (at b.target below).1, tt)
here_good old count starts firsts laid front rest start first follows new (room.Wide b) known fits short within at is number next =
    let named = wide_room (kept_item old new) new.insn b fits.wider in
    let below = branch_inside count new.insn b.target named fits.targets in
    wide_good laid front rest start first (slice_index starts b.target) (slice_index firsts b.target) follows b.condition is number short (within b.target)
    (at b.target below).0 (at b.target below).1 next

all_good : (old : List Item) (count : ℕ) (starts firsts : List ℕ) (laid front : List Item) (start first : ℕ) (items : List NewItem) (rooms : List Room) → OldFacts old
    → AreFit old count starts start items rooms → end_from start rooms ≤ 65535 → AreOffsetsWithin starts → AreLaidAt laid starts firsts count
    → laid ≡ front ++ laid_from old starts firsts start first items rooms → length front ≡ first → AllByRecursion (IsGood laid) (laid_from old starts firsts start first items rooms)
all_good old count starts firsts laid front start first [] rooms known fit short within at is number = tt
all_good old count starts firsts laid front start first (new ∷ items) [] known fit short within at is number = absurd fit
all_good old count starts firsts laid front start first (new ∷ items) (r ∷ rooms) known fit short within at is number =
    let follows = nat_lt 0 (length items) in
    let here = laid_items starts firsts start first follows (kept_item old new) new.insn r in
    let rest = laid_from old starts firsts (start + size_at start r) (first + item_count r) items rooms in
    let reach = end_grows (start + size_at start r) rooms in
    let chunk = chunk_of old count starts firsts start first follows new r known fit.0 (omega arith) within in
    let size = chunk.number in
    let next : follows ≡ true → (offset_in rest zero 0 ≡ start + size_at start r) × (0 < length rest) =
    λ some. rest_head old count starts firsts (start + size_at start r) (first + item_count r) items rooms known fit.1 short within (ltb-true 0 (length items) some) in
    AllByRecursion-append (IsGood laid) here rest
    (here_good old count starts firsts laid front rest start first follows new r known fit.0 (omega arith) within at is number next)
    (all_good old count starts firsts laid (front ++ here) (start + size_at start r) (first + item_count r) items rooms known fit.1 short within at
    (is ∙ sym (append_assoc front here rest)) (omega (arith, length-append front here)))

-- ---- the law

pub laid_spelled : (old : List Item) (items : List NewItem) (rooms : List Room) → OldFacts old → AllByRecursion (HasOrigin old) items
    → AllByRecursion (λ (new : NewItem). AllByRecursion (λ target. target < length items) (targets_of new.insn)) items → AreWider (rooms_of old items) rooms
    → rooms ≡ round_after rooms → end_from 0 rooms ≤ 65535 → AreOffsetsWithin (starts_from 0 rooms)
    → let laid = laid_from old (starts_from 0 rooms) (firsts_from 0 rooms) 0 0 items rooms in
    SpellsCode (flat_map item_bytes laid) laid × (length (flat_map item_bytes laid) ≡ end_from 0 rooms)
laid_spelled old items rooms known origins targets wider settled short within =
    let starts = starts_from 0 rooms in
    let firsts = firsts_from 0 rooms in
    let laid = laid_from old starts firsts 0 0 items rooms in
    let count = length items in
    let fit = are_fit old count starts 0 items rooms origins targets wider (sym settled) in
    let chunks = chunks_of old count starts firsts 0 0 items rooms known fit short within in
    let at : AreLaidAt laid starts firsts count =
    λ t below. (let found = laid_at old count starts firsts 0 0 items rooms t known fit short within below in
    let number : slice_index firsts t ≡ found.place = (let is = found.number_is in omega arith) in
    let inside = found.inside in
    (ap (λ n. offset_in laid zero n) number ∙ found.offset_is, omega arith)) in
    let good = all_good old count starts firsts laid [] 0 0 items rooms known fit short within at refl refl in
    let total = chunks.total in (
      record {
        bytes_are = refl;
        offsets = chunks.offsets;
        spelled = AllByRecursion-weaker (IsGood laid) (ItemIsSpelled laid) (λ item both. record { instruction = both.0; targets = both.1 }) laid good;
      },
      omega arith,
    )
