-- A code array is the items of one list only.
use Rattle.std.proofs.Common.{◌≡◌, ℕ, zero, suc, ◌+◌, ◌<◌, ◌≤◌, Bool, ◌==◌, List, [], ◌∷◌, ◌++◌, length, map, Some, refl, ap, sym, ◌∙◌, subst, arith, if◌then◌else◌, length-append}
use Rattle.std.proofs.lemmas.Bool.{eq-eqb, ne_eqb}
use Rattle.std.proofs.lemmas.List.{append_cancel_left}
use Rattle.std.specs.List.{AllByRecursion, AllZip, flat_map}
use Rattle.fm_code.specs.ClassBytes.{item_bytes, offset_in}
use Rattle.fm_code.specs.InstructionTable.{insn_at}
use Rattle.fm_code.specs.SpellsCode.{targets_of, with_targets, AreOffsets, ItemIsSpelled, SpellsCode}
use Rattle.fm_code.specs.declared.instructions.Insn.{Insn}
use Rattle.fm_code.specs.declared.instructions.Insn.TheVariants as insn
use Rattle.fm_code.specs.declared.code_array.Item.{Item}
use Rattle.fm_base.proofs.ListFacts.{AllByRecursion-weaker}
use Rattle.fm_code.proofs.InsnPrefixes.{insn_at_tells_end, insn_at_not_empty}

-- ---- offsets

-- each item has at least one byte
abbrev pub HasBytes : Item → Type 0
HasBytes item = 0 < length item.bytes

-- the offsets of items one after the other from the first to the end
pub record AreLaid (start : ℕ) (items : List Item) (end : ℕ) : Type 0 where
  pub offsets : AreOffsets start items
  pub not_empty : AllByRecursion HasBytes items
  pub total : start + length (flat_map item_bytes items) ≡ end

-- without the first item
AreLaid-rest : (start end : ℕ) (item : Item) (items : List Item) → AreLaid start (item ∷ items) end → AreLaid (start + length item.bytes) items end
AreLaid-rest start end item items laid =
    let size = length-append item.bytes (flat_map item_bytes items) in
    let total = laid.total in
    record { offsets = laid.offsets.1; not_empty = laid.not_empty.1; total = omega arith }

-- no item begins before the first one
start_le : (start end : ℕ) (items : List Item) (k : ℕ) → AreLaid start items end → start ≤ offset_in items end k
start_le start end [] k laid = let total = laid.total in omega arith
start_le start end (item ∷ items) zero laid = let first = laid.offsets.0 in omega arith
start_le start end (item ∷ items) (suc k) laid = let later = start_le (start + length item.bytes) end items k (AreLaid-rest start end item items laid) in omega arith

-- no item begins after the end
pub offset_le_end : (start end : ℕ) (items : List Item) (k : ℕ) → AreLaid start items end → offset_in items end k ≤ end
offset_le_end start end [] k laid = omega arith
offset_le_end start end (item ∷ items) zero laid = let first = laid.offsets.0 in let total = laid.total in omega arith
offset_le_end start end (item ∷ items) (suc k) laid = offset_le_end (start + length item.bytes) end items k (AreLaid-rest start end item items laid)

-- a later item, or the end, has a greater offset
pub offset_rises : (start end : ℕ) (items : List Item) (k l : ℕ) → AreLaid start items end → k < l → l ≤ length items →
    offset_in items end k < offset_in items end l
offset_rises start end [] k l laid before inside = absurd (omega arith)
offset_rises start end (item ∷ items) k zero laid before inside = absurd (omega arith)
offset_rises start end (item ∷ items) zero (suc l) laid before inside =
    let first = laid.offsets.0 in
    let long = laid.not_empty.0 in
    let later = start_le (start + length item.bytes) end items l (AreLaid-rest start end item items laid) in
    omega arith
offset_rises start end (item ∷ items) (suc k) (suc l) laid before inside =
    offset_rises (start + length item.bytes) end items k l (AreLaid-rest start end item items laid) (omega arith) (omega arith)

-- where an item is, the end doesn't matter
offset_of_item : (items : List Item) (end end' k : ℕ) → k < length items → offset_in items end k ≡ offset_in items end' k
offset_of_item [] end end' k inside = absurd (omega arith)
offset_of_item (item ∷ items) end end' zero inside = refl
offset_of_item (item ∷ items) end end' (suc k) inside = offset_of_item items end end' k (omega arith)

-- the first item of that offset
index_of : List Item → ℕ → ℕ
index_of [] offset = 0
index_of (item ∷ items) offset = if item.offset == offset then 0 else suc (index_of items offset)

-- an item is found by its offset
index_of-offset_in : (start end : ℕ) (items : List Item) (k : ℕ) → AreLaid start items end → k < length items → index_of items (offset_in items end k) ≡ k
unfolding index_of
index_of-offset_in start end [] k laid inside = absurd (omega arith)
index_of-offset_in start end (item ∷ items) zero laid inside =
    ap (λ (t : Bool). if t then 0 else suc (index_of items item.offset)) (eq-eqb item.offset item.offset refl)
index_of-offset_in start end (item ∷ items) (suc k) laid inside =
    let rises : item.offset < offset_in items end k = offset_rises start end (item ∷ items) zero (suc k) laid (omega arith) (omega arith) in
    ap (λ (t : Bool). if t then 0 else suc (index_of items (offset_in items end k))) (ne_eqb item.offset (offset_in items end k) (λ same. absurd (omega arith)))
    ∙ ap suc (index_of-offset_in (start + length item.bytes) end items k (AreLaid-rest start end item items laid) (omega arith))

-- ---- targets

-- a list of targets that are named and found again
map_back : (f g : ℕ → ℕ) (targets : List ℕ) → AllByRecursion (λ target. g (f target) ≡ target) targets → map g (map f targets) ≡ targets
map_back f g [] back = refl
map_back f g (target ∷ targets) (here, back) = λ k. here k ∷ map_back f g targets back k

-- targets that are named and found again
with_targets_back : (f g : ℕ → ℕ) (i : Insn) → AllByRecursion (λ target. g (f target) ≡ target) (targets_of i) → with_targets g (with_targets f i) ≡ i
with_targets_back f g (insn.IfInt test target) (back, _) = ap (insn.IfInt test) back
with_targets_back f g (insn.IfPair test target) (back, _) = ap (insn.IfPair test) back
with_targets_back f g (insn.IfSame same target) (back, _) = ap (insn.IfSame same) back
with_targets_back f g (insn.IfNull null target) (back, _) = ap (insn.IfNull null) back
with_targets_back f g (insn.Goto target) (back, _) = ap insn.Goto back
with_targets_back f g (insn.Table low others targets) (back, all_back) = λ k. insn.Table low (back k) (map_back f g targets all_back k)
with_targets_back f g (insn.Lookup others keys targets) (back, all_back) = λ k. insn.Lookup (back k) keys (map_back f g targets all_back k)
with_targets_back f g i back = refl

-- ---- the items

-- an item's place and bytes
abbrev pub SameSpelling : Item → Item → Type 0
SameSpelling x y = (x.offset ≡ y.offset) × (x.bytes ≡ y.bytes)

-- some instruction is spelled
abbrev IsRead : Item → Type 0
IsRead item = (i : Insn) × (insn_at item.offset item.bytes ≡ Some i)

-- an instruction has bytes
IsRead-has_bytes : (item : Item) → IsRead item → HasBytes item
IsRead-has_bytes item (i, read) = insn_at_not_empty item.offset item.bytes i read

-- bytes are cut into instructions in one way
same_cuts : (start : ℕ) (xs ys : List Item) → AreOffsets start xs → AreOffsets start ys → AllByRecursion IsRead xs → AllByRecursion IsRead ys →
    flat_map item_bytes xs ≡ flat_map item_bytes ys → AllZip SameSpelling xs ys
same_cuts start [] [] first second x_read y_read e = tt
same_cuts start [] (y ∷ ys) first second x_read (read, y_read) e =
    let long = IsRead-has_bytes y read in
    let size = length-append y.bytes (flat_map item_bytes ys) in
    let same : 0 ≡ length (y.bytes ++ flat_map item_bytes ys) = ap length e in
    absurd (omega arith)
same_cuts start (x ∷ xs) [] first second (read, x_read) y_read e =
    let long = IsRead-has_bytes x read in
    let size = length-append x.bytes (flat_map item_bytes xs) in
    let same : length (x.bytes ++ flat_map item_bytes xs) ≡ 0 = ap length e in
    absurd (omega arith)
same_cuts start (x ∷ xs) (y ∷ ys) (x_at, first) (y_at, second) ((i, i_read), x_read) ((j, j_read), y_read) e =
    let i_there : insn_at start x.bytes ≡ Some i = ap (λ (offset : ℕ). insn_at offset x.bytes) (sym x_at) ∙ i_read in
    let j_there : insn_at start y.bytes ≡ Some j = ap (λ (offset : ℕ). insn_at offset y.bytes) (sym y_at) ∙ j_read in
    let same : x.bytes ≡ y.bytes = insn_at_tells_end start x.bytes y.bytes (flat_map item_bytes xs) (flat_map item_bytes ys) i j i_there j_there e in
    let rest : flat_map item_bytes xs ≡ flat_map item_bytes ys =
    append_cancel_left y.bytes (flat_map item_bytes xs) (flat_map item_bytes ys) (ap (λ (bytes : List ℕ). bytes ++ flat_map item_bytes xs) (sym same) ∙ e) in
    let second_there : AreOffsets (start + length x.bytes) ys = subst (λ (bytes : List ℕ). AreOffsets (start + length bytes) ys) (sym same) second in
    ((x_at ∙ sym y_at, same), same_cuts (start + length x.bytes) xs ys first second_there x_read y_read rest)

-- lists with the same spelling are of one length
same_count : (xs ys : List Item) → AllZip SameSpelling xs ys → length xs ≡ length ys
same_count [] [] same = refl
same_count [] (y ∷ ys) same = absurd same
same_count (x ∷ xs) [] same = absurd same
same_count (x ∷ xs) (y ∷ ys) (_, same) = ap suc (same_count xs ys same)

-- and their items begin at the same offsets
same_offset : (xs ys : List Item) (end k : ℕ) → AllZip SameSpelling xs ys → offset_in xs end k ≡ offset_in ys end k
same_offset [] [] end k same = refl
same_offset [] (y ∷ ys) end k same = absurd same
same_offset (x ∷ xs) [] end k same = absurd same
same_offset (x ∷ xs) (y ∷ ys) end zero (same, _) = same.0
same_offset (x ∷ xs) (y ∷ ys) end (suc k) (_, same) = same_offset xs ys end k same

-- items that spell the same instructions are the same, where each target is determined by its offset
same_items : (xs_all ys_all : List Item) (find : ℕ → ℕ) → ((target : ℕ) → target < length xs_all → find (offset_in xs_all zero target) ≡ target) →
    length xs_all ≡ length ys_all → offset_in xs_all zero ≡ offset_in ys_all zero →
    (xs ys : List Item) → AllZip SameSpelling xs ys → AllByRecursion (ItemIsSpelled xs_all) xs → AllByRecursion (ItemIsSpelled ys_all) ys → xs ≡ ys
same_items xs_all ys_all find found count offsets [] [] same x_spelled y_spelled = refl
same_items xs_all ys_all find found count offsets [] (y ∷ ys) same x_spelled y_spelled = absurd same
same_items xs_all ys_all find found count offsets (x ∷ xs) [] same x_spelled y_spelled = absurd same
same_items xs_all ys_all find found count offsets (x ∷ xs) (y ∷ ys) ((at, bytes), same) (x_is, x_spelled) (y_is, y_spelled) =
    let f = offset_in xs_all zero in
    let IsFound : ℕ → Type 0 = λ target. find (f target) ≡ target in
    let found_y : (target : ℕ) → target < length ys_all → IsFound target = λ target inside. found target (omega arith) in
    let x_back = with_targets_back f find x.insn (AllByRecursion-weaker (λ target. target < length xs_all) IsFound found (targets_of x.insn) x_is.targets) in
    let y_back = with_targets_back f find y.insn (AllByRecursion-weaker (λ target. target < length ys_all) IsFound found_y (targets_of y.insn) y_is.targets) in
    let both : Some (with_targets f x.insn) ≡ Some (with_targets f y.insn) =
    sym x_is.instruction ∙ (λ k. insn_at (at k) (bytes k)) ∙ y_is.instruction ∙ ap (λ (g : ℕ → ℕ). Some (with_targets g y.insn)) (sym offsets) in
    let named : with_targets f x.insn ≡ with_targets f y.insn = cc in
    let insns : x.insn ≡ y.insn = sym x_back ∙ ap (with_targets find) named ∙ y_back in
    let rest = same_items xs_all ys_all find found count offsets xs ys same x_spelled y_spelled in
    λ k. record { offset = at k; bytes = bytes k; insn = insns k } ∷ rest k

-- an item that is spelled has an instruction
ItemIsSpelled-read : (items : List Item) (item : Item) → ItemIsSpelled items item → IsRead item
ItemIsSpelled-read items item spelled = (with_targets (offset_in items zero) item.insn, spelled.instruction)

-- the items of a code array lie one after the other from 0
pub AreLaid-code : (bytes : List ℕ) (items : List Item) → SpellsCode bytes items → AreLaid 0 items (length bytes)
AreLaid-code bytes items spells =
    let size : length bytes ≡ length (flat_map item_bytes items) = ap length spells.bytes_are in
    record {
      offsets = spells.offsets;
      not_empty = AllByRecursion-weaker (ItemIsSpelled items) HasBytes (λ item spelled. IsRead-has_bytes item (ItemIsSpelled-read items item spelled)) items spells.spelled;
      total = omega arith;
    }

-- the bytes of a code array determine its items
pub one_code : (bytes : List ℕ) (xs ys : List Item) → SpellsCode bytes xs → SpellsCode bytes ys → xs ≡ ys
one_code bytes xs ys x_spells y_spells =
    let laid = AreLaid-code bytes xs x_spells in
    let same = same_cuts 0 xs ys x_spells.offsets y_spells.offsets
    (AllByRecursion-weaker (ItemIsSpelled xs) IsRead (ItemIsSpelled-read xs) xs x_spells.spelled) (AllByRecursion-weaker (ItemIsSpelled ys) IsRead (ItemIsSpelled-read ys) ys y_spells.spelled)
    (sym x_spells.bytes_are ∙ y_spells.bytes_are) in
    let found : (target : ℕ) → target < length xs → index_of xs (offset_in xs zero target) ≡ target = λ target inside.
    ap (index_of xs) (offset_of_item xs zero (length bytes) target inside) ∙ index_of-offset_in 0 (length bytes) xs target laid inside in
    same_items xs ys (index_of xs) found (same_count xs ys same) (λ k target. same_offset xs ys zero target same k) xs ys same x_spells.spelled y_spells.spelled
