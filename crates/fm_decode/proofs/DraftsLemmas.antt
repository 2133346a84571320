-- Items one after the other, as they are read, are the items that the bytes spell with offsets for targets.
use Rattle.std.proofs.Common.{◌≡◌, ℕ, zero, suc, ◌+◌, ◌-◌, ◌<◌, ◌≤◌, List, [], ◌∷◌, ◌++◌, length, get_or, take, drop, Some, None, refl, sym, ap, subst, ◌∙◌, arith, append_assoc, length-take, length-drop}
use Rattle.std.specs.List.{flat_map, AllByRecursion}
use Rattle.std.proofs.lemmas.List.{take_at, drop_at, take-append-drop, drop-drop, append-nil, take_all, drop_all}
use Rattle.std.proofs.lemmas.Option.{none-some, same_Some}
use Rattle.fm_code.specs.ClassBytes.{item_bytes}
use Rattle.fm_code.specs.InstructionTable.{insn_at, reading_of}
use Rattle.fm_code.specs.SpellsCode.{AreOffsets}
use Rattle.fm_code.specs.declared.instructions.Insn.{Insn}
use Rattle.fm_code.specs.declared.code_array.Item.{Item}
use Rattle.fm_code.proofs.InsnPrefixes.{insn_at_tells_end, insn_at_not_empty}
use Rattle.fm_decode.specs.declared.shapes.InsnShape.{InsnShape}
use Rattle.fm_decode.specs.declared.shapes.InsnShape.TheVariants as shape
use Rattle.fm_decode.specs.inner.Shapes.{shape_reading}
use Rattle.fm_decode.specs.inner.Drafts.{shape_at, BeginsWith, IsFront, IsRead, AreDrafts}
use Rattle.fm_decode.proofs.OperandsLemmas.{IsReadBy, plain_reads}
use Rattle.fm_decode.proofs.SwitchesLemmas.{table_reads, lookup_reads}

-- ---- the instruction at the front

shape_reads : (s : InsnShape) → IsReadBy (shape_reading s) (shape_at s)
shape_reads shape.TableSwitch = table_reads
shape_reads shape.LookupSwitch = lookup_reads
shape_reads s = plain_reads s (λ e. absurd cc) (λ e. absurd cc)

begins : (at opcode : ℕ) (operands : List ℕ) (s : InsnShape) (i : Insn) (n m : ℕ) → shape_reading s ≡ reading_of opcode → shape_at s at operands ≡ Some (i, n) → m ≡ suc n
    → BeginsWith at (opcode ∷ operands) i m
unfolding insn_at
begins at opcode operands s i n m same found size =
    let taken = (shape_reads s).takes at operands i n found in
    let read : insn_at at (opcode ∷ take n operands) ≡ Some i = (λ k. sym same k at (take n operands)) ∙ taken.1 in
    subst (λ (k : ℕ). BeginsWith at (opcode ∷ operands) i k) (sym size) (record { within = omega (arith, taken.0); insn_is = read })

begins_with_none : (at opcode : ℕ) (operands : List ℕ) (s : InsnShape) → shape_reading s ≡ reading_of opcode → shape_at s at operands ≡ None → (i : Insn) (n : ℕ)
    → BeginsWith at (opcode ∷ operands) i n → ⊥
unfolding insn_at
begins_with_none at opcode operands s same none i zero begins = absurd (none-some i begins.insn_is)
begins_with_none at opcode operands s same none i (suc n) begins =
    let read : shape_reading s at (take n operands) ≡ Some i = (λ k. same k at (take n operands)) ∙ begins.insn_is in
    let found = (shape_reads s).again at operands i n (omega (arith, begins.within)) read in
    none-some (i, n) (sym none ∙ found)

-- what follows the first byte, as the slice from 1 on has it
abbrev pub operands_in : List ℕ → List ℕ
operands_in bytes = take (length bytes - 1) (drop 1 bytes)

operands_are : (opcode : ℕ) (operands : List ℕ) → operands_in (opcode ∷ operands) ≡ operands
operands_are opcode operands = take_all (length (opcode ∷ operands) - 1) operands (omega arith)

-- the same of bytes whose first one is the opcode
pub begins_in : (at : ℕ) (bytes : List ℕ) (s : InsnShape) (i : Insn) (n : ℕ) → 0 < length bytes → shape_reading s ≡ reading_of (get_or bytes 0 0)
    → shape_at s at (operands_in bytes) ≡ Some (i, n) → BeginsWith at bytes i (1 + n)
begins_in at [] s i n some same found = absurd (omega arith)
begins_in at (opcode ∷ operands) s i n some same found =
    begins at opcode operands s i n (1 + n) same (ap (shape_at s at) (sym (operands_are opcode operands)) ∙ found) (omega arith)

pub begins_in_none : (at : ℕ) (bytes : List ℕ) (s : InsnShape) → 0 < length bytes → shape_reading s ≡ reading_of (get_or bytes 0 0)
    → shape_at s at (operands_in bytes) ≡ None → (i : Insn) (n : ℕ) → BeginsWith at bytes i n → ⊥
begins_in_none at [] s some same none i n = absurd (omega arith)
begins_in_none at (opcode ∷ operands) s some same none i n =
    begins_with_none at opcode operands s same (ap (shape_at s at) (sym (operands_are opcode operands)) ∙ none) i n

-- ---- items in front of bytes

abbrev pub made : ℕ → List ℕ → Insn → Item
made offset bytes i = record { offset = offset; bytes = bytes; insn = i }

pub front_from : (at : ℕ) (bytes : List ℕ) (i : Insn) (n : ℕ) → BeginsWith at bytes i n → IsFront at bytes (made at (take n bytes) i)
front_from at bytes i n begins =
    let size : length (take n bytes) ≡ n = omega (arith, length-take n bytes, begins.within) in
    record { offset_is = refl; bytes_are = ap (λ (k : ℕ). take k bytes) (sym size); insn_is = begins.insn_is }

pub begins_from : (at : ℕ) (bytes : List ℕ) (item : Item) → IsFront at bytes item → BeginsWith at bytes item.insn (length item.bytes)
begins_from at bytes item front =
    let size = ap length front.bytes_are in
    record { within = omega (arith, length-take (length item.bytes) bytes); insn_is = ap (insn_at at) (sym front.bytes_are) ∙ front.insn_is }

-- it has bytes, and no more than there are
pub record FrontSize (bytes : List ℕ) (item : Item) : Type 0 where
  pub some : 0 < length item.bytes
  pub within : length item.bytes ≤ length bytes

pub front_size : (at : ℕ) (bytes : List ℕ) (item : Item) → IsFront at bytes item → FrontSize bytes item
front_size at bytes item front = record {
  some = insn_at_not_empty at item.bytes item.insn front.insn_is;
  within = (begins_from at bytes item front).within;
}

-- the bytes have one item at their front
pub front_unique : (at : ℕ) (bytes : List ℕ) (a b : Item) → IsFront at bytes a → IsFront at bytes b → a ≡ b
front_unique at bytes a b p q =
    let rest_a = drop (length a.bytes) bytes in
    let rest_b = drop (length b.bytes) bytes in
    let whole_a : a.bytes ++ rest_a ≡ bytes = ap (λ (front : List ℕ). front ++ rest_a) p.bytes_are ∙ take-append-drop (length a.bytes) bytes in
    let whole_b : b.bytes ++ rest_b ≡ bytes = ap (λ (front : List ℕ). front ++ rest_b) q.bytes_are ∙ take-append-drop (length b.bytes) bytes in
    let texts : a.bytes ≡ b.bytes = insn_at_tells_end at a.bytes b.bytes rest_a rest_b a.insn b.insn p.insn_is q.insn_is (whole_a ∙ sym whole_b) in
    let insns : a.insn ≡ b.insn = same_Some a.insn b.insn (sym p.insn_is ∙ ap (insn_at at) texts ∙ q.insn_is) in
    let offsets : a.offset ≡ b.offset = p.offset_is ∙ sym q.offset_is in
    λ k. made (offsets k) (texts k) (insns k)

-- ---- items one after the other from an offset on, and nothing after them

abbrev pub AreWalked : ℕ → List ℕ → List Item → Type 0
AreWalked offset bytes [] = bytes ≡ []
AreWalked offset bytes (item ∷ items) = IsFront offset bytes item × AreWalked (offset + length item.bytes) (drop (length item.bytes) bytes) items

walked_bytes : (offset : ℕ) (bytes : List ℕ) (items : List Item) → AreWalked offset bytes items → bytes ≡ flat_map item_bytes items
walked_bytes offset bytes [] walked = walked
walked_bytes offset bytes (item ∷ items) walked =
    let n = length item.bytes in
    sym (take-append-drop n bytes) ∙ ap (λ (front : List ℕ). front ++ drop n bytes) (sym walked.0.bytes_are)
    ∙ ap (λ (rest : List ℕ). item.bytes ++ rest) (walked_bytes (offset + n) (drop n bytes) items walked.1)

walked_offsets : (offset : ℕ) (bytes : List ℕ) (items : List Item) → AreWalked offset bytes items → AreOffsets offset items
walked_offsets offset bytes [] walked = tt
walked_offsets offset bytes (item ∷ items) walked =
    (walked.0.offset_is, walked_offsets (offset + length item.bytes) (drop (length item.bytes) bytes) items walked.1)

walked_insns : (offset : ℕ) (bytes : List ℕ) (items : List Item) → AreWalked offset bytes items → AllByRecursion IsRead items
walked_insns offset bytes [] walked = tt
walked_insns offset bytes (item ∷ items) walked =
    (ap (λ (o : ℕ). insn_at o item.bytes) walked.0.offset_is ∙ walked.0.insn_is, walked_insns (offset + length item.bytes) (drop (length item.bytes) bytes) items walked.1)

-- what is read is spelled so
walked_takes : (bytes : List ℕ) (items : List Item) → AreWalked 0 bytes items → AreDrafts bytes items
walked_takes bytes items walked = record {
  bytes_are = walked_bytes 0 bytes items walked;
  offsets = walked_offsets 0 bytes items walked;
  insns = walked_insns 0 bytes items walked;
}

walked_from : (offset : ℕ) (items : List Item) → AreOffsets offset items → AllByRecursion IsRead items → AreWalked offset (flat_map item_bytes items) items
walked_from offset [] offsets reads = refl
walked_from offset (item ∷ items) offsets reads =
    let rest = flat_map item_bytes items in
    let back : drop (length item.bytes) (item.bytes ++ rest) ≡ rest = drop_at item.bytes rest (length item.bytes) refl in
    let front : IsFront offset (item.bytes ++ rest) item = record {
      offset_is = offsets.0;
      bytes_are = sym (take_at item.bytes rest (length item.bytes) refl);
      insn_is = ap (λ (o : ℕ). insn_at o item.bytes) (sym offsets.0) ∙ reads.0;
    } in
    (front, subst (λ (b : List ℕ). AreWalked (offset + length item.bytes) b items) (sym back) (walked_from (offset + length item.bytes) items offsets.1 reads.1))

-- what is spelled so is read
walked_again : (bytes : List ℕ) (items : List Item) → AreDrafts bytes items → AreWalked 0 bytes items
walked_again bytes items are = subst (λ (b : List ℕ). AreWalked 0 b items) (sym are.bytes_are) (walked_from 0 items are.offsets are.insns)

-- ---- the loop

-- the items that were read, and where they end
pub record IsReadUpTo (code : List ℕ) (items : List Item) (at : ℕ) : Type 0 where
  pub goes_on : (more : List Item) → AreWalked at (drop at code) more → AreWalked 0 code (items ++ more)
  pub only : (all : List Item) → AreWalked 0 code all → (more : List Item) × ((all ≡ items ++ more) × AreWalked at (drop at code) more)

pub read_nothing : (code : List ℕ) → IsReadUpTo code [] 0
read_nothing code = record { goes_on = λ more walked. walked; only = λ all walked. (all, (refl, walked)) }

-- with one item more
pub read_more : (code : List ℕ) (items : List Item) (at : ℕ) (item : Item) → IsReadUpTo code items at → IsFront at (drop at code) item
    → IsReadUpTo code (items ++ item ∷ []) (at + length item.bytes)
read_more code items at item so_far front = record { goes_on = goes_on; only = λ all walked. let w = so_far.only all walked in next all w.0 w.1.0 w.1.1 } where
  n : ℕ
  n = length item.bytes

  moved : drop n (drop at code) ≡ drop (at + n) code
  moved = drop-drop n at code

  goes_on : (more : List Item) → AreWalked (at + n) (drop (at + n) code) more → AreWalked 0 code ((items ++ item ∷ []) ++ more)
  goes_on more walked =
      subst (λ (all : List Item). AreWalked 0 code all) (sym (append_assoc items (item ∷ []) more))
      (so_far.goes_on (item ∷ more) (front, subst (λ (b : List ℕ). AreWalked (at + n) b more) (sym moved) walked))

  next : (all more : List Item) → all ≡ items ++ more → AreWalked at (drop at code) more
      → (later : List Item) × ((all ≡ (items ++ item ∷ []) ++ later) × AreWalked (at + n) (drop (at + n) code) later)
  next all [] is walked =
      let size = front_size at (drop at code) item front in
      absurd (omega (arith, size.some, size.within, ap length walked))
  next all (other ∷ more) is walked =
      let same : other ≡ item = front_unique at (drop at code) other item walked.0 front in
      let rest : AreWalked (at + n) (drop n (drop at code)) more =
      subst (λ (i : Item). AreWalked (at + length i.bytes) (drop (length i.bytes) (drop at code)) more) same walked.1 in (
        more,
        (
          is ∙ ap (λ (i : Item). items ++ i ∷ more) same ∙ sym (append_assoc items (item ∷ []) more),
          subst (λ (b : List ℕ). AreWalked (at + n) b more) moved rest,
        ),
      )

-- at the end
pub read_all : (code : List ℕ) (items : List Item) (at : ℕ) → length code ≤ at → IsReadUpTo code items at → AreDrafts code items
read_all code items at end so_far =
    walked_takes code items (subst (λ (all : List Item). AreWalked 0 code all) (append-nil items) (so_far.goes_on [] (drop_all at code end)))

pub read_only : (code : List ℕ) (items : List Item) (at : ℕ) → length code ≤ at → IsReadUpTo code items at → (all : List Item) → AreDrafts code all → items ≡ all
read_only code items at end so_far all are =
    let w = so_far.only all (walked_again code all are) in
    let nothing : w.0 ≡ [] = ended w.0 (subst (λ (b : List ℕ). AreWalked at b w.0) (drop_all at code end) w.1.1) in
    sym (w.1.0 ∙ ap (λ (more : List Item). items ++ more) nothing ∙ append-nil items) where
      ended : (more : List Item) → AreWalked at [] more → more ≡ []
      ended [] walked = refl
      ended (item ∷ more) walked = let size = front_size at [] item walked.0 in absurd (omega (arith, size.some, size.within))

-- where some item is spelled after those that were read, one is there
pub read_next : (code : List ℕ) (items : List Item) (at : ℕ) → at < length code → IsReadUpTo code items at
    → (all : List Item) → AreDrafts code all → (item : Item) × IsFront at (drop at code) item
read_next code items at within so_far all are =
    let w = so_far.only all (walked_again code all are) in first w.0 w.1.1 where
      first : (more : List Item) → AreWalked at (drop at code) more → (item : Item) × IsFront at (drop at code) item
      first [] walked = absurd (omega (arith, ap length walked, length-drop at code))
      first (item ∷ more) walked = (item, walked.0)
