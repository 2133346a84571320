-- The parts of what makes a method's new code safe insertions into its old one, but for the first, which is of classes, and when one is the least that a method
-- fails whose new code is neither its old one nor that with safe insertions.
use Rattle.std.specs.Prelude.{◌≡◌, ◌+◌, ◌-◌, ◌<◌, ◌==◌, ℕ, Bool, true, false, List, [], ◌∷◌, length, drop, Option, Some, None, Contains, nat_eq, slice_index, if◌then◌else◌}
use Rattle.std.specs.List.{IsDistinct, range_with_len}
use Rattle.fm_base.specs.declared.limits.TheConstants.{MAX_LOCAL_WORDS}
use Rattle.fm_code.specs.SpellsCode.{with_targets}
use Rattle.fm_code.specs.declared.code_array.Code.{Code}
use Rattle.fm_code.specs.declared.code_array.Item.{Item}
use Rattle.fm_code.specs.declared.instructions.Insn.{Insn}
use Rattle.fm_code.specs.declared.instructions.Insn.TheVariants as insn
use Rattle.fm_conn.specs.Facts.{Facts}
use Rattle.fm_conn.specs.Nodes.{TypedMethod}
use Rattle.fm_place.specs.Places.{is_busy, MayHold}
use Rattle.fm_place.specs.Sites.{is_captured_site, site_class}
use Rattle.fm_audit.specs.Reading.{after_frees, after_nulls, after_taken, is_widened, kept_count, Read, read, taken}
use Rattle.fm_place_weave.specs.declared.planned.Planned.{Planned}
use Rattle.fm_place_weave.specs.declared.planned.Planned.TheVariants as planned
use Rattle.fm_audit.specs.declared.parts.Part.{Part}
use Rattle.fm_audit.specs.declared.parts.Part.TheVariants as part

-- ---- part 2: the items

-- of each old item the number of the first new one that is inserted before it, or of it itself; and at the end that of what follows
abbrev pub anchors_from : (free first total : ℕ) → (old new : List Item) → List ℕ
anchors_from free first total [] new = (total - length new) ∷ []
anchors_from free first total (item ∷ old) new =
    let here = after_frees free first new in
    let next = drop (kept_count item here) here in
    (total - length new) ∷ anchors_from free first total old (after_taken (taken first next) next)

-- the same of a whole code
abbrev pub anchors_read : (free first : ℕ) → (old new : List Item) → List ℕ
anchors_read free first old new = anchors_from free first (length new) old (after_nulls first new)

-- where a branch or a goto leads, if it is one
abbrev pub target_of : Insn → Option ℕ
target_of (insn.IfInt test target) = Some target
target_of (insn.IfPair test target) = Some target
target_of (insn.IfSame same target) = Some target
target_of (insn.IfNull null target) = Some target
target_of (insn.Goto target) = Some target
target_of i = None

-- A widened branch leads where it is meant to: its goto there, and its test, which has this number, past the goto. Where no item follows the test names the
-- goto, since the end is none.
abbrev pub IsWidenedTo : (number : ℕ) → (meant : Insn) → List Item → Type 0
IsWidenedTo number meant (a ∷ b ∷ []) = (target_of a.insn ≡ Some (number + 1)) × (target_of b.insn ≡ target_of meant)
IsWidenedTo number meant (a ∷ b ∷ c ∷ rest) = (target_of a.insn ≡ Some (number + 2)) × (target_of b.insn ≡ target_of meant)
IsWidenedTo number meant items = ⊥

-- items that keep an instruction whose targets are these: its branch is widened, or the first of them has it
abbrev pub IsKeptAs : (widened : Bool) → (number : ℕ) → (meant : Insn) → List Item → Type 0
IsKeptAs true number meant items = IsWidenedTo number meant items
IsKeptAs false number meant [] = ⊥
IsKeptAs false number meant (a ∷ items) = a.insn ≡ meant

-- the first of these items, which has this number, keep an old one, with the targets that it has to have
abbrev pub IsKept : (anchors : List ℕ) → (number : ℕ) → Item → List Item → Type 0
IsKept anchors number item [] = ⊥
IsKept anchors number item (a ∷ items) =
    IsKeptAs (is_widened item (a ∷ items)) number (with_targets (slice_index anchors) item.insn) (a ∷ items)

-- so each old item is kept
abbrev pub AreKeptFrom : (free first : ℕ) → (anchors : List ℕ) → (total : ℕ) → (old new : List Item) → Type 0
AreKeptFrom free first anchors total [] new = Unit {0}
AreKeptFrom free first anchors total (item ∷ old) new =
    let here = after_frees free first new in
    let next = drop (kept_count item here) here in
    IsKept anchors (total - length here) item here × AreKeptFrom free first anchors total old (after_taken (taken first next) next)

-- with the targets that are read in the new items
abbrev pub AreKept : (free first : ℕ) → (old new : List Item) → Type 0
AreKept free first old new = AreKeptFrom free first (anchors_read free first old new) (length new) old (after_nulls first new)

-- the holders that are freed before an item, by the pairs
abbrev pub freed_before : List (ℕ × ℕ) → ℕ → List ℕ
freed_before [] j = []
freed_before (p ∷ pairs) j = if p.0 == j then p.1 ∷ freed_before pairs j else freed_before pairs j

-- what is inserted is read as this, each old item is kept, each holder has a local that there may be, and none is freed twice before one item
pub record HasItems (free : ℕ) (old : Code) (new : List Item) (found : Read) : Type 0 where
  pub read_is : read free old.max_locals old.items new ≡ Some found
  pub kept : AreKept free old.max_locals old.items new
  pub starts : (h : ℕ) → Contains found.starts h → old.max_locals + h < MAX_LOCAL_WORDS
  pub before : (j h : ℕ) → Contains found.pairs.before (j, h) → old.max_locals + h < MAX_LOCAL_WORDS
  pub after : (j h : ℕ) → Contains found.pairs.after (j, h) → old.max_locals + h < MAX_LOCAL_WORDS
  pub once : (j : ℕ) → IsDistinct nat_eq (freed_before found.pairs.before j)

-- ---- part 3: the holders

-- there are some, all null at the start, in the order of their numbers, and each takes the objects of one captured site, that of no other
pub record HasHolders (facts : Facts) (x : TypedMethod) (found : Read) : Type 0 where
  pub some : 0 < length found.starts
  pub starts : found.starts ≡ range_with_len 0 (length found.starts)
  pub captured : (j h : ℕ) → Contains found.pairs.after (j, h) → (is_captured_site facts x j ≡ true) × (h < length found.starts)
  pub site : (h : ℕ) → h < length found.starts → (j : ℕ) × Contains found.pairs.after (j, h)
  pub only : (i j h : ℕ) → Contains found.pairs.after (i, h) → Contains found.pairs.after (j, h) → i ≡ j

-- ---- parts 4 and 5: where they are freed

-- no holder is freed where its class is busy, and each that is freed takes objects
abbrev pub AreQuiet : Facts → TypedMethod → Read → Type 0
AreQuiet facts x found =
    (j h : ℕ) → Contains found.pairs.before (j, h)
    → (site : ℕ) × Contains found.pairs.after (site, h) × (is_busy facts x (site_class facts x site) j ≡ false)

-- each is freed wherever it may hold something and its class isn't busy
abbrev pub AreFreed : Facts → TypedMethod → Read → Type 0
AreFreed facts x found =
    (j h site : ℕ) → j < length x.code.items → Contains found.pairs.after (site, h) → is_busy facts x (site_class facts x site) j ≡ false
    → MayHold facts x site (site_class facts x site) j → Contains found.pairs.before (j, h)

-- ---- the least part that a method fails

-- This is the least of the parts 3 to 5 that fails for what is read, or it is part 6, which is what is left where they hold.
abbrev pub FailsRead : Facts → TypedMethod → Read → Part → Type 0
FailsRead facts x found part.Holders = HasHolders facts x found → ⊥
FailsRead facts x found part.Uses = HasHolders facts x found × (AreQuiet facts x found → ⊥)
FailsRead facts x found part.Frees = HasHolders facts x found × AreQuiet facts x found × (AreFreed facts x found → ⊥)
FailsRead facts x found part.Layout = HasHolders facts x found × AreQuiet facts x found × AreFreed facts x found
FailsRead facts x found other = ⊥

-- Of a method whose new code isn't its old one with safe insertions, part 6 is what is left where it has the others.
abbrev pub FailsPart : Facts → TypedMethod → (free : ℕ) → (old : Code) → (new : List Item) → Part → Type 0
FailsPart facts x free old new part.Items = (found : Read) → HasItems free old new found → ⊥
FailsPart facts x free old new other = (found : Read) × HasItems free old new found × FailsRead facts x found other

-- the least of the parts 2 to 5 that a method fails, if it fails one, with what is to be done with it otherwise: nothing where no holder is null at its start
abbrev pub IsJudgedBy : Facts → TypedMethod → (free : ℕ) → (old : Code) → (new : List Item) → Option Part → Planned → Type 0
IsJudgedBy facts x free old new (Some failed) done = FailsPart facts x free old new failed
IsJudgedBy facts x free old new None planned.Same = (found : Read) × HasItems free old new found × (found.starts ≡ [])
IsJudgedBy facts x free old new None (planned.Woven plan) = FailsPart facts x free old new part.Layout
IsJudgedBy facts x free old new None (planned.TooLong bytes chains) = ⊥
