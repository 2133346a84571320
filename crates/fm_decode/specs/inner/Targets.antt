-- The numbers of items for the offsets at which they start.
use Rattle.std.specs.Prelude.{◌≡◌, ℕ, ◌<◌, ◌==◌, nat_lt, List, [], ◌∷◌, length, slice_index, Option, Some, None, if◌then◌else◌}
use Rattle.std.specs.Option.{option_map}
use Rattle.fm_code.specs.declared.instructions.Insn.{Insn}
use Rattle.fm_code.specs.declared.instructions.Insn.TheVariants as insn
use Rattle.fm_code.specs.declared.code_array.Item.{Item}
use Rattle.fm_decode.specs.declared.targets.TheConstants.{NO_ITEM}
use Rattle.fm_decode.specs.inner.Gives.{◌>>=◌}

abbrev pub item_offset : Item → ℕ
item_offset item = item.offset

-- each offset is below the later ones
abbrev pub AreRising : List ℕ → Type 0
AreRising offsets = (i j : ℕ) → i < j → j < length offsets → slice_index offsets i < slice_index offsets j

-- each offset is below the end
abbrev pub AllWithin : ℕ → List ℕ → Type 0
AllWithin end offsets = (n : ℕ) → n < length offsets → slice_index offsets n < end

-- the number at an offset in a list of numbers by offset
abbrev pub number_in : List ℕ → ℕ → Option ℕ
number_in numbers target =
    if nat_lt target (length numbers) then (if slice_index numbers target == NO_ITEM then None else Some (slice_index numbers target)) else None

-- the numbers of these items are at their offsets, and there are no others anywhere
pub record AreStarts (offsets numbers : List ℕ) : Type 0 where
  pub each : (n : ℕ) → n < length offsets → number_in numbers (slice_index offsets n) ≡ Some n
  pub only : (target n : ℕ) → number_in numbers target ≡ Some n → (n < length offsets) × (slice_index offsets n ≡ target)

unfoldable pub numbers_of : List ℕ → List ℕ → Option (List ℕ)
numbers_of numbers [] = Some []
numbers_of numbers (target ∷ targets) = do
  number ← number_in numbers target
  others ← numbers_of numbers targets
  Some (number ∷ others)

-- the instruction with the number of an item for each offset; None where no item starts at one
unfoldable pub numbered_insn : List ℕ → Insn → Option Insn
numbered_insn numbers (insn.IfInt test target) = option_map (insn.IfInt test) (number_in numbers target)
numbered_insn numbers (insn.IfPair test target) = option_map (insn.IfPair test) (number_in numbers target)
numbered_insn numbers (insn.IfSame same target) = option_map (insn.IfSame same) (number_in numbers target)
numbered_insn numbers (insn.IfNull null target) = option_map (insn.IfNull null) (number_in numbers target)
numbered_insn numbers (insn.Goto target) = option_map insn.Goto (number_in numbers target)
numbered_insn numbers (insn.Table low others targets) = do
  other ← number_in numbers others
  found ← numbers_of numbers targets
  Some (insn.Table low other found)
numbered_insn numbers (insn.Lookup others keys targets) = do
  other ← number_in numbers others
  found ← numbers_of numbers targets
  Some (insn.Lookup other keys found)
numbered_insn numbers i = Some i

unfoldable pub numbered_item : List ℕ → Item → Option Item
numbered_item numbers item = option_map (λ i. record { offset = item.offset; bytes = item.bytes; insn = i }) (numbered_insn numbers item.insn)

unfoldable pub numbered_items : List ℕ → List Item → Option (List Item)
numbered_items numbers [] = Some []
numbered_items numbers (draft ∷ drafts) = do
  item ← numbered_item numbers draft
  items ← numbered_items numbers drafts
  Some (item ∷ items)
