-- What layout asks of the old items and of the new ones.
use Rattle.std.specs.Prelude.{ℕ, zero, ◌≡◌, ◌<◌, ◌≤◌, List, length, Option, Some, None, IsSomeAnd, false, slice_get}
use Rattle.std.specs.List.{AllByRecursion, filter_map, range_with_len}
use Rattle.fm_code.specs.Fits.{AreBytes, FitsTwo}
use Rattle.fm_code.specs.Profile.{is_left_out}
use Rattle.fm_code.specs.SpellsCode.{SpellsCode, targets_of, with_targets}
use Rattle.fm_code.specs.declared.code_array.TheConstants.{MAX_CODE_BYTES}
use Rattle.fm_code.specs.declared.code_array.Item.{Item}
use Rattle.fm_code.specs.declared.operations.Reg.TheVariants as reg
use Rattle.fm_code.specs.declared.instructions.Insn.{Insn}
use Rattle.fm_code.specs.declared.instructions.Insn.TheVariants as insn
use Rattle.fm_layout.specs.declared.new_items.NewItem.{NewItem}
use Rattle.fm_layout.specs.declared.laying.TheConstants.{MAX_NEW_ITEMS}

-- the items of a code array, none of them left out of what is supported
pub record AreOldItems (old : List Item) : Type 0 where
  pub code : List ℕ
  pub spelled : SpellsCode code old
  pub bytes : AreBytes code
  pub not_long : length code ≤ MAX_CODE_BYTES
  pub supported : AllByRecursion (λ (item : Item). is_left_out item.insn ≡ false) old

-- the instructions that may be inserted, with a local or an index of two bytes
abbrev pub IsInserted : Insn → Type 0
IsInserted insn.Null = Unit {0}
IsInserted insn.Dup = Unit {0}
IsInserted (insn.Load reg.Ref local) = FitsTwo local
IsInserted (insn.Store reg.Ref local) = FitsTwo local
IsInserted (insn.Static index) = FitsTwo index
IsInserted i = ⊥

-- two instructions are the same but for the targets that they name
abbrev pub IsSameButTargets : Insn → Insn → Type 0
IsSameButTargets i j = with_targets (λ _. zero) i ≡ with_targets (λ _. zero) j

-- an instruction is that of the old item of this number but for its targets, or is one that may be inserted
abbrev pub IsOrigin : List Item → Insn → Option ℕ → Type 0
IsOrigin old i None = IsInserted i
IsOrigin old i (Some k) = IsSomeAnd (slice_get old k) (λ item. IsSameButTargets i item.insn)

-- the instruction of a new item is that of the old item that it keeps, or may be inserted
abbrev pub HasOrigin : List Item → NewItem → Type 0
HasOrigin old new = IsOrigin old new.insn new.kept

-- new items over old ones: each has its origin, their targets are among them, and there are fewer than may be
pub record AreNewItems (old : List Item) (items : List NewItem) : Type 0 where
  pub each : AllByRecursion (HasOrigin old) items
  pub targets : AllByRecursion (λ (new : NewItem). AllByRecursion (λ target. target < length items) (targets_of new.insn)) items
  -- each old item is kept once, and they keep their order
  pub in_order : filter_map (λ (new : NewItem). new.kept) items ≡ range_with_len 0 (length old)
  pub few : length items < MAX_NEW_ITEMS
