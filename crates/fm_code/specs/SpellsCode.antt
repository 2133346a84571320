-- What it means that bytes are a code array, and the rules of a Code attribute (sections 4.7.3, 4.8 and 4.9).
use Rattle.std.specs.Prelude.{◌≡◌, ℕ, zero, ◌+◌, ◌<◌, List, [], ◌∷◌, length, map, Some}
use Rattle.std.specs.List.{flat_map, AllByRecursion}
use Rattle.fm_code.specs.InstructionTable.{insn_at}
use Rattle.fm_code.specs.ClassBytes.{item_bytes, offset_in}
use Rattle.fm_code.specs.declared.operations.Reg.{Reg}
use Rattle.fm_code.specs.declared.operations.Reg.TheVariants as reg
use Rattle.fm_code.specs.declared.instructions.Insn.{Insn}
use Rattle.fm_code.specs.declared.instructions.Insn.TheVariants as insn
use Rattle.fm_code.specs.declared.code_array.Item.{Item}

-- the items that an instruction names as its targets
abbrev pub targets_of : Insn → List ℕ
targets_of (insn.IfInt test target) = target ∷ []
targets_of (insn.IfPair test target) = target ∷ []
targets_of (insn.IfSame same target) = target ∷ []
targets_of (insn.IfNull null target) = target ∷ []
targets_of (insn.Goto target) = target ∷ []
targets_of (insn.Table low others targets) = others ∷ targets
targets_of (insn.Lookup others keys targets) = others ∷ targets
targets_of i = []

-- the instruction with something else for each target, as the offset of the item
abbrev pub with_targets : (ℕ → ℕ) → Insn → Insn
with_targets f (insn.IfInt test target) = insn.IfInt test (f target)
with_targets f (insn.IfPair test target) = insn.IfPair test (f target)
with_targets f (insn.IfSame same target) = insn.IfSame same (f target)
with_targets f (insn.IfNull null target) = insn.IfNull null (f target)
with_targets f (insn.Goto target) = insn.Goto (f target)
with_targets f (insn.Table low others targets) = insn.Table low (f others) (map f targets)
with_targets f (insn.Lookup others keys targets) = insn.Lookup (f others) keys (map f targets)
with_targets f i = i

-- each item's offset is the sum of the lengths of those before it
abbrev pub AreOffsets : ℕ → List Item → Type 0
AreOffsets offset [] = Unit {0}
AreOffsets offset (item ∷ items) = (item.offset ≡ offset) × AreOffsets (offset + length item.bytes) items

-- the bytes of an item spell its instruction there, and its targets are items, named by their offsets
pub record ItemIsSpelled (items : List Item) (item : Item) : Type 0 where
  pub instruction : insn_at item.offset item.bytes ≡ Some (with_targets (offset_in items zero) item.insn)
  pub targets : AllByRecursion (λ target. target < length items) (targets_of item.insn)

-- the code bytes are the items one after the other
pub record SpellsCode (bytes : List ℕ) (items : List Item) : Type 0 where
  pub bytes_are : bytes ≡ flat_map item_bytes items
  pub offsets : AreOffsets 0 items
  pub spelled : AllByRecursion (ItemIsSpelled items) items

-- a local variable of this kind lies within max_locals, with its second half if it is a long (JVMS 4.9.1)
abbrev pub LocalFits : ℕ → Reg → ℕ → Type 0
LocalFits max_locals reg.Int local = local < max_locals
LocalFits max_locals reg.Long local = local + 1 < max_locals
LocalFits max_locals reg.Ref local = local < max_locals

-- the local variable that an instruction loads, stores or changes does
abbrev pub LocalsFit : ℕ → Insn → Type 0
LocalsFit max_locals (insn.Load kind local) = LocalFits max_locals kind local
LocalsFit max_locals (insn.Store kind local) = LocalFits max_locals kind local
LocalsFit max_locals (insn.Inc local by) = local < max_locals
LocalsFit max_locals i = Unit {0}
