-- What the rules of a Code attribute say of the number of items, of targets and of handlers.
use Rattle.std.proofs.Common.{◌<◌, ◌≤◌, List, [], ◌∷◌, length, arith, length-append}
use Rattle.std.specs.List.{AllByRecursion, flat_map}
use Rattle.fm_base.proofs.ListFacts.{AllByRecursion-weaker}
use Rattle.fm_code.proofs.CodeItems.{HasBytes, AreLaid-code}
use Rattle.fm_code.specs.ClassBytes.{item_bytes}
use Rattle.fm_code.specs.CodeRules.{HandlerIsValid}
use Rattle.fm_code.specs.Edges.{MeetsCodeRules}
use Rattle.fm_code.specs.SpellsCode.{targets_of, ItemIsSpelled}
use Rattle.fm_code.specs.declared.code_array.Code.{Code}
use Rattle.fm_code.specs.declared.code_array.Item.{Item}
use Rattle.fm_flow.specs.inner.Walks.{EndsWithin}

-- items have at least a byte each
items_le_bytes : (items : List Item) → AllByRecursion HasBytes items → length items ≤ length (flat_map item_bytes items)
items_le_bytes [] all = omega arith
items_le_bytes (item ∷ items) (long, all) =
    let rest = items_le_bytes items all in
    let size = length-append item.bytes (flat_map item_bytes items) in omega arith

-- and bytes have items
items_of_bytes : (items : List Item) → 0 < length (flat_map item_bytes items) → 0 < length items
items_of_bytes [] some = absurd (omega arith)
items_of_bytes (item ∷ items) some = omega arith

-- a code has at least one item, and no more than it has bytes
pub items_counted : (code : Code) → MeetsCodeRules code → (0 < length code.items) × (length code.items ≤ 65535)
items_counted code (entries, valid) =
    let laid = AreLaid-code (flat_map item_bytes code.items) code.items valid.spelled in
    let le = items_le_bytes code.items laid.not_empty in
    let measured = valid.measured in
    let long = valid.not_long in
    let some = valid.not_empty in
    (items_of_bytes code.items (omega arith), omega arith)

-- targets are items
pub targets_inside : (code : Code) → MeetsCodeRules code →
    AllByRecursion (λ (item : Item). AllByRecursion (λ target. target < length code.items) (targets_of item.insn)) code.items
targets_inside code (entries, valid) =
    AllByRecursion-weaker (ItemIsSpelled code.items) (λ (item : Item). AllByRecursion (λ target. target < length code.items) (targets_of item.insn))
    (λ item spelled. spelled.targets) code.items valid.spelled.spelled

-- the ranges of handlers are within the code
pub ranges_within : (code : Code) → MeetsCodeRules code → AllByRecursion (EndsWithin (length code.items)) code.handlers
ranges_within code (entries, valid) =
    AllByRecursion-weaker (HandlerIsValid entries (length code.items)) (EndsWithin (length code.items))
    (λ h range. let before = range.not_empty in let end = range.end in record { start = omega arith; end = end })
    code.handlers valid.handlers
