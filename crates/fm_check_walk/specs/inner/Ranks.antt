-- How far what is known of slots may still rise: a number that falls wherever a state rises, so that a walk ends.
use Rattle.std.specs.Prelude.{ℕ, ◌+◌, ◌*◌, ◌^◌, ◌<◌, List, [], ◌∷◌, ◌++◌, length, map, Option, Some, None, All, count_by, sum_by, if◌then◌else◌}
use Rattle.std.specs.List.{flat_map, range_with_len}
use Rattle.fm_base.specs.declared.kinds.Base.{Base}
use Rattle.fm_base.specs.declared.kinds.Base.TheVariants as base
use Rattle.fm_code.specs.declared.code_array.Code.{Code}
use Rattle.fm_types.specs.Fits.{fits}
use Rattle.fm_types.specs.States.{TypeState}
use Rattle.fm_types.specs.declared.slots.Slot.{Slot}
use Rattle.fm_types.specs.declared.slots.Slot.TheVariants as slot
use Rattle.fm_world.specs.Descriptors.{of_class}
use Rattle.fm_world.specs.Programs.{Outline}

-- ---- slots whose numbers are within their bytes

-- of a base
abbrev pub IsBoundedBase : Base → Type 0
IsBoundedBase (base.OfClass class) = class.0 < 2 ^ 32
IsBoundedBase b = Unit {0}

-- of a slot
abbrev pub IsBounded : Slot → Type 0
IsBounded (slot.Ref t) = (t.dims < 256) × IsBoundedBase t.base
IsBounded (slot.Uninit item) = item < 2 ^ 32
IsBounded s = Unit {0}

-- of all slots of a state
pub record IsBoundedState (s : TypeState) : Type 0 where
  pub locals : All IsBounded s.locals
  pub stack : All IsBounded s.stack

-- ---- all of them, as a list

-- the bases of types, with classes of a given number of numbers
unfoldable pub bases_below : ℕ → List Base
bases_below classes =
    (base.Boolean ∷ base.Byte ∷ base.Char ∷ base.Short ∷ base.Int ∷ base.Long ∷ []) ++ map of_class (range_with_len 0 classes)

-- the types of these bases with a given number of dimensions
abbrev pub types_with : List Base → ℕ → List Slot
types_with bases dims = map (λ b. slot.Ref (record { dims = dims; base = b })) bases

-- the slots of less dimensions, with classes and items of a given number of numbers
unfoldable pub slots_below : ℕ → ℕ → List Slot
slots_below dims numbers =
    (slot.Top ∷ slot.Int ∷ slot.Long ∷ slot.Null ∷ slot.UninitThis ∷ [])
    ++ (map (λ item. slot.Uninit item) (range_with_len 0 numbers)
    ++ flat_map (types_with (bases_below numbers)) (range_with_len 0 dims))

-- ---- ranks

-- how many slots a slot fits
unfoldable pub rank : Outline → Slot → ℕ
rank o s = count_by (λ other. fits o s other) (slots_below 256 (2 ^ 32))

-- no rank is greater
unfoldable pub top_rank : ℕ
top_rank = length (slots_below 256 (2 ^ 32))

-- the ranks of slots, added up
abbrev pub slots_rank : Outline → List Slot → ℕ
slots_rank o slots = sum_by (rank o) slots

-- the ranks of all slots of a state, and one where it is built
abbrev pub state_rank : Outline → TypeState → ℕ
state_rank o s = slots_rank o s.locals + slots_rank o s.stack + (if s.built then 1 else 0)

-- an item without a state has a greater rank than one with a state
abbrev pub rank_at : Outline → Code → Option TypeState → ℕ
rank_at o code None = code.max_locals * top_rank + code.max_stack * top_rank + 2
rank_at o code (Some s) = state_rank o s
