-- What the rows of the checker don't look at: the numbers of items, but for whether two are the same, and locals behind those that an instruction names.
use Rattle.std.specs.Prelude.{◌≡◌, ℕ, ◌==◌, true, List, ◌++◌, length, map, Option}
use Rattle.std.specs.List.{AllByRecursion}
use Rattle.std.specs.Option.{option_map}
use Rattle.fm_base.specs.declared.kinds.TypeRef.{TypeRef}
use Rattle.fm_code.specs.SpellsCode.{LocalsFit}
use Rattle.fm_code.specs.declared.instructions.Insn.{Insn}
use Rattle.fm_types.specs.Rows.{row_after}
use Rattle.fm_types.specs.States.{all_fit, state_fits, TypeState}
use Rattle.fm_types.specs.declared.slots.Slot.{Slot}
use Rattle.fm_types.specs.declared.slots.Slot.TheVariants as slot
use Rattle.fm_world.specs.Programs.{Outline}
use Rattle.fm_world.specs.declared.uses.Use.{Use}

-- a slot where items have other numbers
abbrev pub slot_with : (ℕ → ℕ) → Slot → Slot
slot_with numbers slot.Top = slot.Top
slot_with numbers slot.Int = slot.Int
slot_with numbers slot.Long = slot.Long
slot_with numbers slot.Null = slot.Null
slot_with numbers (slot.Ref t) = slot.Ref t
slot_with numbers (slot.Uninit item) = slot.Uninit (numbers item)
slot_with numbers slot.UninitThis = slot.UninitThis

-- a state where items have other numbers, with more locals behind its own
abbrev pub state_with : (ℕ → ℕ) → List Slot → TypeState → TypeState
state_with numbers more s = record { locals = map (slot_with numbers) s.locals ++ more; stack = map (slot_with numbers) s.stack; built = s.built }

-- two items have one number exactly where they are the same
abbrev pub AreApart : (ℕ → ℕ) → Type 0
AreApart numbers = (i j : ℕ) → (numbers i == numbers j) ≡ (i == j)

-- no object that isn't initialised
abbrev pub IsReady : Slot → Type 0
IsReady (slot.Uninit item) = ⊥
IsReady slot.UninitThis = ⊥
IsReady s = Unit {0}

-- an instruction whose locals are among the state's own has the same row at the item's other number
abbrev pub RowsAreBlind : Type 0
RowsAreBlind =
    (numbers : ℕ → ℕ) (more : List Slot) → AreApart numbers → AllByRecursion IsReady more
    → (o : Outline) (method item : ℕ) (news others : ℕ → Option TypeRef) → ((i : ℕ) → others (numbers i) ≡ news i)
    → (u : Use) (i : Insn) (s : TypeState) → LocalsFit (length s.locals) i
    → row_after o method (numbers item) others u i (state_with numbers more s) ≡ option_map (state_with numbers more) (row_after o method item news u i s)

-- one state fits another still, if the locals behind it fit those behind the other
abbrev pub StatesFitStill : Type 0
StatesFitStill =
    (numbers : ℕ → ℕ) (more others : List Slot) → AreApart numbers → (o : Outline) (a b : TypeState) → state_fits o a b ≡ true → all_fit o more others ≡ true
    → state_fits o (state_with numbers more a) (state_with numbers others b) ≡ true
