-- What holds of the order of types, of joins and of the rows over the classes of a linked program.
use Rattle.std.specs.Prelude.{◌≡◌, ℕ, true, Option, Some, IsSomeAnd}
use Rattle.fm_base.specs.declared.kinds.TypeRef.{TypeRef}
use Rattle.fm_code.specs.declared.instructions.Insn.{Insn}
use Rattle.fm_types.specs.Fits.{AreTree, fits}
use Rattle.fm_types.specs.Joins.{IsJoin, join}
use Rattle.fm_types.specs.Rows.{row_after}
use Rattle.fm_types.specs.States.{is_whole, state_fits, TypeState}
use Rattle.fm_types.specs.declared.slots.Slot.{Slot}
use Rattle.fm_world.specs.Programs.{Outline}
use Rattle.fm_world.specs.declared.uses.Use.{Use}

-- each type fits itself
abbrev pub FitsIsReflexive : Type 0
FitsIsReflexive = (o : Outline) → AreTree o.classes → (a : Slot) → fits o a a ≡ true

-- what fits a type fits whatever this one fits
abbrev pub FitsIsTransitive : Type 0
FitsIsTransitive = (o : Outline) → AreTree o.classes → (a b c : Slot) → fits o a b ≡ true → fits o b c ≡ true → fits o a c ≡ true

-- there is a least type that two types fit, and `join` is it
abbrev pub JoinIsLeast : Type 0
JoinIsLeast = (o : Outline) → AreTree o.classes → (a b : Slot) → IsJoin o a b (join o a b)

-- Each row keeps the order: where a state fits another one that meets the row, it meets the row too, and what the row gives for it fits what the row
-- gives for the other. On both stacks each long is whole, as in each state of a typing.
abbrev pub RowsKeepOrder : Type 0
RowsKeepOrder =
    (o : Outline) → AreTree o.classes → (method item : ℕ) (news : ℕ → Option TypeRef) (u : Use) (i : Insn) (s other after : TypeState)
    → is_whole s.stack ≡ true → is_whole other.stack ≡ true → state_fits o s other ≡ true
    → row_after o method item news u i other ≡ Some after
    → IsSomeAnd (row_after o method item news u i s) (λ given. state_fits o given after ≡ true)

-- no row splits a long
abbrev pub RowsKeepLongs : Type 0
RowsKeepLongs =
    (o : Outline) → AreTree o.classes → (method item : ℕ) (news : ℕ → Option TypeRef) (u : Use) (i : Insn) (s after : TypeState)
    → is_whole s.stack ≡ true → row_after o method item news u i s ≡ Some after → is_whole after.stack ≡ true
