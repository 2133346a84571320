-- What rows require of the numbers in objects and of the values that are put there: that they are
-- of the kinds of their places; and of the lengths of arrays. Each state of a typed program has
-- them.
use Rattle.std.specs.Prelude.{◌≡◌, ℕ, ◌+◌, ◌-◌, ◌<◌, ◌^◌, length, nat_lt, true, Some}
use Rattle.fm_cells.specs.Objects.{Object}
use Rattle.fm_cells.specs.Stores.{object_at}
use Rattle.fm_code.specs.declared.operations.Elem.{Elem}
use Rattle.fm_code.specs.StackWords.{element_words}
use Rattle.fm_frames.specs.ArrayRows.{element_kind}
use Rattle.fm_frames.specs.ObjectRows.{kind_of_field}
use Rattle.fm_frames.specs.Sights.{type_numbered}
use Rattle.fm_frames.specs.States.{ref, State, word_at}
use Rattle.fm_frames.specs.Steps.{stack_of}
use Rattle.fm_frames.specs.inner.Places.{element_at, FitsIn, IsOfKind}
use Rattle.fm_types.specs.ArrayRows.{is_array_of}
use Rattle.fm_types.specs.Fits.{fits_type}
use Rattle.fm_base.specs.Kinds.{kind_words}
use Rattle.fm_world.specs.Members.{slot_of}
use Rattle.fm_world.specs.Programs.{Program}

-- an operand is the reference to this cell, in which this object lies
abbrev pub IsObject : State → (operand cell : ℕ) → Object → Type 0
IsObject x operand cell object = (word_at (stack_of x) operand ≡ ref cell) × (object_at x.areas.store cell ≡ Some object)

-- where the topmost operand is an object whose type fits the named one, its field has a number of the field's kind (JVMS 6.5.getfield)
abbrev pub HoldsField : Program → State → (field named : ℕ) → Type 0
HoldsField p x field named =
    let o = p.outline in
    (cell : ℕ) (object : Object) → IsObject x 0 cell object
    → fits_type o.classes (type_numbered o object.class) (type_numbered o named) ≡ true
    → IsOfKind (kind_of_field o field) (element_at x.areas.store cell (slot_of o.classes field))

-- where the object below the value has a type that fits the named one, the value can be put into its field (JVMS 6.5.putfield)
abbrev pub TakesField : Program → State → (field named : ℕ) → Type 0
TakesField p x field named =
    let o = p.outline in
    let n = kind_words (kind_of_field o field) in
    (cell : ℕ) (object : Object) → IsObject x n cell object
    → fits_type o.classes (type_numbered o object.class) (type_numbered o named) ≡ true
    → FitsIn x.areas.store cell (kind_of_field o field) (word_at (stack_of x) (n - 1))

-- where the topmost operand is an array, its length is an int (JVMS 6.5.arraylength)
abbrev pub HoldsLength : Program → State → Type 0
HoldsLength p x =
    (cell : ℕ) (object : Object) → IsObject x 0 cell object → nat_lt 0 (type_numbered p.outline object.class).dims ≡ true
    → length object.elements < 2 ^ 31

-- where the operand below the index is an array of such elements, each of them is a number of the array's kind (JVMS 6.5.aaload and its like)
abbrev pub HoldsElements : Program → State → Elem → Type 0
HoldsElements p x e =
    (cell place : ℕ) (object : Object) → IsObject x 1 cell object
    → is_array_of e (type_numbered p.outline object.class) ≡ true
    → IsOfKind (element_kind (type_numbered p.outline object.class)) (element_at x.areas.store cell place)

-- where the operand below value and index is an array of such elements, the value can be put there (JVMS 6.5.aastore and its like)
abbrev pub TakesElement : Program → State → Elem → Type 0
TakesElement p x e =
    let n = element_words e in
    (cell : ℕ) (object : Object) → IsObject x (n + 1) cell object
    → is_array_of e (type_numbered p.outline object.class) ≡ true
    → FitsIn x.areas.store cell (element_kind (type_numbered p.outline object.class)) (word_at (stack_of x) (n - 1))
