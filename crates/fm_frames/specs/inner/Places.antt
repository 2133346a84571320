-- What the code reads and puts at the places of objects.
use Rattle.std.specs.Prelude.{◌≡◌, ℕ, ◌+◌, ◌*◌, ◌^◌, ◌<◌, ◌≤◌, List, ◌++◌, length, take, drop, Option, Some, None}
use Rattle.std.specs.FinMap as map
use Rattle.std.specs.List.{slice_index_or}
use Rattle.fm_base.specs.declared.kinds.Kind.{Kind}
use Rattle.fm_cells.specs.Changes.{with_object}
use Rattle.fm_cells.specs.Objects.{Object}
use Rattle.fm_cells.specs.Sizes.{element_bits}
use Rattle.fm_cells.specs.Stores.{elements_at, object_at, pack_at, Store}
use Rattle.fm_frames.specs.Elements.{int_bits, kept}
use Rattle.fm_frames.specs.States.{Areas}
use Rattle.fm_frames.specs.declared.values.Value.{Value}

-- the element at a place of the object in a cell; 0 where there is none
abbrev pub element_at : Store → (cell place : ℕ) → ℕ
element_at store cell place = slice_index_or (elements_at store cell) place 0

-- a number that an element of the kind may be
abbrev pub IsOfKind : Kind → ℕ → Type 0
IsOfKind kind element = element < 2 ^ int_bits kind

-- an element of the object in the cell has the bits that keep the value as one of the kind
abbrev pub FitsIn : Store → (cell : ℕ) → Kind → Value → Type 0
FitsIn store cell kind v = kept kind v < 2 ^ element_bits (pack_at store cell)

-- the object of the cell has as many elements as there are units, each of which an element of a text can be
abbrev pub TakesUnits : Store → (cell : ℕ) → List ℕ → Type 0
TakesUnits store cell units = (object : Object) × (object_at store cell ≡ Some object) × (length object.elements ≡ length units) × (object.pack ≡ 4)

-- the object of the cell has as many elements as these are
abbrev pub TakesElements : Store → (cell : ℕ) → List ℕ → Type 0
TakesElements store cell elements = (object : Object) × (object_at store cell ≡ Some object) × (length object.elements ≡ length elements)

-- the object of the second cell has as many elements as that of the first one, and as many in a word
abbrev pub TakesCopy : Store → (from to : ℕ) → Type 0
TakesCopy store from to =
    (object : Object) × (object_at store from ≡ Some object) × (copy : Object) × (object_at store to ≡ Some copy)
    × (length copy.elements ≡ length object.elements) × (copy.pack ≡ object.pack)

-- in the cell lies an object whose elements are whole words
abbrev pub IsWide : Store → (cell : ℕ) → Type 0
IsWide store cell = (object : Object) × (object_at store cell ≡ Some object) × (object.pack ≡ 1)

-- the store where `count` units have been written into the object of the cell
abbrev pub written_units : Store → (cell : ℕ) → List ℕ → (count : ℕ) → Store
written_units store cell units count = of_object (object_at store cell) where
  of_object : Option Object → Store
  of_object None = store
  of_object (Some object) = with_object store cell (record object { elements = take count units ++ drop count object.elements })

-- what was made is held or was freed, and what was freed had no more words than this many objects
-- may have
pub record CountsFrees (x : Areas) : Type 0 where
  pub freed : x.frees + length (map.entries x.store.held) ≡ x.store.births
  pub freed_words : x.freed_words ≤ 2 ^ 32 * x.frees
