-- How objects that are held are packed: as those of their types are, which are types of the program.
use Rattle.std.specs.Prelude.{◌≡◌, ℕ, ◌<◌, length, Some}
use Rattle.fm_cells.specs.Objects.{Object}
use Rattle.fm_cells.specs.Stores.{object_at}
use Rattle.fm_code.specs.declared.operations.Elem.{Elem}
use Rattle.fm_code.specs.declared.operations.Elem.TheVariants as elem
use Rattle.fm_frames.specs.Elements.{pack_of}
use Rattle.fm_frames.specs.Sights.{type_numbered}
use Rattle.fm_frames.specs.States.{State}
use Rattle.fm_world.specs.Programs.{Program}

-- the number is that of a type of the program, and a word holds `pack` elements of objects of the
-- type
abbrev pub IsPacked : Program → (class pack : ℕ) → Type 0
IsPacked p class pack = (class < length p.outline.types) × (pack ≡ pack_of p.outline (type_numbered p.outline class))

-- so is each object that is held
abbrev pub ArePacked : Program → State → Type 0
ArePacked p x = (cell : ℕ) (object : Object) → object_at x.areas.store cell ≡ Some object → IsPacked p object.class object.pack

-- how many elements of an array a word holds, by the letter of the instructions that load and store them
abbrev pub elem_pack : Elem → ℕ
elem_pack elem.Boolean = 8
elem_pack elem.Byte = 8
elem_pack elem.Char = 4
elem_pack elem.Short = 4
elem_pack elem.Int = 2
elem_pack elem.Long = 1
elem_pack elem.Ref = 1
