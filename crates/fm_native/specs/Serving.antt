-- What built-in methods require of all that frames share, so that the numbers in it fit those of
-- the code; all states of the run of a typed program have it.
use Rattle.std.specs.Prelude.{◌≡◌, ℕ, ◌^◌, ◌<◌, ◌≤◌, ◌||◌, Bool, true, length, Some, codes}
use Rattle.std.specs.List.{All, slice_index_or}
use Rattle.fm_base.specs.declared.kinds.TypeRef.{TypeRef}
use Rattle.fm_cells.specs.Objects.{Object}
use Rattle.fm_cells.specs.Stores.{object_at, Store}
use Rattle.fm_frames.specs.Literals.{literal_count}
use Rattle.fm_types.specs.Fits.{fits_type}
use Rattle.fm_types.specs.Named.{built_in_type, throwable_type}
use Rattle.fm_world.specs.Programs.{Outline}
use Rattle.fm_frames.specs.Elements.{pack_of}
use Rattle.fm_frames.specs.NativeRows.{type_name}
use Rattle.fm_frames.specs.Sights.{type_numbered}
use Rattle.fm_frames.specs.States.{Areas}
use Rattle.fm_frames.specs.inner.Places.{CountsFrees}
use Rattle.fm_native.specs.Texts.{HoldsTexts}

-- the first element of the object is a whole word, and is a cell: it is the hidden field
pub record HasCellFirst (object : Object) : Type 0 where
  pub wide : object.pack ≡ 1
  pub cell : slice_index_or object.elements 0 0 < 2 ^ 32

-- whether objects of the type have a text in a hidden field: they build texts, or are throwables
abbrev pub hides_text : Outline → TypeRef → Bool
hides_text o t =
    fits_type o.classes t (built_in_type o (codes "java/lang/StringBuilder"))
    || fits_type o.classes t (built_in_type o (codes "java/lang/StringBuffer"))
    || fits_type o.classes t (throwable_type o)

-- each such object that is held has such a hidden field
pub record HoldsHidden (o : Outline) (store : Store) : Type 0 where
  pub first : (cell : ℕ) (object : Object) → object_at store cell ≡ Some object → hides_text o (type_numbered o object.class) ≡ true → HasCellFirst object

-- the names of the types of all objects that are held are of 16-bit units (JVMS 4.4.7)
pub record HoldsNames (o : Outline) (store : Store) : Type 0 where
  pub units : (cell : ℕ) (object : Object) → object_at store cell ≡ Some object → All (λ unit. unit < 2 ^ 16) (type_name o (type_numbered o object.class))

-- as many elements of each object that is held are in a word as its type has there
pub record HoldsPacks (o : Outline) (store : Store) : Type 0 where
  pub packs : (cell : ℕ) (object : Object) → object_at store cell ≡ Some object → object.pack ≡ pack_of o (type_numbered o object.class)

-- all of this
pub record ServesNatives (o : Outline) (x : Areas) : Type 0 where
  pub texts : HoldsTexts o x.store
  pub hidden : HoldsHidden o x.store
  pub names : HoldsNames o x.store
  pub counts : CountsFrees x
  -- there is a place for each literal
  pub literals : literal_count o ≤ length x.literals
  pub packs : HoldsPacks o x.store
