-- What an instruction sees of a value: of a reference what is in its cell, never which cell it is.
use Rattle.std.specs.Prelude.{ℕ, zero, Bool, false, List, [], Option, Some, None, length, map, if◌then◌else◌}
use Rattle.std.specs.List.{list_any, slice_index_or}
use Rattle.fm_base.specs.declared.kinds.TypeRef.{TypeRef}
use Rattle.fm_cells.specs.Objects.{Object}
use Rattle.fm_cells.specs.Stores.{Store, object_at}
use Rattle.fm_world.specs.Chains.{chain_of, class_at}
use Rattle.fm_world.specs.Numbers.{type_of_class}
use Rattle.fm_world.specs.Programs.{class_of_type, Outline}
use Rattle.fm_frames.specs.Elements.{is_text_type, shows_units}
use Rattle.fm_frames.specs.declared.values.Value.{Value}
use Rattle.fm_frames.specs.declared.values.Value.TheVariants as value

-- what the hidden field of an object leads to: there is no such field; null; a text by its units; or a cell that isn't held, or holds no text
pub data Inner : Type 0 where
  NoField : Inner
  Missing : Inner
  Text : List ℕ → Inner
  Lost : Inner

-- an object: its type, how many were made before it, how many elements it has, whether it lives for ever, of a text or an array of chars its units, and what its hidden
-- field leads to
pub record Looks : Type 0 where
  pub type : TypeRef
  pub birth : ℕ
  pub len : ℕ
  pub fixed : Bool
  pub units : List ℕ
  pub inner : Inner

-- a number or the second half of a long; null; an object; or a cell that isn't held
pub data Sight : Type 0 where
  Word : Value → Sight
  Null : Sight
  Thing : Looks → Sight
  Gone : Sight

-- ---- objects

-- the type of an object by its number
abbrev pub type_numbered : Outline → ℕ → TypeRef
type_numbered o number = slice_index_or o.types number (type_of_class 0)

-- the units of an object that is a text or an array of chars
abbrev pub units_of : Outline → Object → List ℕ
units_of o object = if shows_units o (type_numbered o object.class) then object.elements else []

-- whether objects of the type have a hidden field, as texts that are built and throwables do: it is their first
abbrev pub has_hidden_field : Outline → TypeRef → Bool
has_hidden_field o t = of_class (class_of_type t) where
  of_class : Option ℕ → Bool
  of_class None = false
  of_class (Some class) = list_any (λ above. (class_at o.classes above).hidden) (chain_of o.classes class)

-- the text that an object is
abbrev pub text_in : Outline → Option Object → Inner
text_in o None = Lost
text_in o (Some object) = if is_text_type o (type_numbered o object.class) then Text object.elements else Lost

-- what a hidden field that holds this cell leads to
abbrev pub led_to : Outline → Store → ℕ → Inner
led_to o store zero = Missing
led_to o store cell = text_in o (object_at store cell)

-- what an object's hidden field leads to
abbrev pub inner_of : Outline → Store → Object → Inner
inner_of o store object =
    if has_hidden_field o (type_numbered o object.class) then led_to o store (slice_index_or object.elements 0 0) else NoField

-- what is seen of an object
unfoldable pub looks : Outline → Store → Object → Looks
looks o store object = record {
  type = type_numbered o object.class;
  birth = object.birth;
  len = length object.elements;
  fixed = object.fixed;
  units = units_of o object;
  inner = inner_of o store object;
}

-- ---- values

-- an object as it is seen, or that there is none
abbrev pub sight_of_object : Outline → Store → Option Object → Sight
sight_of_object o store None = Gone
sight_of_object o store (Some object) = Thing (looks o store object)

-- the object in a cell as it is seen; cell 0 is null
abbrev pub sight_of_cell : Outline → Store → ℕ → Sight
sight_of_cell o store zero = Null
sight_of_cell o store cell = sight_of_object o store (object_at store cell)

-- a word as it is seen: numbers as they are, and of a reference its object
abbrev pub sight : Outline → Store → Value → Sight
sight o store (value.Ref cell) = sight_of_cell o store cell.0
sight o store value.Top = Word value.Top
sight o store (value.Int n) = Word (value.Int n)
sight o store (value.Long n) = Word (value.Long n)

-- those of the words of a stack
abbrev pub sights : Outline → Store → List Value → List Sight
sights o store stack = map (sight o store) stack
