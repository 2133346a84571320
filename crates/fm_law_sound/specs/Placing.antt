-- What an effect has to do at the places of objects: a number is put where no reference is, a
-- reference is read where one is, and no reference comes from nowhere.
use Rattle.std.specs.Prelude.{◌≡◌, ℕ, List, [], ◌∷◌, ◌++◌, map, Option, Some}
use Rattle.std.specs.List.{AllByRecursion}
use Rattle.fm_base.specs.declared.kinds.Kind.{Kind}
use Rattle.fm_base.specs.declared.kinds.Kind.TheVariants as kind
use Rattle.fm_base.specs.declared.kinds.TypeRef.{TypeRef}
use Rattle.fm_cells.specs.Objects.{Object}
use Rattle.fm_cells.specs.Stores.{Store, object_at}
use Rattle.fm_world.specs.Programs.{kind_at, Outline}
use Rattle.fm_frames.specs.Acts.{cell_of}
use Rattle.fm_frames.specs.Effects.{Action, Copy, Put, SetStatic, Effect, Next, Throws, Source, Plain, OfOperand, OfPlace}
use Rattle.fm_frames.specs.Sights.{type_numbered}
use Rattle.fm_frames.specs.States.{word_at}
use Rattle.fm_frames.specs.declared.values.Value.{Value}
use Rattle.fm_frames.specs.declared.values.Value.TheVariants as value

-- the kind of a place of an object
abbrev pub kind_in : Outline → Object → ℕ → Option Kind
kind_in o object place = kind_at o.classes (type_numbered o object.class) place

-- a number or null
abbrev pub IsPlain : Value → Type 0
IsPlain value.Top = Unit {0}
IsPlain (value.Int n) = Unit {0}
IsPlain (value.Long n) = Unit {0}
IsPlain (value.Ref cell) = cell.0 ≡ 0

-- a reference is read of an object that is held, where one is; and a value that is named outright
-- is a number or null
abbrev pub ReadAgrees : Outline → Store → List Value → Source → Type 0
ReadAgrees o store stack (Plain v) = IsPlain v
ReadAgrees o store stack (OfPlace n place (kind.Ref t)) =
    (object : Object) × (object_at store (cell_of (word_at stack n)) ≡ Some object) × (u : TypeRef) × (kind_in o object place ≡ Some (kind.Ref u))
ReadAgrees o store stack s = Unit {0}

-- a number is put where no reference is, and a reference that is put into an object or a static
-- field is read as it should; what is copied is held, and is of the type
abbrev pub PutAgrees : Outline → Store → List Value → Action → Type 0
PutAgrees o store stack (Put object place (kind.Ref t) v) = ReadAgrees o store stack v
PutAgrees o store stack (Put (OfOperand n) place other v) =
    (object : Object) → object_at store (cell_of (word_at stack n)) ≡ Some object → (t : TypeRef) → kind_in o object place ≡ Some (kind.Ref t) → ⊥
PutAgrees o store stack (SetStatic slot (kind.Ref t) v) = ReadAgrees o store stack v
PutAgrees o store stack (Copy t len n) =
    (object : Object) × (object_at store (cell_of (word_at stack n)) ≡ Some object) × (t ≡ type_numbered o object.class)
PutAgrees o store stack action = Unit {0}

-- what is thrown
abbrev pub thrown_in : Next → List Source
thrown_in (Throws s) = s ∷ []
thrown_in next = []

-- where all values come from that an effect throws, writes into locals, and gives
abbrev pub sources_in : Effect → List Source
sources_in e = thrown_in e.next ++ map (λ (w : ℕ × Source). w.1) e.writes ++ e.gives

-- all that an effect puts, and all that it throws, writes and gives
pub record PlacesAgree (o : Outline) (store : Store) (stack : List Value) (e : Effect) : Type 0 where
  pub puts : AllByRecursion (PutAgrees o store stack) e.actions
  pub reads : AllByRecursion (ReadAgrees o store stack) (sources_in e)
