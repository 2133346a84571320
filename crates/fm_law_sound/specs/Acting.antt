-- What is required of the actions of a step, so that what the frames share stays sound: objects are
-- made of types that have a number, values go to places of their kinds.
use Rattle.std.specs.Prelude.{◌≡◌, ℕ, ◌^◌, ◌<◌, false, List, [], ◌∷◌, ◌++◌, length, Some, None, slice_get}
use Rattle.std.specs.List.{AllByRecursion}
use Rattle.fm_base.specs.declared.kinds.Kind.{Kind}
use Rattle.fm_base.specs.declared.kinds.TypeRef.{TypeRef}
use Rattle.fm_cells.specs.Objects.{Object}
use Rattle.fm_cells.specs.Stores.{object_at, Store}
use Rattle.fm_world.specs.Numbers.{type_number}
use Rattle.fm_world.specs.Programs.{kind_at, Outline}
use Rattle.fm_frames.specs.Acts.{cell_of, literal_text, literal_type, value_of}
use Rattle.fm_frames.specs.Effects.{Action, Make, MakeFixed, MakeLiteral, Put, SetStatic, Start, Free, SetChain, FreeChain, Copy, Source, OfOperand, OfMade}
use Rattle.fm_frames.specs.Elements.{is_text_type}
use Rattle.fm_frames.specs.Sights.{type_numbered}
use Rattle.fm_frames.specs.States.{Areas, Frame, word_at}
use Rattle.fm_law_sound.specs.Leading.{sources_of}
use Rattle.fm_law_sound.specs.Sound.{field_slot, HasKind, HasLength, HasObjects, HaveKinds, static_slots}

-- the content that is named is that of a text, which has no other places; with none named all elements are 0
abbrev pub ContentFits : Outline → TypeRef → ℕ → List ℕ → Type 0
ContentFits o t len [] = Unit {0}
ContentFits o t len (unit ∷ units) =
    (length (unit ∷ units) ≡ len) × AllByRecursion (λ u. u < 2 ^ 16) (unit ∷ units) × ((place : ℕ) → kind_at o.classes t place ≡ None)

-- an object is made of a type that has a number, of which objects are made, with a length that they have
pub record MakeFits (o : Outline) (t : TypeRef) (len : ℕ) (content : List ℕ) : Type 0 where
  pub number : ℕ
  pub number_is : type_number o.types t ≡ Some number
  pub there : slice_get o.types number ≡ Some t
  pub made : HasObjects o t
  pub length_fits : HasLength o t len
  pub content_fits : ContentFits o t len content

-- objects of the type have the kind at the place, and aren't texts
pub record PlaceFits (o : Outline) (t : TypeRef) (place : ℕ) (k : Kind) : Type 0 where
  pub kind : kind_at o.classes t place ≡ Some k
  pub no_text : is_text_type o t ≡ false

-- an object is made that takes the elements of an operand's object, which is of its type and is held when the step begins
pub record CopyFits (o : Outline) (store : Store) (f : Frame) (t : TypeRef) (len operand : ℕ) : Type 0 where
  pub makes : MakeFits o t len []
  pub object : Object
  pub held : object_at store (cell_of (word_at f.stack operand)) ≡ Some object
  pub type : type_numbered o object.class ≡ t

-- the object of an operand is held when the step begins, that of a make is of the type that was made
abbrev pub ObjectFits : Outline → Store → Frame → List TypeRef → Source → ℕ → Kind → Type 0
ObjectFits o store f types (OfOperand n) place k =
    (object : Object) × (object_at store (cell_of (word_at f.stack n)) ≡ Some object) × PlaceFits o (type_numbered o object.class) place k
ObjectFits o store f types (OfMade n) place k = (t : TypeRef) × (slice_get types n ≡ Some t) × PlaceFits o t place k
ObjectFits o store f types other place k = ⊥

-- the value has the kind, as long as static fields have theirs
abbrev pub ValueFits : Outline → Frame → Kind → Source → Type 0
ValueFits o f k s =
    (areas : Areas) (made : List ℕ) → HaveKinds (static_slots o) areas.statics → HasKind (field_slot k) (value_of (sources_of f areas made) s)

-- one after the other, where objects of these types were made before; what frees or chains is the
-- only action
abbrev pub ActsFit : Outline → Store → Frame → List TypeRef → List Action → Type 0
ActsFit o store f types [] = Unit {0}
ActsFit o store f types (Make t len content ∷ more) = MakeFits o t len content × ActsFit o store f (types ++ t ∷ []) more
ActsFit o store f types (MakeFixed t ∷ more) = MakeFits o t 0 [] × ActsFit o store f (types ++ t ∷ []) more
ActsFit o store f types (MakeLiteral text ∷ more) =
    MakeFits o (literal_type o text) (length (literal_text o text)) (literal_text o text) × ActsFit o store f types more
ActsFit o store f types (Put object place k v ∷ more) =
    ObjectFits o store f types object place k × ValueFits o f k v × ActsFit o store f types more
ActsFit o store f types (SetStatic slot k v ∷ more) = (slice_get (static_slots o) slot ≡ Some (field_slot k)) × ActsFit o store f types more
ActsFit o store f types (Start class ∷ more) = ActsFit o store f types more
ActsFit o store f types (Free operand ∷ more) = more ≡ []
ActsFit o store f types (SetChain operand to ∷ more) = more ≡ []
ActsFit o store f types (FreeChain operand ∷ more) = more ≡ []
ActsFit o store f types (Copy t len operand ∷ more) = CopyFits o store f t len operand × ActsFit o store f (types ++ t ∷ []) more
