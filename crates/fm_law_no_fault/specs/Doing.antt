-- What is required of the actions of a step, so that what the frames share stays whole: what is put
-- leads to null or to an object of a type that fits the place.
use Rattle.std.specs.Prelude.{◌≡◌, ℕ, ◌⊎◌, Bool, true, false, List, [], ◌∷◌, ◌++◌, Some, slice_get, unwrap_or}
use Rattle.fm_base.specs.declared.kinds.Kind.{Kind}
use Rattle.fm_base.specs.declared.kinds.Kind.TheVariants as kind
use Rattle.fm_base.specs.declared.kinds.TypeRef.{TypeRef}
use Rattle.fm_cells.specs.Objects.{Object}
use Rattle.fm_cells.specs.Stores.{object_at, Store}
use Rattle.fm_types.specs.Fits.{fits_type}
use Rattle.fm_types.specs.declared.slots.Slot.TheVariants as slot
use Rattle.fm_world.specs.Numbers.{type_number}
use Rattle.fm_world.specs.Programs.{kind_at, Outline}
use Rattle.fm_frames.specs.Acts.{cell_of, Did, FullAt, literal_type, LostAt, Performed}
use Rattle.fm_frames.specs.Effects.{Action, Make, MakeFixed, MakeLiteral, Put, SetStatic, Start, Free, SetChain, FreeChain, Copy, Source, Plain, OfOperand, OfMade, OfLiteral}
use Rattle.fm_frames.specs.Elements.{is_string_type}
use Rattle.fm_frames.specs.Sights.{has_hidden_field, type_numbered}
use Rattle.fm_frames.specs.States.{null, word_at}
use Rattle.fm_frames.specs.declared.values.Value.{Value}
use Rattle.fm_law_sound.specs.Sound.{IsReference, static_slots}
use Rattle.fm_law_no_fault.specs.Whole.{AreasAreWhole, LeadsToA}

-- ---- sources, where objects of these types were made before, in a step that begins with this store and this stack

-- the source leads to null or to an object of a type that passes a test
abbrev pub SourceLeadsTo : Outline → Store → List Value → List TypeRef → (TypeRef → Bool) → Source → Type 0
SourceLeadsTo o store stack types test (Plain v) = v ≡ null
SourceLeadsTo o store stack types test (OfOperand n) = IsReference (word_at stack n) × LeadsToA o store test (cell_of (word_at stack n))
SourceLeadsTo o store stack types test (OfMade n) = (t : TypeRef) × (slice_get types n ≡ Some t) × (test t ≡ true)
SourceLeadsTo o store stack types test (OfLiteral literal) = test (literal_type o literal) ≡ true
SourceLeadsTo o store stack types test other = ⊥

-- the source leads to an object of exactly this type
abbrev pub SourceIsOf : Outline → Store → List Value → List TypeRef → TypeRef → Source → Type 0
SourceIsOf o store stack types t (OfOperand n) =
    (object : Object) × (object_at store (cell_of (word_at stack n)) ≡ Some object) × (type_numbered o object.class ≡ t)
SourceIsOf o store stack types t (OfMade n) = slice_get types n ≡ Some t
SourceIsOf o store stack types t other = ⊥

-- ---- actions

-- a value of the kind is kept as a cell
abbrev pub IsReferenceKind : Kind → Type 0
IsReferenceKind (kind.Ref t) = Unit {0}
IsReferenceKind other = ⊥

-- the number of the type leads back to it
abbrev pub HasNumber : Outline → TypeRef → Type 0
HasNumber o t = type_numbered o (unwrap_or (type_number o.types t) 0) ≡ t

-- objects of the type have no place for references
pub record HoldsNoCell (o : Outline) (t : TypeRef) : Type 0 where
  pub no_reference : (place : ℕ) (u : TypeRef) → kind_at o.classes t place ≡ Some (kind.Ref u) → ⊥
  pub no_text : has_hidden_field o t ≡ false

-- where the place of an object of the type is one for references, or a hidden field, such a reference is put
pub record PlaceTakes (o : Outline) (store : Store) (stack : List Value) (types : List TypeRef) (t : TypeRef) (place : ℕ) (k : Kind) (v : Source) : Type 0 where
  pub reference : (u : TypeRef) → kind_at o.classes t place ≡ Some (kind.Ref u)
      → IsReferenceKind k × SourceLeadsTo o store stack types (λ w. fits_type o.classes w u) v
  pub text : place ≡ 0 → has_hidden_field o t ≡ true → IsReferenceKind k × SourceLeadsTo o store stack types (is_string_type o) v

-- the same of a static field
abbrev pub StaticTakes : Outline → Store → List Value → List TypeRef → ℕ → Kind → Source → Type 0
StaticTakes o store stack types field k v =
    (t : TypeRef) → slice_get (static_slots o) field ≡ Some (slot.Ref t)
    → IsReferenceKind k × SourceLeadsTo o store stack types (λ w. fits_type o.classes w t) v

-- one after the other; nothing is freed or chained
abbrev pub ActsLead : Outline → Store → List Value → List TypeRef → List Action → Type 0
ActsLead o store stack types [] = Unit {0}
ActsLead o store stack types (Make t len content ∷ more) =
    HasNumber o t × ((content ≡ []) ⊎ HoldsNoCell o t) × ActsLead o store stack (types ++ t ∷ []) more
ActsLead o store stack types (MakeFixed t ∷ more) = HasNumber o t × HoldsNoCell o t × ActsLead o store stack (types ++ t ∷ []) more
ActsLead o store stack types (MakeLiteral literal ∷ more) =
    HasNumber o (literal_type o literal) × HoldsNoCell o (literal_type o literal) × ActsLead o store stack types more
ActsLead o store stack types (Put object place k v ∷ more) =
    ((t : TypeRef) × SourceIsOf o store stack types t object × PlaceTakes o store stack types t place k v) × ActsLead o store stack types more
ActsLead o store stack types (SetStatic field k v ∷ more) = StaticTakes o store stack types field k v × ActsLead o store stack types more
ActsLead o store stack types (Start class ∷ more) = ActsLead o store stack types more
ActsLead o store stack types (Free operand ∷ more) = ⊥
ActsLead o store stack types (SetChain operand to ∷ more) = ⊥
ActsLead o store stack types (FreeChain operand ∷ more) = ⊥
ActsLead o store stack types (Copy t len operand ∷ more) =
    HasNumber o t × SourceIsOf o store stack types t (OfOperand operand) × ActsLead o store stack (types ++ t ∷ []) more

-- what the frames share is whole, where all actions were done and where the store was full
abbrev pub LeavesWhole : Outline → Performed → Type 0
LeavesWhole o (Did x made) = AreasAreWhole o x
LeavesWhole o (FullAt x needed) = AreasAreWhole o x
LeavesWhole o (LostAt v) = Unit {0}
