-- What is required of the places that an effect reads, so that the same is read on both memories.
use Rattle.std.specs.Prelude.{◌≡◌, ℕ, ◌<◌, List, [], ◌∷◌, Some}
use Rattle.std.specs.List.{AllByRecursion}
use Rattle.fm_base.specs.declared.kinds.Kind.{Kind}
use Rattle.fm_base.specs.declared.kinds.Kind.TheVariants as kind
use Rattle.fm_base.specs.declared.kinds.TypeRef.{TypeRef}
use Rattle.fm_cells.specs.Objects.{Object}
use Rattle.fm_cells.specs.Stores.{object_at, Store}
use Rattle.fm_world.specs.Programs.{Outline}
use Rattle.fm_frames.specs.Acts.{cell_of, value_of}
use Rattle.fm_frames.specs.Effects.{Action, Effect, Faults, Free, FreeChain, MakeLiteral, Next, OfPlace, Put, SetChain, SetStatic, Source, Throws}
use Rattle.fm_frames.specs.Literals.{literal_count}
use Rattle.fm_frames.specs.States.{Areas, Frame, word_at}
use Rattle.fm_frames.specs.declared.values.Value.{Value}
use Rattle.fm_frames.specs.declared.values.Value.TheVariants as value
use Rattle.fm_same.specs.Evenness.{IsObjectSource}
use Rattle.fm_law_sound.specs.Leading.{sources_of}
use Rattle.fm_law_sound.specs.Placing.{kind_in, ReadAgrees, sources_in, thrown_in}
use Rattle.fm_law_sound.specs.Sound.{HaveKinds, IsReference, static_slots}

-- a number is read where no reference is
abbrev pub NumberAgrees : Outline → Store → List Value → Source → Type 0
NumberAgrees o store stack (OfPlace n place (kind.Ref t)) = Unit {0}
NumberAgrees o store stack (OfPlace n place k) =
    (object : Object) → object_at store (cell_of (word_at stack n)) ≡ Some object → (t : TypeRef) → kind_in o object place ≡ Some (kind.Ref t) → ⊥
NumberAgrees o store stack s = Unit {0}

-- what is thrown, or is met in a way in which it can't be
abbrev pub sources_of_next : Next → List Source
sources_of_next (Throws s) = s ∷ []
sources_of_next (Faults s) = s ∷ []
sources_of_next next = []

-- an int or a long
abbrev pub IsNumeric : Value → Type 0
IsNumeric value.Top = ⊥
IsNumeric (value.Int n) = Unit {0}
IsNumeric (value.Long n) = Unit {0}
IsNumeric (value.Ref cell) = ⊥

-- a reference where the kind is one, and else a number
abbrev pub IsOfKind : Kind → Value → Type 0
IsOfKind (kind.Ref t) v = IsReference v
IsOfKind k v = IsNumeric v

-- the source has such a value, as long as static fields have their kinds
abbrev pub StaticFits : Outline → Frame → Kind → Source → Type 0
StaticFits o f k s =
    (areas : Areas) (made : List ℕ) → HaveKinds (static_slots o) areas.statics → IsOfKind k (value_of (sources_of f areas made) s)

-- A reference is put into a static field of references, and a number into another one; a literal is one of the program's; nothing is freed or chained.
abbrev pub ActsAlike : Outline → Store → Frame → Action → Type 0
ActsAlike o store f (Put object place k v) = NumberAgrees o store f.stack v
ActsAlike o store f (SetStatic slot k v) = NumberAgrees o store f.stack v × StaticFits o f k v
ActsAlike o store f (MakeLiteral literal) = literal < literal_count o
ActsAlike o store f (Free operand) = ⊥
ActsAlike o store f (SetChain operand to) = ⊥
ActsAlike o store f (FreeChain operand) = ⊥
ActsAlike o store f action = Unit {0}

-- What an effect owes so that it does the same on both memories: the numbers that it throws, writes and gives, what it does, and what it throws or faults at.
pub record EffectAlike (o : Outline) (store : Store) (f : Frame) (e : Effect) : Type 0 where
  pub numbers : AllByRecursion (NumberAgrees o store f.stack) (sources_in e)
  pub acts : AllByRecursion (ActsAlike o store f) e.actions
  pub thrown : AllByRecursion (ReadAgrees o store f.stack) (sources_of_next e.next)
  pub thrown_numbers : AllByRecursion (NumberAgrees o store f.stack) (sources_of_next e.next)
  -- what is thrown is a word of the stack, or was made
  pub thrown_found : AllByRecursion IsObjectSource (thrown_in e.next)
