-- Places are read and put by their kinds: what an instruction sees of an object passes its test, so the object's place has the kind that the row goes by.
use Rattle.std.proofs.Common.{◌≡◌, inl, inr, ℕ, List, ◌++◌, map, Some, sym, ◌∙◌, ap, slice_get}
use Rattle.std.specs.List.{AllByRecursion}
use Rattle.std.proofs.lemmas.Option.{same_Some}
use Rattle.fm_base.specs.declared.kinds.Kind.{Kind}
use Rattle.fm_base.specs.declared.kinds.Kind.TheVariants as kind
use Rattle.fm_cells.specs.Objects.{Object}
use Rattle.fm_cells.specs.Stores.{object_at, Store}
use Rattle.fm_world.specs.Programs.{kind_at, Outline}
use Rattle.fm_frames.specs.Acts.{cell_of}
use Rattle.fm_frames.specs.Effects.{Effect, faulty, loaded, OfMade, OfOperand, OfPlace, Put, SetStatic, Source, stuck}
use Rattle.fm_frames.specs.NativeRows.{text_kind}
use Rattle.fm_frames.specs.Operands.{thrown}
use Rattle.fm_frames.specs.Sights.{Looks, sights, Thing}
use Rattle.fm_frames.specs.States.{word_at}
use Rattle.fm_frames.specs.declared.values.Value.{Value}
use Rattle.fm_frames.proofs.NativeCases.{HidesText}
use Rattle.fm_law_sound.specs.Making.{HaveTextFirst}
use Rattle.fm_law_sound.specs.Placing.{kind_in, PlacesAgree, PutAgrees, ReadAgrees, sources_in, thrown_in}
use Rattle.fm_law_sound.proofs.SeenObjects.{seen_at}
use Rattle.fm_law_sound.proofs.StartActs.{all_after}

-- ---- the object that is seen

-- an object that builds a text, and one that may be thrown, has it at its first place
pub hidden_place : (o : Outline) → HaveTextFirst o → (it : Looks) → HidesText o it → kind_at o.classes it.type 0 ≡ Some (text_kind o)
hidden_place o first it (inl builds) = first.builders it.type builds
hidden_place o first it (inr fits) = first.throwables it.type fits

module _ (o : Outline) (store : Store) (stack : List Value) where
  -- the operand is an object that is held, and has a place of the kind
  abbrev pub HasPlace : (operand place : ℕ) → Kind → Type 0
  HasPlace n place k = (object : Object) × (object_at store (cell_of (word_at stack n)) ≡ Some object) × (kind_in o object place ≡ Some k)

  pub seen_place : (n place : ℕ) (k : Kind) (it : Looks) → slice_get (sights o store stack) n ≡ Some (Thing it) → kind_at o.classes it.type place ≡ Some k
      → HasPlace n place k
  seen_place n place k it seen is =
      let found = seen_at o store stack n it seen in
      (found.object, found.held, ap (λ t. kind_at o.classes t place) (sym found.type_is) ∙ is)

  -- what is loaded of it is read by that kind
  pub loaded_agrees : (n place : ℕ) (k : Kind) → HasPlace n place k → AllByRecursion (ReadAgrees o store stack) (loaded k (OfPlace n place k))
  loaded_agrees n place (kind.Ref t) h = ((h.0, h.1, t, h.2), tt)
  loaded_agrees n place kind.Long h = (tt, (tt, tt))
  loaded_agrees n place kind.Boolean h = (tt, tt)
  loaded_agrees n place kind.Byte h = (tt, tt)
  loaded_agrees n place kind.Char h = (tt, tt)
  loaded_agrees n place kind.Short h = (tt, tt)
  loaded_agrees n place kind.Int h = (tt, tt)

  -- the place of each object at the operand is no other one
  no_reference : (n place : ℕ) (k : Kind) → HasPlace n place k → (object : Object) → object_at store (cell_of (word_at stack n)) ≡ Some object
      → kind_in o object place ≡ Some k
  no_reference n place k h object held =
      let same : h.0 ≡ object = same_Some h.0 object (sym h.1 ∙ held) in ap (λ (y : Object). kind_in o y place) (sym same) ∙ h.2

  -- and what is put into it is put by that kind
  pub put_agrees : (n place : ℕ) (k : Kind) (v : Source) → ReadAgrees o store stack v → HasPlace n place k → PutAgrees o store stack (Put (OfOperand n) place k v)
  put_agrees n place (kind.Ref t) v reads h = reads
  put_agrees n place kind.Long v reads h = λ object held t is.
      let both : Some kind.Long ≡ Some (kind.Ref t) = sym (no_reference n place kind.Long h object held) ∙ is in absurd (cc)
  put_agrees n place kind.Boolean v reads h = λ object held t is.
      let both : Some kind.Boolean ≡ Some (kind.Ref t) = sym (no_reference n place kind.Boolean h object held) ∙ is in absurd (cc)
  put_agrees n place kind.Byte v reads h = λ object held t is.
      let both : Some kind.Byte ≡ Some (kind.Ref t) = sym (no_reference n place kind.Byte h object held) ∙ is in absurd (cc)
  put_agrees n place kind.Char v reads h = λ object held t is.
      let both : Some kind.Char ≡ Some (kind.Ref t) = sym (no_reference n place kind.Char h object held) ∙ is in absurd (cc)
  put_agrees n place kind.Short v reads h = λ object held t is.
      let both : Some kind.Short ≡ Some (kind.Ref t) = sym (no_reference n place kind.Short h object held) ∙ is in absurd (cc)
  put_agrees n place kind.Int v reads h = λ object held t is.
      let both : Some kind.Int ≡ Some (kind.Ref t) = sym (no_reference n place kind.Int h object held) ∙ is in absurd (cc)

  -- what is put into an object that the step made, or into a static field
  pub made_agrees : (n place : ℕ) (k : Kind) (v : Source) → ReadAgrees o store stack v → PutAgrees o store stack (Put (OfMade n) place k v)
  made_agrees n place (kind.Ref t) v reads = reads
  made_agrees n place kind.Long v reads = tt
  made_agrees n place kind.Boolean v reads = tt
  made_agrees n place kind.Byte v reads = tt
  made_agrees n place kind.Char v reads = tt
  made_agrees n place kind.Short v reads = tt
  made_agrees n place kind.Int v reads = tt

  pub set_agrees : (slot : ℕ) (k : Kind) (v : Source) → ReadAgrees o store stack v → PutAgrees o store stack (SetStatic slot k v)
  set_agrees slot (kind.Ref t) v reads = reads
  set_agrees slot kind.Long v reads = tt
  set_agrees slot kind.Boolean v reads = tt
  set_agrees slot kind.Byte v reads = tt
  set_agrees slot kind.Char v reads = tt
  set_agrees slot kind.Short v reads = tt
  set_agrees slot kind.Int v reads = tt

-- what is put on the stack is among all sources
pub gives_agree : (o : Outline) (store : Store) (stack : List Value) (e : Effect) → PlacesAgree o store stack e
    → AllByRecursion (ReadAgrees o store stack) e.gives
gives_agree o store stack e h =
    all_after (ReadAgrees o store stack) (thrown_in e.next ++ map (λ (w : ℕ × Source). w.1) e.writes) e.gives h.reads

-- ---- effects that read and put no place

module _ (o : Outline) (store : Store) (stack : List Value) where
  abbrev pub Agrees : Effect → Type 0
  Agrees e = PlacesAgree o store stack e

  pub bare : (e : Effect) → AllByRecursion (PutAgrees o store stack) e.actions → AllByRecursion (ReadAgrees o store stack) (sources_in e) → Agrees e
  bare e puts reads = record { puts = puts; reads = reads }

  pub throws : (name : List ℕ) → Agrees (thrown o name)
  throws name = record { puts = (tt, tt); reads = (tt, tt) }

  pub stucks : Agrees stuck
  stucks = record { puts = tt; reads = tt }

  pub gone : (n : ℕ) → Agrees (faulty n)
  gone n = record { puts = tt; reads = tt }
