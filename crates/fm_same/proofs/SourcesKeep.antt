-- Where the values of an effect come from: what they lead to has the region of the class that they come from.
use Rattle.std.proofs.Common.{◌≡◌, ◌≢◌, ℕ, ℤ, zero, suc, ◌<◌, ◌⊎◌, true, List, [], ◌∷◌, length, Some, refl, sym, ◌∙◌, ap, subst, inl, inr, slice_get, slice_index_or, ⊎_elim}
use Rattle.std.specs.List.{AllByRecursion}
use Rattle.std.proofs.lemmas.Option.{same_Some, slice_get-get_or}
use Rattle.fm_base.specs.declared.kinds.Kind.{Kind}
use Rattle.fm_base.specs.declared.kinds.Kind.TheVariants as kind
use Rattle.fm_base.specs.declared.kinds.TypeRef.{TypeRef}
use Rattle.fm_cells.specs.Objects.{Object}
use Rattle.fm_cells.specs.Stores.{elements_at, Store, object_at}
use Rattle.fm_conn.specs.Facts.{Facts}
use Rattle.fm_conn.specs.Nodes.{Global, IsNode, Local}
use Rattle.fm_world.specs.Programs.{Program}
use Rattle.fm_frames.specs.Acts.{cell_of, Sources, sum_of, value_of}
use Rattle.fm_frames.specs.Effects.{Action, Make, MakeFixed, MakeLiteral, Put, SetStatic, Start, Free, SetChain, FreeChain, Copy, Source, Plain, OfOperand, OfLocal, LocalPlus, OfPlace, OfStatic, OfMade, OfLiteral, SameOperands}
use Rattle.fm_frames.specs.Elements.{read}
use Rattle.fm_frames.specs.Sights.{type_numbered}
use Rattle.fm_frames.specs.States.{Areas, Frame, word_at}
use Rattle.fm_frames.specs.declared.values.Value.{Value}
use Rattle.fm_frames.specs.declared.values.Value.TheVariants as value
use Rattle.fm_same.specs.Advances.{point_of}
use Rattle.fm_same.specs.Colours.{Colour, HasColour, IsFrameColoured, IsOf}
use Rattle.fm_same.specs.Evenness.{ActsEvenly, ComesFrom, IsObjectSource, IsPlainKind, LeadsOn, Point, PutsEvenly, SetsEvenly, word}
use Rattle.fm_same.specs.Regions.{Everywhere, Region, region, Retired}
use Rattle.fm_same.specs.Standing.{StandsAt}
use Rattle.fm_law_sound.specs.Placing.{kind_in, PutAgrees, ReadAgrees}
use Rattle.fm_law_sound.specs.Sound.{IsReference}
use Rattle.fm_same.proofs.ActsKeep.{ActHas, cell_has, element_even, plain_has, PutHas, SourceHas, SourceLeads, StaticHas, Went}
use Rattle.fm_same.proofs.RegionLemmas.{region_global, region_within}
use Rattle.fm_same.proofs.StoreChanges.{for_ever-is_of, has-later}

-- ---- words of lists

-- a word that is looked up is there, or is no value
pub word_found : (words : List Value) (n : ℕ) → ((v : Value) × (slice_get words n ≡ Some v) × (word_at words n ≡ v)) ⊎ (word_at words n ≡ value.Top)
word_found [] n = inr refl
word_found (v ∷ words) zero = inl (v, refl, refl)
word_found (v ∷ words) (suc n) = word_found words n

pub has_if_reference : (store : Store) (colour : Colour) (r : Region) (v : Value) → (IsReference v → HasColour store colour r v) → HasColour store colour r v
has_if_reference store colour r value.Top h = tt
has_if_reference store colour r (value.Int n) h = tt
has_if_reference store colour r (value.Long n) h = tt
has_if_reference store colour r (value.Ref cell) h = h tt

sum_value : (store : Store) (colour : Colour) (r : Region) (v : Value) (by : ℤ) → HasColour store colour r (sum_of v by)
sum_value store colour r value.Top by = tt
sum_value store colour r (value.Int n) by = tt
sum_value store colour r (value.Long n) by = tt
sum_value store colour r (value.Ref cell) by = tt

number_read : (store : Store) (colour : Colour) (r : Region) (k : Kind) (n : ℕ) → IsPlainKind k → HasColour store colour r (read k n)
unfolding read
number_read store colour r kind.Boolean n h = tt
number_read store colour r kind.Byte n h = tt
number_read store colour r kind.Char n h = tt
number_read store colour r kind.Short n h = tt
number_read store colour r kind.Int n h = tt
number_read store colour r kind.Long n h = tt
number_read store colour r (kind.Ref t) n h = absurd h

reference_read : (store : Store) (colour : Colour) (r : Region) (t : TypeRef) (n : ℕ) → IsOf store colour r n → HasColour store colour r (read (kind.Ref t) n)
unfolding read
reference_read store colour r t n h = h

-- ---- at a frame

module _ (p : Program) (facts : Facts) (f : Frame) (callers : List Frame) (at : StandsAt p facts f) (store : Store) (colour : Colour) (coloured : IsFrameColoured p.outline facts store colour f callers) where
  abbrev point : Point
  point = point_of p facts f at.code

  abbrev region_in : ℕ → Region
  region_in class = region p.outline facts f.method callers class

  live_in : (class : ℕ) → region_in class ≢ Retired
  live_in class = (region_within p.outline facts f.method callers class).not_retired

  pub operand_has : (n class : ℕ) → (IsNode point.method (word point n) → point.class (word point n) ≡ class)
      → HasColour store colour (region_in class) (word_at f.stack n)
  operand_has n class same = ⊎_elim
      (λ found.
      subst (λ v. HasColour store colour (region_in class) v) (sym found.2)
      (has_if_reference store colour (region_in class) found.0
      (λ leads. subst (λ c. HasColour store colour (region_in c) found.0) (same (at.is_node n found.0 found.1 leads))
      (coloured.words n found.0 found.1))))
      (λ missing. subst (λ v. HasColour store colour (region_in class) v) (sym missing) tt)
      (word_found f.stack n)

  local_has : (k class : ℕ) → facts.live f.method k f.item ≡ true → facts.class f.method (Local k) ≡ class
      → HasColour store colour (region_in class) (word_at f.locals k)
  local_has k class live same = ⊎_elim
      (λ found.
      subst (λ v. HasColour store colour (region_in class) v) (sym found.2)
      (subst (λ c. HasColour store colour (region_in c) found.0) same (coloured.locals k found.0 found.1 live)))
      (λ missing. subst (λ v. HasColour store colour (region_in class) v) (sym missing) tt)
      (word_found f.locals k)

  -- ---- before the actions

  object_source : (home class : ℕ) (s : Source) → IsObjectSource s → ComesFrom point home class s
      → SourceHas store colour f.stack (region_in home) (region_in class) s
  object_source home class (OfOperand n) is from = operand_has n class from
  object_source home class (OfMade n) is from = ap region_in from
  object_source home class other is from = absurd is

  value_source : (home class : ℕ) (s : Source) → LeadsOn point s → ComesFrom point home class s
      → SourceHas store colour f.stack (region_in home) (region_in class) s
  value_source home class (Plain v) leads from = from
  value_source home class (OfOperand n) leads from = operand_has n class from
  value_source home class (OfMade n) leads from = ap region_in from
  value_source home class (OfLiteral text) leads from = tt
  value_source home class other leads from = absurd leads

  leads_source : (s : Source) → LeadsOn point s → SourceLeads f.stack s
  leads_source (Plain v) leads = subst IsReference (sym leads) tt
  leads_source (OfOperand n) leads =
      let within : n < length f.stack = leads.1 in
      at.is_reference n (word_at f.stack n) (slice_get-get_or f.stack n value.Top within) leads.0
  leads_source (OfMade n) leads = tt
  leads_source (OfLiteral text) leads = tt
  leads_source other leads = absurd leads

  number_has : (home n place : ℕ) (k : Kind) (v : Source) → IsPlainKind k → PutAgrees p.outline store f.stack (Put (OfOperand n) place k v)
      → PutHas p.outline store colour f.stack (region_in home) (OfOperand n) place v k
  number_has home n place (kind.Ref t) v plain agrees = absurd plain
  number_has home n place k v plain agrees =
      (region_in (point.class (word point n)), live_in (point.class (word point n)), operand_has n (point.class (word point n)) (λ _. refl), agrees)

  put_has : (home : ℕ) (object v : Source) (place : ℕ) (k : Kind) → PutsEvenly point home object v k
      → PutAgrees p.outline store f.stack (Put object place k v)
      → PutHas p.outline store colour f.stack (region_in home) object place v k
  put_has home object v place (kind.Ref t) h agrees =
      (region_in h.0, live_in h.0, object_source home h.0 object h.1 h.2, value_source home h.0 v h.4 h.3, leads_source v h.4)
  put_has home (OfOperand n) v place k h agrees = number_has home n place k v tt agrees
  put_has home other v place k h agrees = absurd h

  static_has : (home slot : ℕ) (v : Source) (k : Kind) → SetsEvenly point home v k → StaticHas store colour f.stack (region_in home) v k
  static_has home slot v (kind.Ref t) h =
      let everywhere : region_in (facts.class f.method Global) ≡ Everywhere =
      region_global p.outline facts f.method callers (facts.class f.method Global) refl in
      (subst (λ r. SourceHas store colour f.stack (region_in home) r v) everywhere (value_source home (facts.class f.method Global) v h.1 h.0), leads_source v h.1)
  static_has home slot v k h = tt

  act_has : (home : ℕ) (action : Action) → ActsEvenly p.outline point home action → PutAgrees p.outline store f.stack action
      → ActHas p.outline store colour f.stack (region_in home) action
  act_has home (Make t len content) h agrees = h
  act_has home (MakeFixed t) h agrees = absurd h
  act_has home (MakeLiteral text) h agrees = h
  act_has home (Put object place k v) h agrees = put_has home object v place k h agrees
  act_has home (SetStatic slot k v) h agrees = static_has home slot v k h
  act_has home (Start class) h agrees = h
  act_has home (Free operand) h agrees = h
  act_has home (SetChain operand to) h agrees = h
  act_has home (FreeChain operand) h agrees = h
  act_has home (Copy t len n) h agrees =
      (operand_has n home h, λ object held. agrees.2 ∙ ap (λ (y : Object). type_numbered p.outline y.class) (same_Some agrees.0 object (sym agrees.1 ∙ held)))

  pub acts_have : (home : ℕ) (actions : List Action) → AllByRecursion (ActsEvenly p.outline point home) actions
      → AllByRecursion (PutAgrees p.outline store f.stack) actions → AllByRecursion (ActHas p.outline store colour f.stack (region_in home)) actions
  acts_have home [] h agrees = tt
  acts_have home (action ∷ more) h agrees = (act_has home action h.0 agrees.0, acts_have home more h.1 agrees.1)

  -- ---- after the actions

  module _ (home : ℕ) (y : Areas) (made : List ℕ) (went : Went p.outline store colour (region_in home) y made) where
    abbrev after : Sources
    after = record { locals = f.locals; stack = f.stack; areas = y; made = made }

    later_has : (class : ℕ) (v : Value) → HasColour store colour (region_in class) v → HasColour y.store colour (region_in class) v
    later_has class v h = has-later store y.store colour (region_in class) v went.extends h

    -- an element of an object of the class
    element_has : (class cell place : ℕ) → IsOf store colour (region_in class) cell
        → ((object : Object) → object_at store cell ≡ Some object → (u : TypeRef) × (kind_in p.outline object place ≡ Some (kind.Ref u)))
        → IsOf y.store colour (region_in class) (slice_index_or (elements_at y.store cell) place 0)
    element_has class cell place has agrees =
        element_even p.outline store colour (region_in home) y made (region_in class) cell place went has agrees

    -- what a source gives where its value is of the class
    pub source_gives : (class : ℕ) (s : Source) → ComesFrom point home class s → ReadAgrees p.outline store f.stack s
        → HasColour y.store colour (region_in class) (value_of after s)
    source_gives class (Plain v) from agrees = plain_has y.store colour (region_in class) v from
    source_gives class (OfOperand n) from agrees = later_has class (word_at f.stack n) (operand_has n class from)
    source_gives class (OfLocal k) from agrees = later_has class (word_at f.locals k) (local_has k class from.0 from.1)
    source_gives class (LocalPlus k by) from agrees = sum_value y.store colour (region_in class) (word_at f.locals k) by
    source_gives class (OfPlace n place (kind.Ref t)) from agrees =
        reference_read y.store colour (region_in class) t (slice_index_or (elements_at y.store (cell_of (word_at f.stack n))) place 0)
        (element_has class (cell_of (word_at f.stack n)) place (cell_has store colour (region_in class) (word_at f.stack n) (operand_has n class from))
        (λ object held.
        let same : agrees.0 ≡ object = same_Some agrees.0 object (sym agrees.1 ∙ held) in
        (agrees.2, ap (λ (y : Object). kind_in p.outline y place) (sym same) ∙ agrees.3)))
    source_gives class (OfPlace n place k) from agrees =
        number_read y.store colour (region_in class) k (slice_index_or (elements_at y.store (cell_of (word_at f.stack n))) place 0) tt
    source_gives class (OfStatic slot) from agrees =
        let everywhere : region_in class ≡ Everywhere = region_global p.outline facts f.method callers class from in
        subst (λ r. HasColour y.store colour r (word_at y.statics slot)) (sym everywhere)
        (⊎_elim
        (λ found. subst (λ v. HasColour y.store colour Everywhere v) (sym found.2) (went.areas.statics slot found.0 found.1))
        (λ missing. subst (λ v. HasColour y.store colour Everywhere v) (sym missing) tt)
        (word_found y.statics slot))
    source_gives class (OfMade n) from agrees =
        subst (λ c. IsOf y.store colour (region_in c) (slice_index_or made n 0)) from (went.made n)
    source_gives class (OfLiteral text) from agrees =
        for_ever-is_of y.store colour (region_in class) (slice_index_or y.literals text 0) (went.areas.literals text)
    source_gives class SameOperands from agrees = tt
