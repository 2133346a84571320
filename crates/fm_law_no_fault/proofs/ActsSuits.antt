-- Actions that fit by their kinds, and put what suits them, lead each place to what fits it.
use Rattle.std.proofs.Common.{◌≡◌, ℕ, ◌⊎◌, cond, Bool, true, false, List, [], ◌∷◌, ◌++◌, length, nat_lt, Option, Some, refl, sym, ◌∙◌, ap, subst, inl, inr, slice_get}
use Rattle.std.specs.Prelude.{unwrap_or}
use Rattle.std.proofs.lemmas.Option.{get_or_from_slice_get, same_Some}
use Rattle.fm_base.proofs.ListFacts.{slice_get-append_left}
use Rattle.fm_base.specs.declared.kinds.Kind.{Kind}
use Rattle.fm_base.specs.declared.kinds.Kind.TheVariants as kind
use Rattle.fm_base.specs.declared.kinds.TypeRef.{TypeRef}
use Rattle.fm_cells.specs.Stores.{Store}
use Rattle.fm_types.specs.Fits.{fits_type}
use Rattle.fm_types.specs.declared.slots.Slot.TheVariants as slot
use Rattle.fm_world.specs.Numbers.{type_of_class}
use Rattle.fm_world.specs.Programs.{kind_at, Outline, Program}
use Rattle.fm_frames.specs.Acts.{literal_text, literal_type}
use Rattle.fm_frames.specs.Effects.{Action, Copy, Free, FreeChain, Make, MakeFixed, MakeLiteral, OfLiteral, OfMade, OfOperand, Plain, Put, SetChain, SetStatic, Source, Start}
use Rattle.fm_frames.specs.Elements.{is_string_type}
use Rattle.fm_frames.specs.NativeRows.{class_type, text_kind, text_type}
use Rattle.fm_frames.specs.Sights.{type_numbered}
use Rattle.fm_frames.specs.States.{Frame}
use Rattle.fm_law_sound.specs.Acting.{ActsFit, MakeFits, ObjectFits, PlaceFits}
use Rattle.fm_law_sound.specs.Sound.{field_slot, static_slots}
use Rattle.fm_law_no_fault.specs.CellsResolved.{CellsAreResolved}
use Rattle.fm_law_no_fault.specs.Doing.{ActsLead, HasNumber, HoldsNoCell, IsReferenceKind, PlaceTakes, SourceIsOf, SourceLeadsTo, StaticTakes}
use Rattle.fm_law_no_fault.specs.Whole.{HoldsA, LeadsToA}
use Rattle.fm_law_no_fault.proofs.ActsKeep.{types_after}
use Rattle.fm_law_no_fault.proofs.Owing.{ActsSuit, Suits}

-- ---- tests that pass more

pub holds_weaker : (o : Outline) (store : Store) (test other : TypeRef → Bool) → ((t : TypeRef) → test t ≡ true → other t ≡ true) → (cell : ℕ)
    → HoldsA o store test cell → HoldsA o store other cell
holds_weaker o store test other each cell h =
    record { object = h.object; held = h.held; passes = each (type_numbered o h.object.class) h.passes }

pub leads_weaker : (o : Outline) (store : Store) (test other : TypeRef → Bool) → ((t : TypeRef) → test t ≡ true → other t ≡ true) → (cell : ℕ)
    → LeadsToA o store test cell → LeadsToA o store other cell
leads_weaker o store test other each cell (inl e) = inl e
leads_weaker o store test other each cell (inr h) = inr (holds_weaker o store test other each cell h)

-- the kind of a static field by its slot
slot_reference : (k : Kind) (t : TypeRef) → field_slot k ≡ slot.Ref t → k ≡ kind.Ref t
slot_reference (kind.Ref u) t is = ap (λ v. kind.Ref v) (same u t is) where
  same : (u t : TypeRef) → slot.Ref u ≡ slot.Ref t → u ≡ t
  same u t e = cc
slot_reference kind.Boolean t is = absurd (cc)
slot_reference kind.Byte t is = absurd (cc)
slot_reference kind.Char t is = absurd (cc)
slot_reference kind.Short t is = absurd (cc)
slot_reference kind.Int t is = absurd (cc)
slot_reference kind.Long t is = absurd (cc)

-- what was made stays at its place
pub made_stays : (actions : List Action) (types : List TypeRef) (n : ℕ) (t : TypeRef) → slice_get types n ≡ Some t
    → slice_get (types_after types actions) n ≡ Some t
made_stays [] types n t at = at
made_stays (Make u len content ∷ more) types n t at = made_stays more (types ++ u ∷ []) n t (slice_get-append_left types (u ∷ []) n t at)
made_stays (MakeFixed u ∷ more) types n t at = made_stays more (types ++ u ∷ []) n t (slice_get-append_left types (u ∷ []) n t at)
made_stays (MakeLiteral text ∷ more) types n t at = made_stays more types n t at
made_stays (Put object place k v ∷ more) types n t at = made_stays more types n t at
made_stays (SetStatic field k v ∷ more) types n t at = made_stays more types n t at
made_stays (Start class ∷ more) types n t at = made_stays more types n t at
made_stays (Free operand ∷ more) types n t at = made_stays more types n t at
made_stays (SetChain operand to ∷ more) types n t at = made_stays more types n t at
made_stays (FreeChain operand ∷ more) types n t at = made_stays more types n t at
made_stays (Copy u len operand ∷ more) types n t at = made_stays more (types ++ u ∷ []) n t (slice_get-append_left types (u ∷ []) n t at)

module _ (p : Program) (ready : CellsAreResolved p) (store : Store) (f : Frame) where
  abbrev o : Outline
  o = p.outline

  source_weaker : (types : List TypeRef) (test other : TypeRef → Bool) → ((t : TypeRef) → test t ≡ true → other t ≡ true) → (s : Source)
      → SourceLeadsTo o store f.stack types test s → SourceLeadsTo o store f.stack types other s
  source_weaker types test other each (Plain v) h = h
  source_weaker types test other each (OfOperand n) h = (h.0, leads_weaker o store test other each _ h.1)
  source_weaker types test other each (OfMade n) h = (h.0, h.1, each h.0 h.2)
  source_weaker types test other each (OfLiteral literal) h = each (literal_type o literal) h
  source_weaker types test other each s h = absurd h

  -- ---- makes

  numbered : (t : TypeRef) (len : ℕ) (content : List ℕ) → MakeFits o t len content → HasNumber o t
  numbered t len content h =
      ap (λ n. type_numbered o (unwrap_or n 0)) h.number_is ∙ get_or_from_slice_get o.types h.number t (type_of_class 0) h.there

  literal_plain : (literal : ℕ) → HoldsNoCell o (literal_type o literal)
  literal_plain literal = by_text (nat_lt literal (length o.texts)) where
    by_text : (b : Bool) → HoldsNoCell o (cond b (text_type o) (class_type o))
    by_text true = ready.built_in.text_plain
    by_text false = ready.built_in.class_plain

  content_leads : (t : TypeRef) (content : List ℕ) → (content ≡ []) ⊎ (t ≡ text_type o) → (content ≡ []) ⊎ HoldsNoCell o t
  content_leads t content (inl none) = inl none
  content_leads t content (inr text) = inr (subst (HoldsNoCell o) (sym text) ready.built_in.text_plain)

  -- ---- puts

  -- a source that suits a kind of references leads to what fits
  reference_leads : (types : List TypeRef) (k : Kind) (u : TypeRef) (v : Source) → k ≡ kind.Ref u → Suits o store f.stack types k v
      → IsReferenceKind k × SourceLeadsTo o store f.stack types (λ w. fits_type o.classes w u) v
  reference_leads types k u v is suits = (subst IsReferenceKind (sym is) tt, subst (λ q. Suits o store f.stack types q v) is suits)

  place_takes : (types : List TypeRef) (t : TypeRef) (place : ℕ) (k : Kind) (v : Source) → PlaceFits o t place k → Suits o store f.stack types k v
      → PlaceTakes o store f.stack types t place k v
  place_takes types t place k v fits suits = record {
    reference = λ u is. reference_leads types k u v (same_Some k (kind.Ref u) (sym fits.kind ∙ is)) suits;
    text = λ first has.
        let text : k ≡ text_kind o = same_Some k (text_kind o) (sym fits.kind ∙ ap (λ n. kind_of n) first ∙ ready.places.hidden t has) in
        let leads = reference_leads types k (text_type o) v text suits in
        (leads.0, source_weaker types (λ w. fits_type o.classes w (text_type o)) (is_string_type o) ready.places.texts v leads.1);
  } where
    kind_of : ℕ → Option Kind
    kind_of n = kind_at o.classes t n

  put_leads : (types : List TypeRef) (object : Source) (place : ℕ) (k : Kind) (v : Source) → ObjectFits o store f types object place k
      → Suits o store f.stack types k v
      → (t : TypeRef) × SourceIsOf o store f.stack types t object × PlaceTakes o store f.stack types t place k v
  put_leads types (OfOperand n) place k v h suits =
      (type_numbered o h.0.class, (h.0, h.1, refl), place_takes types (type_numbered o h.0.class) place k v h.2 suits)
  put_leads types (OfMade n) place k v h suits = (h.0, h.1, place_takes types h.0 place k v h.2 suits)
  put_leads types object place k v h suits = absurd h

  static_takes : (types : List TypeRef) (field : ℕ) (k : Kind) (v : Source) → slice_get (static_slots o) field ≡ Some (field_slot k)
      → Suits o store f.stack types k v → StaticTakes o store f.stack types field k v
  static_takes types field k v at suits t is =
      reference_leads types k t v (slot_reference k t (same_Some (field_slot k) (slot.Ref t) (sym at ∙ is))) suits

  -- ---- all together

  pub acts_lead : (actions : List Action) (types : List TypeRef) → ActsFit o store f types actions → ActsSuit o store f.stack types actions
      → ActsLead o store f.stack types actions
  acts_lead [] types fit suit = tt
  acts_lead (Make t len content ∷ more) types fit suit =
      (numbered t len content fit.0, content_leads t content suit.0, acts_lead more (types ++ t ∷ []) fit.1 suit.1)
  acts_lead (MakeFixed t ∷ more) types fit suit = (numbered t 0 [] fit.0, suit.0, acts_lead more (types ++ t ∷ []) fit.1 suit.1)
  acts_lead (MakeLiteral text ∷ more) types fit suit =
      (numbered (literal_type o text) _ (literal_text o text) fit.0, literal_plain text, acts_lead more types fit.1 suit)
  acts_lead (Put object place k v ∷ more) types fit suit =
      (put_leads types object place k v fit.0 suit.0, acts_lead more types fit.2 suit.1)
  acts_lead (SetStatic field k v ∷ more) types fit suit = (static_takes types field k v fit.0 suit.0, acts_lead more types fit.1 suit.1)
  acts_lead (Start class ∷ more) types fit suit = acts_lead more types fit suit
  acts_lead (Free operand ∷ more) types fit suit = absurd suit
  acts_lead (SetChain operand to ∷ more) types fit suit = absurd suit
  acts_lead (FreeChain operand ∷ more) types fit suit = absurd suit
  acts_lead (Copy t len operand ∷ more) types fit suit =
      (numbered t len [] fit.0.makes, (fit.0.object, fit.0.held, fit.0.type), acts_lead more (types ++ t ∷ []) fit.1 suit)
