-- The actions of a step lead paired areas to paired areas.
use Rattle.std.proofs.Common.{◌≡◌, ℕ, inl, inr, Bool, true, false, List, Some, refl, sym, ◌∙◌, ap, subst, slice_set}
use Rattle.std.specs.List.{AllByRecursion, AllZip}
use Rattle.std.proofs.lemmas.Option.{same_Some}
use Rattle.fm_base.specs.declared.kinds.Kind.{Kind}
use Rattle.fm_base.specs.declared.kinds.Kind.TheVariants as kind
use Rattle.fm_base.specs.declared.kinds.TypeRef.{TypeRef}
use Rattle.fm_cells.proofs.Elements.{put_by-some}
use Rattle.fm_cells.specs.Changes.{with_element, with_object}
use Rattle.fm_cells.specs.Objects.{Object}
use Rattle.fm_cells.specs.Stores.{object_at, Store}
use Rattle.fm_types.proofs.Zips.{zip-implied, zip-set}
use Rattle.fm_world.specs.Programs.{Outline}
use Rattle.fm_frames.specs.Acts.{cell_of, put_value, set_static, value_of}
use Rattle.fm_frames.specs.Effects.{LocalPlus, OfLiteral, OfLocal, OfMade, OfOperand, OfPlace, OfStatic, Plain, SameOperands, Source}
use Rattle.fm_frames.specs.Elements.{cut, is_text_type, kept, read}
use Rattle.fm_frames.specs.Sights.{type_numbered}
use Rattle.fm_frames.specs.States.{Areas, Frame}
use Rattle.fm_frames.specs.declared.values.Value.{Value}
use Rattle.fm_frames.specs.declared.values.Value.TheVariants as value
use Rattle.fm_law_sound.proofs.CellsKeep.{SameClasses}
use Rattle.fm_law_sound.specs.Leading.{sources_of}
use Rattle.fm_law_sound.specs.Placing.{kind_in, ReadAgrees}
use Rattle.fm_law_sound.specs.Sound.{field_slot, HasKind, IsReference}
use Rattle.fm_law_two_memories.specs.Pairing.{AreAlike, ArePaired, AreasPaired, AreTwins, FramesPaired, Gone, SameCell, SameElement, SameFound, SameValue}
use Rattle.fm_law_two_memories.specs.Reading.{IsNumeric, IsOfKind, NumberAgrees}
use Rattle.fm_law_two_memories.specs.Seeing.{IsSeen, IsThere}
use Rattle.fm_law_two_memories.proofs.SightsSame.{twins_alike}
use Rattle.fm_law_two_memories.proofs.SourcesSame.{read_same, source_same}
use Rattle.fm_law_two_memories.proofs.Stores.{cell_later, put_paired, value_later, with_stays}
use Rattle.fm_law_two_memories.proofs.Twins.{found_same, not_null}
use Rattle.fm_law_two_memories.specs.Laws.{KeepsBirths}

-- ---- values that are kept

-- a value that has the kind of a field is of its kind
pub of_kind : (k : Kind) (v : Value) → HasKind (field_slot k) v → IsOfKind k v
of_kind kind.Boolean v has = subst IsNumeric (sym has.1) tt
of_kind kind.Byte v has = subst IsNumeric (sym has.1) tt
of_kind kind.Char v has = subst IsNumeric (sym has.1) tt
of_kind kind.Short v has = subst IsNumeric (sym has.1) tt
of_kind kind.Int v has = subst IsNumeric (sym has.1) tt
of_kind kind.Long v has = subst IsNumeric (sym has.1) tt
of_kind (kind.Ref t) v has = has

module _ (gone : Gone) (one other : Store) where
  kept_number : (k : Kind) (v w : Value) → SameValue gone one other v w → IsNumeric v → kept k w ≡ kept k v
  kept_number k value.Top w h number = absurd number
  kept_number k (value.Int n) w h number = ap (kept k) h
  kept_number k (value.Long n) w h number = ap (kept k) h
  kept_number k (value.Ref cell) w h number = absurd number

  kept_reference : (t : TypeRef) (v w : Value) → SameValue gone one other v w → IsReference v → SameCell gone one other (kept (kind.Ref t) v) (kept (kind.Ref t) w)
  kept_reference t value.Top w h reference = absurd reference
  kept_reference t (value.Int n) w h reference = absurd reference
  kept_reference t (value.Long n) w h reference = absurd reference
  kept_reference t (value.Ref cell) w h reference = subst (λ u. SameCell gone one other cell.0 (kept (kind.Ref t) u)) (sym h.1) h.2

  plain_number : (v : Value) → IsNumeric v → SameValue gone one other v v
  plain_number value.Top h = absurd h
  plain_number (value.Int n) h = refl
  plain_number (value.Long n) h = refl
  plain_number (value.Ref cell) h = absurd h

no_number : (t : TypeRef) (n : ℕ) → IsNumeric (read (kind.Ref t) n) → ⊥
unfolding read
no_number t n h = h

module _ (gone : Gone) (o : Outline) (one other : Store) (f g : Frame) (frame : FramesPaired gone one other f g) (seen : AllByRecursion (IsSeen gone o one) f.stack) (x y : Areas) (made others : List ℕ) (paired : AreasPaired gone o x y) (stays : KeepsBirths one x.store) (other_stays : KeepsBirths other y.store) (classes : SameClasses one x.store) (cells : AllZip (SameFound x.store y.store) made others) where
  abbrev first : Source → Value
  first s = value_of (sources_of f x made) s

  abbrev second : Source → Value
  second s = value_of (sources_of g y others) s

  same : (s : Source) → ReadAgrees o one f.stack s → NumberAgrees o one f.stack s → SameValue gone x.store y.store (first s) (second s)
  same = source_same gone o one other f g frame seen x y made others paired stays other_stays classes cells

  -- a source that gives a number needs no reference to be read
  number_same_from : (s : Source) → NumberAgrees o one f.stack s → IsNumeric (first s) → SameValue gone x.store y.store (first s) (second s)
  number_same_from (Plain v) numbers h = plain_number gone x.store y.store v h
  number_same_from (OfOperand n) numbers h = same (OfOperand n) tt numbers
  number_same_from (OfLocal k) numbers h = same (OfLocal k) tt numbers
  number_same_from (LocalPlus k by) numbers h = same (LocalPlus k by) tt numbers
  number_same_from (OfPlace n place (kind.Ref t)) numbers h = absurd (no_number t _ h)
  number_same_from (OfPlace n place k) numbers h = same (OfPlace n place k) tt numbers
  number_same_from (OfStatic slot) numbers h = same (OfStatic slot) tt numbers
  number_same_from (OfMade n) numbers h = same (OfMade n) tt numbers
  number_same_from (OfLiteral text) numbers h = same (OfLiteral text) tt numbers
  number_same_from SameOperands numbers h = same SameOperands tt numbers

  -- what is kept of a value of the kind
  pub kept_same : (k : Kind) (s : Source) → ((t : TypeRef) → k ≡ kind.Ref t → ReadAgrees o one f.stack s) → NumberAgrees o one f.stack s
      → IsOfKind k (first s) → SameElement gone x.store y.store (Some k) (kept k (first s)) (kept k (second s))
  kept_same (kind.Ref t) s reads numbers has = kept_reference gone x.store y.store t (first s) (second s) (same s (reads t refl) numbers) has
  kept_same k s reads numbers has = kept_number gone x.store y.store k (first s) (second s) (number_same_from s numbers has) has

  pub cut_same : (k : Kind) (s : Source) → ((t : TypeRef) → k ≡ kind.Ref t → ReadAgrees o one f.stack s) → NumberAgrees o one f.stack s
      → IsOfKind k (first s) → SameValue gone x.store y.store (cut k (first s)) (cut k (second s))
  cut_same k s reads numbers has = read_same gone x.store y.store k (kept k (first s)) (kept k (second s)) (kept_same k s reads numbers has)

-- ---- areas

-- the areas with later stores
pub areas_later : (gone : Gone) (o : Outline) (x y : Areas) (next following : Store) → AreasPaired gone o x y → KeepsBirths x.store next → KeepsBirths y.store following
    → ArePaired gone o next following → AreasPaired gone o (record x { store = next }) (record y { store = following })
areas_later gone o x y next following paired stays other_stays stores = record {
  store = stores;
  statics = zip-implied (SameValue gone x.store y.store) (SameValue gone next following) (value_later gone x.store y.store next following stays other_stays)
      x.statics y.statics paired.statics;
  literals = zip-implied (SameCell gone x.store y.store) (SameCell gone next following) (cell_later gone x.store y.store next following stays other_stays)
      x.literals y.literals paired.literals;
  started = paired.started;
}

-- a static field is set
pub static_same : (gone : Gone) (o : Outline) (x y : Areas) (slot : ℕ) (k : Kind) (v w : Value) → AreasPaired gone o x y
    → SameValue gone x.store y.store (cut k v) (cut k w) → AreasPaired gone o (set_static x slot k v) (set_static y slot k w)
static_same gone o x y slot k v w paired h = record {
  store = paired.store;
  statics = zip-set (SameValue gone x.store y.store) slot (cut k v) (cut k w) x.statics y.statics h paired.statics;
  literals = paired.literals;
  started = paired.started;
}

-- a class is started
pub start_same : (gone : Gone) (o : Outline) (x y : Areas) (class : ℕ) → AreasPaired gone o x y
    → AreasPaired gone o (record x { started = slice_set x.started class true }) (record y { started = slice_set y.started class true })
start_same gone o x y class paired = record {
  store = paired.store;
  statics = paired.statics;
  literals = paired.literals;
  started = ap (λ (marks : List Bool). slice_set marks class true) paired.started;
}

-- ---- what is put

module _ (gone : Gone) (o : Outline) (x y : Areas) (paired : AreasPaired gone o x y) (v w : Value) (place : ℕ) (k : Kind) (object : Object) (held : object_at x.store (cell_of v) ≡ Some object) (there : gone.births object.birth ≡ false) (kind_is : kind_in o object place ≡ Some k) (no_text : is_text_type o (type_numbered o object.class) ≡ false) where
  -- the object isn't gone, and this is its twin
  is_there : (a : ℕ) → object_at x.store a ≡ Some object → IsThere gone x.store a
  is_there a at other other_at = ap (λ (it : Object). gone.births it.birth) (same_Some other object (sym other_at ∙ at)) ∙ there

  put_at : (a b : ℕ) → SameFound x.store y.store a b → object_at x.store a ≡ Some object → AreTwins x.store y.store a b
  put_at a b (inl null) at = absurd (not_null x.store a object paired.store.orderly at null.0)
  put_at a b (inr t) at = t

  pub put_same : SameCell gone x.store y.store (cell_of v) (cell_of w) → (u i : Value) → SameElement gone x.store y.store (Some k) (kept k u) (kept k i)
      → AreasPaired gone o (put_value x v place k u) (put_value y w place k i)
  put_same cells u i h =
      let a : ℕ = cell_of v in
      let b : ℕ = cell_of w in
      let t : AreTwins x.store y.store a b = put_at a b (found_same gone x.store y.store a b (is_there a held) cells) held in
      let is : t.object ≡ object = same_Some t.object object (sym t.held ∙ held) in
      let alike : AreAlike gone o x.store y.store object t.second = subst (λ it. AreAlike gone o x.store y.store it t.second) is (twins_alike gone o x.store y.store paired.store a b t) in
      let next : Store = with_object x.store a (with_element object place (kept k u)) in
      let following : Store = with_object y.store b (with_element t.second place (kept k i)) in
      subst (λ s. AreasPaired gone o (record x { store = s }) (put_value y w place k i)) (sym (put_by-some x.store a place (kept k u) object held))
      (subst (λ s. AreasPaired gone o (record x { store = next }) (record y { store = s })) (sym (put_by-some y.store b place (kept k i) t.second t.twin_held))
      (areas_later gone o x y next following paired (with_stays x.store a object (with_element object place (kept k u)) held refl)
      (with_stays y.store b t.second (with_element t.second place (kept k i)) t.twin_held refl)
      (put_paired gone o x.store y.store paired.store a b object t.second held t.twin_held alike place (kept k u) (kept k i) no_text
      (subst (λ found. SameElement gone x.store y.store found (kept k u) (kept k i)) (sym kind_is) h))))
