-- A source has the same value on both memories.
use Rattle.std.proofs.Common.{◌≡◌, ℕ, zero, suc, ℤ, pos, inl, inr, cond, List, [], ◌∷◌, Option, None, Some, refl, sym, ◌∙◌, ap, subst, slice_index_or}
use Rattle.std.specs.List.{AllByRecursion, AllZip}
use Rattle.std.proofs.lemmas.Option.{same_Some}
use Rattle.fm_base.specs.declared.kinds.Kind.{Kind}
use Rattle.fm_base.specs.declared.kinds.Kind.TheVariants as kind
use Rattle.fm_base.specs.declared.kinds.TypeRef.{TypeRef}
use Rattle.fm_cells.proofs.Elements.{elements_at-none, elements_at-some}
use Rattle.fm_cells.specs.Objects.{Object}
use Rattle.fm_cells.specs.Stores.{elements_at, object_at, Store}
use Rattle.fm_world.specs.Programs.{kind_at, Outline}
use Rattle.fm_frames.specs.Acts.{cell_of, sum_of, value_of}
use Rattle.fm_frames.specs.Effects.{LocalPlus, OfLiteral, OfLocal, OfMade, OfOperand, OfPlace, OfStatic, Plain, SameOperands, Source}
use Rattle.fm_frames.specs.Elements.{read}
use Rattle.fm_frames.specs.Sights.{type_numbered}
use Rattle.fm_frames.specs.States.{Areas, Frame, word_at}
use Rattle.fm_frames.specs.declared.values.Value.{Value}
use Rattle.fm_frames.specs.declared.values.Value.TheVariants as value
use Rattle.fm_law_sound.specs.Leading.{sources_of}
use Rattle.fm_law_sound.specs.Placing.{IsPlain, kind_in, ReadAgrees}
use Rattle.fm_law_sound.proofs.CellsKeep.{SameClasses}
use Rattle.fm_law_two_memories.specs.Pairing.{AreAlike, AreasPaired, AreTwins, FramesPaired, Gone, SameCell, SameElement, SameFound, SameValue}
use Rattle.fm_law_two_memories.specs.Reading.{NumberAgrees}
use Rattle.fm_law_two_memories.specs.Seeing.{IsSeen, IsThere}
use Rattle.fm_law_two_memories.proofs.SightsSame.{twins_alike}
use Rattle.fm_law_two_memories.proofs.Stores.{found_later, value_later}
use Rattle.fm_law_two_memories.proofs.Twins.{cell_same, found_same, found_tests}
use Rattle.fm_law_two_memories.specs.Laws.{KeepsBirths}

-- ---- values of lists

-- at each place of two lists of cells, and past their ends
pub number_same : (R : ℕ → ℕ → Type 0) → R 0 0 → (cells twins : List ℕ) (n : ℕ) → AllZip R cells twins
    → R (slice_index_or cells n 0) (slice_index_or twins n 0)
number_same R none [] [] n h = none
number_same R none [] (d ∷ ds) n h = absurd h
number_same R none (c ∷ cs) [] n h = absurd h
number_same R none (c ∷ cs) (d ∷ ds) zero h = h.0
number_same R none (c ∷ cs) (d ∷ ds) (suc n) h = number_same R none cs ds n h.1

-- what is seen of a stack isn't gone
pub word_there : (gone : Gone) (o : Outline) (store : Store) → IsThere gone store 0 → (stack : List Value) (n : ℕ) → AllByRecursion (IsSeen gone o store) stack
    → IsThere gone store (cell_of (word_at stack n))
word_there gone o store null [] n seen = null
word_there gone o store null (v ∷ vs) zero seen = seen.0.word
word_there gone o store null (v ∷ vs) (suc n) seen = word_there gone o store null vs n seen.1

module _ (gone : Gone) (one other : Store) where
  pub word_same : (vs ws : List Value) (n : ℕ) → AllZip (SameValue gone one other) vs ws → SameValue gone one other (word_at vs n) (word_at ws n)
  word_same [] [] n h = refl
  word_same [] (w ∷ ws) n h = absurd h
  word_same (v ∷ vs) [] n h = absurd h
  word_same (v ∷ vs) (w ∷ ws) zero h = h.0
  word_same (v ∷ vs) (w ∷ ws) (suc n) h = word_same vs ws n h.1

  pub read_same : (k : Kind) (a b : ℕ) → SameElement gone one other (Some k) a b → SameValue gone one other (read k a) (read k b)
  unfolding read
  read_same kind.Boolean a b h = ap (read kind.Boolean) h
  read_same kind.Byte a b h = ap (read kind.Byte) h
  read_same kind.Char a b h = ap (read kind.Char) h
  read_same kind.Short a b h = ap (read kind.Short) h
  read_same kind.Int a b h = ap (read kind.Int) h
  read_same kind.Long a b h = ap (read kind.Long) h
  read_same (kind.Ref t) a b h = (b, refl, h)

  plain_same : (v : Value) → IsPlain v → SameValue gone one other v v
  plain_same value.Top h = refl
  plain_same (value.Int n) h = refl
  plain_same (value.Long n) h = refl
  plain_same (value.Ref cell) h = (cell.0, refl, inl (inl (h, h)))

  sum_same : (v w : Value) (by : ℤ) → SameValue gone one other v w → SameValue gone one other (sum_of v by) (sum_of w by)
  sum_same value.Top w by h = ap (λ u. sum_of u by) h
  sum_same (value.Int n) w by h = ap (λ u. sum_of u by) h
  sum_same (value.Long n) w by h = ap (λ u. sum_of u by) h
  sum_same (value.Ref cell) w by h = ap (λ u. sum_of u by) h.1

  number_element : (k : Option Kind) (a b : ℕ) → SameElement gone one other k a b → ((t : TypeRef) → k ≡ Some (kind.Ref t) → ⊥) → b ≡ a
  number_element (Some (kind.Ref t)) a b h never = absurd (never t refl)
  number_element k a b h never = h

-- ---- the values of sources

module _ (gone : Gone) (o : Outline) (one other : Store) (f g : Frame) (frame : FramesPaired gone one other f g) (seen : AllByRecursion (IsSeen gone o one) f.stack) (x y : Areas) (made others : List ℕ) (paired : AreasPaired gone o x y) (stays : KeepsBirths one x.store) (other_stays : KeepsBirths other y.store) (classes : SameClasses one x.store) (cells : AllZip (SameFound x.store y.store) made others) where
  word_now : (vs ws : List Value) (n : ℕ) → AllZip (SameValue gone one other) vs ws → SameValue gone x.store y.store (word_at vs n) (word_at ws n)
  word_now vs ws n h = value_later gone one other x.store y.store stays other_stays (word_at vs n) (word_at ws n) (word_same gone one other vs ws n h)

  -- the elements at a place of an operand's object, where it was held when the step began
  element_by : (c d place : ℕ) (P : ℕ → ℕ → Type 0) → SameFound one other c d → P 0 0
      → ((object : Object) → object_at one c ≡ Some object → (a b : ℕ) → SameElement gone x.store y.store (kind_in o object place) a b → P a b)
      → P (slice_index_or (elements_at x.store c) place 0) (slice_index_or (elements_at y.store d) place 0)
  element_by c d place P (inl null) nothing each =
      let first = elements_at-none x.store c (ap (object_at x.store) null.0 ∙ paired.store.orderly.null_not_held) in
      let second = elements_at-none y.store d (ap (object_at y.store) null.1 ∙ paired.store.other_orderly.null_not_held) in
      subst (λ (es : List ℕ). P (slice_index_or es place 0) (slice_index_or (elements_at y.store d) place 0)) (sym first)
      (subst (λ (es : List ℕ). P 0 (slice_index_or es place 0)) (sym second) nothing)
  element_by c d place P (inr t) nothing each =
      let now = stays c t.object t.held in
      let second = other_stays d t.second t.twin_held in
      let twins : AreTwins x.store y.store c d =
      record { object = now.0; held = now.1; second = second.0; twin_held = second.1; born = second.2 ∙ t.born ∙ sym now.2 } in
      let alike : AreAlike gone o x.store y.store now.0 second.0 = twins_alike gone o x.store y.store paired.store c d twins in
      let kinds : kind_in o now.0 place ≡ kind_in o t.object place =
      ap (λ class. kind_at o.classes (type_numbered o class) place) (classes c t.object now.0 t.held now.1) in
      subst (λ (es : List ℕ). P (slice_index_or es place 0) (slice_index_or (elements_at y.store d) place 0)) (sym (elements_at-some x.store c now.0 now.1))
      (subst (λ (es : List ℕ). P (slice_index_or now.0.elements place 0) (slice_index_or es place 0)) (sym (elements_at-some y.store d second.0 second.1))
      (each t.object t.held _ _ (subst (λ k. SameElement gone x.store y.store k (slice_index_or now.0.elements place 0) (slice_index_or second.0.elements place 0)) kinds (alike.elements place))))

  -- null leads to nothing
  null_there : IsThere gone one 0
  null_there object held =
      let now = stays 0 object held in let no : None ≡ Some now.0 = sym paired.store.orderly.null_not_held ∙ now.1 in absurd (cc)

  -- an operand isn't gone
  pub operand_same : (n : ℕ) → SameFound one other (cell_of (word_at f.stack n)) (cell_of (word_at g.stack n))
  operand_same n =
      found_same gone one other (cell_of (word_at f.stack n)) (cell_of (word_at g.stack n)) (word_there gone o one null_there f.stack n seen)
      (cell_same gone one other (word_at f.stack n) (word_at g.stack n) (word_same gone one other f.stack g.stack n frame.stack))

  pub operand_now : (n : ℕ) → SameFound x.store y.store (cell_of (word_at f.stack n)) (cell_of (word_at g.stack n))
  operand_now n =
      found_later gone one other x.store y.store stays other_stays (cell_of (word_at f.stack n)) (cell_of (word_at g.stack n)) (operand_same n)

  -- and neither is what was made
  pub made_now : (n : ℕ) → SameFound x.store y.store (slice_index_or made n 0) (slice_index_or others n 0)
  made_now n = number_same (SameFound x.store y.store) (inl (refl, refl)) made others n cells

  number_read : (n place : ℕ)
      → ((object : Object) → object_at one (cell_of (word_at f.stack n)) ≡ Some object → (t : TypeRef) → kind_in o object place ≡ Some (kind.Ref t) → ⊥)
      → slice_index_or (elements_at y.store (cell_of (word_at g.stack n))) place 0 ≡ slice_index_or (elements_at x.store (cell_of (word_at f.stack n))) place 0
  number_read n place never =
      element_by (cell_of (word_at f.stack n)) (cell_of (word_at g.stack n)) place (λ a b. b ≡ a) (operand_same n) refl
      (λ object held a b same. number_element gone x.store y.store (kind_in o object place) a b same (never object held))

  reference_read : (n place : ℕ) (t : TypeRef) → ReadAgrees o one f.stack (OfPlace n place (kind.Ref t))
      → SameCell gone x.store y.store (slice_index_or (elements_at x.store (cell_of (word_at f.stack n))) place 0)
      (slice_index_or (elements_at y.store (cell_of (word_at g.stack n))) place 0)
  reference_read n place t reads =
      element_by (cell_of (word_at f.stack n)) (cell_of (word_at g.stack n)) place (SameCell gone x.store y.store) (operand_same n) (inl (inl (refl, refl)))
      (λ object held a b same.
      let is : reads.0 ≡ object = same_Some reads.0 object (sym reads.1 ∙ held) in
      let kinds : kind_in o object place ≡ Some (kind.Ref reads.2) = sym (ap (λ (it : Object). kind_in o it place) is) ∙ reads.3 in
      subst (λ k. SameElement gone x.store y.store k a b) kinds same)

  pub source_same : (s : Source) → ReadAgrees o one f.stack s → NumberAgrees o one f.stack s
      → SameValue gone x.store y.store (value_of (sources_of f x made) s) (value_of (sources_of g y others) s)
  source_same (Plain v) reads numbers = plain_same gone x.store y.store v reads
  source_same (OfOperand n) reads numbers = word_now f.stack g.stack n frame.stack
  source_same (OfLocal k) reads numbers = word_now f.locals g.locals k frame.locals
  source_same (LocalPlus k by) reads numbers = sum_same gone x.store y.store (word_at f.locals k) (word_at g.locals k) by (word_now f.locals g.locals k frame.locals)
  source_same (OfPlace n place (kind.Ref t)) reads numbers = read_same gone x.store y.store (kind.Ref t) _ _ (reference_read n place t reads)
  source_same (OfPlace n place k) reads numbers = read_same gone x.store y.store k _ _ (number_read n place numbers)
  source_same (OfStatic slot) reads numbers = word_same gone x.store y.store x.statics y.statics slot paired.statics
  source_same (OfMade n) reads numbers = (slice_index_or others n 0, refl, inl (made_now n))
  source_same (OfLiteral text) reads numbers = (slice_index_or y.literals text 0, refl, number_same (SameCell gone x.store y.store) (inl (inl (refl, refl))) x.literals y.literals text paired.literals)
  source_same SameOperands reads numbers =
      ap (λ b. value.Int (cond b (pos 1) (pos 0)))
      (found_tests x.store y.store (cell_of (word_at f.stack 0)) (cell_of (word_at f.stack 1)) (cell_of (word_at g.stack 0)) (cell_of (word_at g.stack 1))
      paired.store.orderly paired.store.other_orderly (operand_now 0) (operand_now 1))
