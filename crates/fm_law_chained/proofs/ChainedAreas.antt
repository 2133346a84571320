-- The second memory may link an object to any cell: chains are no part of what two memories have alike.
use Rattle.std.proofs.Common.{◌≡◌, ◌⊎◌, ℕ, ◌+◌, ◌*◌, ◌≤◌, false, length, List, Some, refl, sym, ◌∙◌, ap, subst, inl, inr}
use Rattle.std.specs.Prelude.{Option, slice_index_or}
use Rattle.std.proofs.lemmas.Bool.{cases_eq}
use Rattle.std.proofs.lemmas.Option.{same_Some}
use Rattle.fm_base.specs.declared.kinds.Kind.{Kind}
use Rattle.fm_base.specs.declared.kinds.Kind.TheVariants as kind
use Rattle.fm_cells.proofs.Changes.{live_words-with_object}
use Rattle.fm_cells.proofs.Elements.{chained_by-some}
use Rattle.fm_cells.proofs.Soundness.{IsOrderly-with_object}
use Rattle.fm_cells.specs.Changes.{chained_by, with_chain, with_object}
use Rattle.fm_cells.specs.Objects.{Object}
use Rattle.fm_cells.specs.Soundness.{IsOrderly}
use Rattle.fm_cells.specs.Stores.{live_words, object_at, Store}
use Rattle.fm_frames.specs.States.{Frame}
use Rattle.fm_frames.specs.declared.values.Value.{Value}
use Rattle.fm_frames.specs.declared.values.Value.TheVariants as value
use Rattle.fm_law_chained.proofs.Links.{linked_here, linked_there}
use Rattle.fm_law_chained.specs.Laws.{ChainingKeepsPaired}
use Rattle.fm_law_sound.specs.Placing.{kind_in}
use Rattle.fm_law_two_memories.specs.Pairing.{ArePaired, FramesPaired, Gone, HasTwin, SameCell, SameElement, SameValue}
use Rattle.fm_types.proofs.Zips.{zip-implied}
use Rattle.fm_world.specs.Programs.{Outline}

-- an object is as it was but for its link
record IsButLink (store : Store) (q : ℕ) (found : Object) : Type 0 where
  now : Object
  held : object_at store q ≡ Some now
  class : now.class ≡ found.class
  birth : now.birth ≡ found.birth
  pack : now.pack ≡ found.pack
  fixed : now.fixed ≡ found.fixed
  elements : now.elements ≡ found.elements

module _ (gone : Gone) (o : Outline) (one other : Store) (paired : ArePaired gone o one other) (cell to : ℕ) (object : Object) (held : object_at other cell ≡ Some object) where
  abbrev following : Store
  following = chained_by other cell to

  following_is : chained_by other cell to ≡ with_object other cell (with_chain object to)
  following_is = chained_by-some other cell to object held

  forth : (q : ℕ) (found : Object) → object_at other q ≡ Some found → IsButLink (chained_by other cell to) q found
  forth q found at = by_cell (cases_eq q cell) where
    by_cell : (q ≡ cell) ⊎ ((q ≡ cell) → ⊥) → IsButLink (chained_by other cell to) q found
    by_cell (inl here) =
        let same : object ≡ found = same_Some object found (sym held ∙ ap (object_at other) (sym here) ∙ at) in
        record {
          now = with_chain object to;
          held = ap (object_at following) here ∙ linked_here other cell to object held;
          class = ap (λ (x : Object). x.class) same;
          birth = ap (λ (x : Object). x.birth) same;
          pack = ap (λ (x : Object). x.pack) same;
          fixed = ap (λ (x : Object). x.fixed) same;
          elements = ap (λ (x : Object). x.elements) same;
        }
    by_cell (inr elsewhere) =
        record {
          now = found;
          held = linked_there other cell to object held q elsewhere ∙ at;
          class = refl;
          birth = refl;
          pack = refl;
          fixed = refl;
          elements = refl;
        }

  -- what is held was held before, with its birth
  back : (q : ℕ) (found : Object) → object_at following q ≡ Some found → (was : Object) × (object_at other q ≡ Some was) × (was.birth ≡ found.birth)
  back q found at = by_cell (cases_eq q cell) where
    by_cell : (q ≡ cell) ⊎ ((q ≡ cell) → ⊥) → (was : Object) × (object_at other q ≡ Some was) × (was.birth ≡ found.birth)
    by_cell (inl here) =
        let same : with_chain object to ≡ found = same_Some (with_chain object to) found (sym (linked_here other cell to object held) ∙ ap (object_at following) (sym here) ∙ at) in
        (object, ap (object_at other) here ∙ held, ap (λ (x : Object). x.birth) same)
    by_cell (inr elsewhere) = (found, sym (linked_there other cell to object held q elsewhere) ∙ at, refl)

  chained_cell : (a b : ℕ) → SameCell gone one other a b → SameCell gone one following a b
  chained_cell a b (inl (inl null)) = inl (inl null)
  chained_cell a b (inl (inr t)) =
      let there = forth b t.second t.twin_held in
      inl (inr (record { object = t.object; held = t.held; second = there.now; twin_held = there.held; born = there.birth ∙ t.born }))
  chained_cell a b (inr lost) = inr lost

  chained_element : (k : Option Kind) (a b : ℕ) → SameElement gone one other k a b → SameElement gone one following k a b
  chained_element (Some (kind.Ref t)) a b h = chained_cell a b h
  chained_element k a b h = h

  chained_twin : (q : ℕ) (found : Object) → object_at one q ≡ Some found → gone.births found.birth ≡ false → HasTwin gone o one following found
  chained_twin q found at there =
      let old : HasTwin gone o one other found = paired.objects q found at there in
      let now = forth old.cell old.twin old.held in
      record {
        cell = old.cell;
        twin = now.now;
        held = now.held;
        alike = record {
          class = now.class ∙ old.alike.class;
          birth = now.birth ∙ old.alike.birth;
          pack = now.pack ∙ old.alike.pack;
          fixed = now.fixed ∙ old.alike.fixed;
          len = ap (λ (xs : List ℕ). length xs) now.elements ∙ old.alike.len;
          units = λ is. now.elements ∙ old.alike.units is;
          elements = λ place.
              subst (λ (xs : List ℕ). SameElement gone one following (kind_in o found place) (slice_index_or found.elements place 0) (slice_index_or xs place 0))
              (sym now.elements) (chained_element (kind_in o found place) _ _ (old.alike.elements place));
        };
      }

  chained_paired : ArePaired gone o one (chained_by other cell to)
  chained_paired = record {
    births = ap (λ (s : Store). s.births) following_is ∙ paired.births;
    orderly = paired.orderly;
    other_orderly = subst IsOrderly (sym following_is) (IsOrderly-with_object other cell object (with_chain object to) paired.other_orderly held refl);
    objects = chained_twin;
    absent = λ q found at. let was = back q found at in ap gone.births (sym was.2) ∙ paired.absent q was.0 was.1;
    past = paired.past;
    loose = paired.loose;
    words = ap (λ words. words + gone.words)
        (ap live_words following_is ∙ live_words-with_object other cell object (with_chain object to) held refl) ∙ paired.words;
    made_words = λ within. subst (λ n. n ≤ 2 * live_words one) (sym (ap (λ (s : Store). s.made_words) following_is)) (paired.made_words within);
  }

  chained_value : (v w : Value) → SameValue gone one other v w → SameValue gone one following v w
  chained_value value.Top w h = h
  chained_value (value.Int n) w h = h
  chained_value (value.Long n) w h = h
  chained_value (value.Ref at) w h = (h.0, h.1, chained_cell at.0 h.0 h.2)

  chained_frame : (f g : Frame) → FramesPaired gone one other f g → FramesPaired gone one following f g
  chained_frame f g h = record {
    method = h.method;
    item = h.item;
    locals = zip-implied (SameValue gone one other) (SameValue gone one following) chained_value f.locals g.locals h.locals;
    stack = zip-implied (SameValue gone one other) (SameValue gone one following) chained_value f.stack g.stack h.stack;
  }

pub chaining_keeps_paired : ChainingKeepsPaired
chaining_keeps_paired gone o x y paired cell to object held = record {
  areas = record {
    store = chained_paired gone o x.store y.store paired.store cell to object held;
    statics = zip-implied (SameValue gone x.store y.store) (SameValue gone x.store (chained_by y.store cell to))
        (chained_value gone o x.store y.store paired.store cell to object held) x.statics y.statics paired.statics;
    literals = zip-implied (SameCell gone x.store y.store) (SameCell gone x.store (chained_by y.store cell to))
        (chained_cell gone o x.store y.store paired.store cell to object held) x.literals y.literals paired.literals;
    started = paired.started;
  };
  frames = zip-implied (FramesPaired gone x.store y.store) (FramesPaired gone x.store (chained_by y.store cell to))
      (chained_frame gone o x.store y.store paired.store cell to object held);
}
