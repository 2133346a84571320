-- The second store may free any object that doesn't live for ever: it is gone from then on.
use Rattle.std.proofs.Common.{◌≡◌, ℕ, zero, suc, ◌+◌, ◌<◌, inl, inr, ◌==◌, ◌||◌, Bool, true, false, cond, List, Option, Some, None, refl, sym, ◌∙◌, ap, subst, arith, ⊎_elim}
use Rattle.std.specs.List.{AllZip}
use Rattle.std.proofs.lemmas.Bool.{cases_Bool, cases_eq, eq-eqb, eqb-true, false≢true, ne_eqb, or_cases, or_left, or_parts, or_right}
use Rattle.std.proofs.lemmas.Option.{same_Some}
use Rattle.fm_base.specs.declared.kinds.Kind.{Kind}
use Rattle.fm_base.specs.declared.kinds.Kind.TheVariants as kind
use Rattle.fm_cells.proofs.Changes.{live_words-without_object, object_at-without_object}
use Rattle.fm_cells.proofs.Elements.{freed_by-some}
use Rattle.fm_cells.proofs.Soundness.{IsOrderly-without_object}
use Rattle.fm_cells.specs.Changes.{freed_by, without_object}
use Rattle.fm_cells.specs.Objects.{Object, object_words}
use Rattle.fm_cells.specs.Stores.{live_words, object_at, Store}
use Rattle.fm_types.proofs.Zips.{zip-implied}
use Rattle.fm_world.specs.Programs.{Outline}
use Rattle.fm_frames.specs.Acts.{freed, freed_object}
use Rattle.fm_frames.specs.States.{Areas, Frame}
use Rattle.fm_frames.specs.declared.values.Value.{Value}
use Rattle.fm_frames.specs.declared.values.Value.TheVariants as value
use Rattle.fm_law_sound.specs.Placing.{kind_in}
use Rattle.fm_law_two_memories.specs.Pairing.{AreAlike, ArePaired, AreasPaired, FramesPaired, Gone, HasTwin, SameCell, SameElement, SameValue, with_gone}
use Rattle.fm_law_two_memories.specs.Results.{KeepsLimits}
use Rattle.fm_law_two_memories.proofs.Twins.{not_null}

module _ (gone : Gone) (o : Outline) (one other : Store) (paired : ArePaired gone o one other) (cell : ℕ) (object : Object) (held : object_at other cell ≡ Some object) (loose : object.fixed ≡ false) where
  abbrev more : Gone
  more = with_gone gone object

  abbrev following : Store
  following = without_object other cell object

  following_is : freed_by other cell ≡ following
  following_is = freed_by-some other cell object held ∙ ap (λ b. cond b other (without_object other cell object)) loose

  -- what is held still was held before, and isn't the object
  held_before : (q : ℕ) (found : Object) → object_at following q ≡ Some found → (object_at other q ≡ Some found) × ((q ≡ cell) → ⊥)
  held_before q found at =
      elim (cases_eq q cell) as (λ _. (object_at other q ≡ Some found) × ((q ≡ cell) → ⊥)) [
        | inl here ↦
            let no : None ≡ Some found =
            ap (λ b. cond b None (object_at other q)) (sym (eq-eqb q cell here)) ∙ sym (object_at-without_object other cell object q) ∙ at in absurd (cc)
        | inr elsewhere ↦ (
          ap (λ b. cond b None (object_at other q)) (sym (ne_eqb q cell elsewhere)) ∙ sym (object_at-without_object other cell object q) ∙ at,
          elsewhere,
        )
      ]

  -- what is held and of another birth is held still
  held_after : (q : ℕ) (found : Object) → object_at other q ≡ Some found → (found.birth == object.birth) ≡ false → object_at following q ≡ Some found
  held_after q found at apart =
      let elsewhere : (q ≡ cell) → ⊥ =
      λ here. (let same : found ≡ object = same_Some found object (sym at ∙ ap (object_at other) here ∙ held) in
      false≢true (sym apart ∙ eq-eqb found.birth object.birth (ap (λ (x : Object). x.birth) same))) in
      object_at-without_object other cell object q ∙ ap (λ b. cond b None (object_at other q)) (ne_eqb q cell elsewhere) ∙ at

  -- a cell that isn't null
  above_null : (q : ℕ) (found : Object) → object_at other q ≡ Some found → 0 < q
  above_null zero found at = absurd (not_null other zero found paired.other_orderly at refl)
  above_null (suc q) found at = omega arith

  freed_cell : (a b : ℕ) → SameCell gone one other a b → SameCell more one following a b
  freed_cell a b (inl (inl null)) = inl (inl null)
  freed_cell a b (inl (inr t)) = by_birth (t.second.birth == object.birth) refl where
    by_birth : (same : Bool) → (t.second.birth == object.birth) ≡ same → SameCell more one following a b
    by_birth true is =
        inr (record {
          object = t.object;
          held = t.held;
          gone_is = or_left (t.object.birth == object.birth) (gone.births t.object.birth)
              (eq-eqb t.object.birth object.birth (sym t.born ∙ eqb-true t.second.birth object.birth is));
          some = above_null b t.second t.twin_held;
        })
    by_birth false is =
        inl (inr (record { object = t.object; held = t.held; second = t.second; twin_held = held_after b t.second t.twin_held is; born = t.born }))
  freed_cell a b (inr lost) =
      inr (record {
        object = lost.object;
        held = lost.held;
        gone_is = or_right (lost.object.birth == object.birth) (gone.births lost.object.birth) lost.gone_is;
        some = lost.some;
      })

  freed_element : (k : Option Kind) (a b : ℕ) → SameElement gone one other k a b → SameElement more one following k a b
  freed_element (Some (kind.Ref t)) a b h = freed_cell a b h
  freed_element k a b h = h

  freed_alike : (found twin : Object) → AreAlike gone o one other found twin → AreAlike more o one following found twin
  freed_alike found twin h = record {
    class = h.class;
    birth = h.birth;
    pack = h.pack;
    fixed = h.fixed;
    len = h.len;
    units = h.units;
    elements = λ place. freed_element (kind_in o found place) _ _ (h.elements place);
  }

  freed_twin : (q : ℕ) (found : Object) → object_at one q ≡ Some found → more.births found.birth ≡ false → HasTwin more o one following found
  freed_twin q found at there =
      let apart = or_parts (found.birth == object.birth) (gone.births found.birth) there in
      let old : HasTwin gone o one other found = paired.objects q found at apart.1 in
      record {
        cell = old.cell;
        twin = old.twin;
        held = held_after old.cell old.twin old.held (ap (λ n. n == object.birth) old.alike.birth ∙ apart.0);
        alike = freed_alike found old.twin old.alike;
      }

  freed_absent : (q : ℕ) (found : Object) → object_at following q ≡ Some found → more.births found.birth ≡ false
  freed_absent q found at =
      let before = held_before q found at in
      let apart : (found.birth == object.birth) ≡ false =
      ne_eqb found.birth object.birth (λ same. before.1 (paired.other_orderly.births_apart q cell found object before.0 held same)) in
      ap (λ b. b || gone.births found.birth) apart ∙ paired.absent q found before.0

  freed_past : (birth : ℕ) → more.births birth ≡ true → birth < one.births
  freed_past birth is =
      ⊎_elim (λ same.
      let made = paired.other_orderly.born cell object held in
      let births = paired.births in
      let at : birth ≡ object.birth = eqb-true birth object.birth same in omega (arith, made, births, at))
      (λ before. paired.past birth before) (or_cases (birth == object.birth) (gone.births birth) is)

  freed_loose : (q : ℕ) (found : Object) → object_at one q ≡ Some found → more.births found.birth ≡ true → found.fixed ≡ false
  freed_loose q found at is = ⊎_elim (λ before. paired.loose q found at before) (λ there. is_object there) (cases_Bool (gone.births found.birth)) where
    -- the object's own twin in the first store
    is_object : gone.births found.birth ≡ false → found.fixed ≡ false
    is_object there =
        let old : HasTwin gone o one other found = paired.objects q found at there in
        let same : (found.birth == object.birth) ≡ true =
        ⊎_elim (λ own. own) (λ before. absurd (false≢true (sym there ∙ before))) (or_cases (found.birth == object.birth) (gone.births found.birth) is) in
        let cells : old.cell ≡ cell =
        paired.other_orderly.births_apart old.cell cell old.twin object old.held held (old.alike.birth ∙ eqb-true found.birth object.birth same) in
        let twins : old.twin ≡ object = same_Some old.twin object (sym old.held ∙ ap (object_at other) cells ∙ held) in
        sym old.alike.fixed ∙ ap (λ (x : Object). x.fixed) twins ∙ loose

  freed_to : ArePaired more o one following
  freed_to =
      let words : live_words following + object_words object ≡ live_words other = live_words-without_object other cell object held in
      record {
        births = paired.births;
        orderly = paired.orderly;
        other_orderly = IsOrderly-without_object other cell object paired.other_orderly;
        objects = freed_twin;
        absent = freed_absent;
        past = freed_past;
        loose = freed_loose;
        words = let lives = paired.words in omega (arith, words, lives);
        made_words = paired.made_words;
      }

  pub freed_paired : ArePaired (with_gone gone object) o one (freed_by other cell)
  freed_paired = subst (λ s. ArePaired (with_gone gone object) o one s) (sym following_is) freed_to

  -- ---- values and frames

  freed_value : (v w : Value) → SameValue gone one other v w → SameValue more one following v w
  freed_value value.Top w h = h
  freed_value (value.Int n) w h = h
  freed_value (value.Long n) w h = h
  freed_value (value.Ref at) w h = (h.0, h.1, freed_cell at.0 h.0 h.2)

  freed_frame : (f g : Frame) → FramesPaired gone one other f g → FramesPaired more one following f g
  freed_frame f g h = record {
    method = h.method;
    item = h.item;
    locals = zip-implied (SameValue gone one other) (SameValue more one following) freed_value f.locals g.locals h.locals;
    stack = zip-implied (SameValue gone one other) (SameValue more one following) freed_value f.stack g.stack h.stack;
  }

-- what the frames share, and the frames, once the second memory has freed an object
module _ (gone : Gone) (o : Outline) (x y : Areas) (paired : AreasPaired gone o x y) (cell : ℕ) (object : Object) (held : object_at y.store cell ≡ Some object) (loose : object.fixed ≡ false) where
  abbrev more_gone : Gone
  more_gone = with_gone gone object

  -- the areas with the object freed
  abbrev later : Areas
  later = record y {
    store = without_object y.store cell object;
    frees = y.frees + 1;
    freed_words = y.freed_words + object_words object;
  }

  freed_is : freed y cell ≡ later
  freed_is =
      ap (freed_object y cell) held
      ∙ ap (λ b. cond b y (record y { store = freed_by y.store cell; frees = y.frees + 1; freed_words = y.freed_words + object_words object })) loose
      ∙ ap (λ (s : Store). record y { store = s; frees = y.frees + 1; freed_words = y.freed_words + object_words object })
      (following_is gone o x.store y.store paired.store cell object held loose)

  -- with the limit and the budget that the store had
  pub freed_limits : KeepsLimits y.store (freed y cell).store
  freed_limits = record { limit = ap (λ (a : Areas). a.store.limit) freed_is; budget = ap (λ (a : Areas). a.store.budget) freed_is }

  later_paired : AreasPaired more_gone o x later
  later_paired = record {
    store = freed_to gone o x.store y.store paired.store cell object held loose;
    statics = zip-implied (SameValue gone x.store y.store) (SameValue more_gone x.store later.store)
        (freed_value gone o x.store y.store paired.store cell object held loose) x.statics y.statics paired.statics;
    literals = zip-implied (SameCell gone x.store y.store) (SameCell more_gone x.store later.store)
        (freed_cell gone o x.store y.store paired.store cell object held loose) x.literals y.literals paired.literals;
    started = paired.started;
  }

  pub freed_areas : AreasPaired (with_gone gone object) o x (freed y cell)
  freed_areas = subst (λ a. AreasPaired (with_gone gone object) o x a) (sym freed_is) later_paired

  pub freed_frames : (fs gs : List Frame) → AllZip (FramesPaired gone x.store y.store) fs gs
      → AllZip (FramesPaired (with_gone gone object) x.store (freed y cell).store) fs gs
  freed_frames fs gs h =
      subst (λ (a : Areas). AllZip (FramesPaired (with_gone gone object) x.store a.store) fs gs) (sym freed_is)
      (zip-implied (FramesPaired gone x.store y.store) (FramesPaired more_gone x.store later.store)
      (freed_frame gone o x.store y.store paired.store cell object held loose) fs gs h)
