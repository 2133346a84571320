-- What holders hold stays where a store changes but for objects that none of them has.
use Rattle.std.proofs.Common.{◌≡◌, ◌≢◌, ℕ, ◌<◌, Bool, true, false, List, [], ◌∷◌, length, Some, Contains, refl, sym, ap, subst, ◌∙◌, get_or, ⊎_elim}
use Rattle.std.specs.List.{AllZip}
use Rattle.std.proofs.lemmas.Bool.{false≢true}
use Rattle.std.proofs.lemmas.Option.{same_Some, slice_get-get_or, slice_get_within}
use Rattle.fm_base.proofs.ContainsFacts.{Contains-cons_cases, Contains-none}
use Rattle.fm_cells.specs.Objects.{Object}
use Rattle.fm_cells.specs.Soundness.{IsOrderly}
use Rattle.fm_cells.specs.Stores.{object_at, Store}
use Rattle.fm_chain.specs.Chained.{looped_at}
use Rattle.fm_code.specs.declared.code_array.Code.{Code}
use Rattle.fm_frames.specs.Acts.{cell_of}
use Rattle.fm_frames.specs.States.{State}
use Rattle.fm_frames.specs.declared.values.Value.{Value}
use Rattle.fm_law_chained.proofs.Links.{links_stay}
use Rattle.fm_law_chained.specs.Chain.{IsChain, IsLink}
use Rattle.fm_law_held_objects.proofs.ContentsKept.{chain_same, own_has}
use Rattle.fm_law_held_objects.specs.Contents.{Has, HoldsOneOrAll}
use Rattle.fm_law_held_objects.specs.Held.{AreHeld, HolderHas}
use Rattle.fm_law_holders.specs.Holding.{HasOther, holder_value, Holding, HoldsFixed, HoldsFreeable, HoldsNull, HoldsOwn}
use Rattle.fm_law_sound.specs.Sound.{Typings}
use Rattle.fm_place.specs.Insertions.{Holder, Insertions}
use Rattle.fm_same.specs.Colours.{Colour}
use Rattle.fm_same.specs.Regions.{Own}

-- the object was held, with its birth, and might be freed if it may
pub record WasThere (store : Store) (cell : ℕ) (object : Object) : Type 0 where
  pub old : Object
  pub held : object_at store cell ≡ Some old
  pub born : old.birth ≡ object.birth
  pub fixed : old.fixed ≡ object.fixed

-- Objects of other births stay as they are, and what is held was held; those of these births may be freed.
pub record StaysBut (births : List ℕ) (store later : Store) : Type 0 where
  pub orderly : IsOrderly store
  pub later_orderly : IsOrderly later
  pub stays : (cell : ℕ) (object : Object) → object_at store cell ≡ Some object → (Contains births object.birth → ⊥) → object_at later cell ≡ Some object
  pub was : (cell : ℕ) (object : Object) → object_at later cell ≡ Some object → WasThere store cell object
  pub loose : (birth : ℕ) → Contains births birth → (cell : ℕ) × IsLink store cell birth

-- the cell of a link by its birth
pub linked_at : (store : Store) (cells births : List ℕ) → AllZip (IsLink store) cells births → (birth : ℕ) → Contains births birth → (cell : ℕ) × IsLink store cell birth
linked_at store [] [] links birth among = absurd (Contains-none birth among)
linked_at store [] (b ∷ births) links birth among = absurd links
linked_at store (cell ∷ cells) [] links birth among = absurd links
linked_at store (cell ∷ cells) (b ∷ births) (link, links) birth among =
    ⊎_elim (λ (same : birth ≡ b). (cell, subst (IsLink store cell) (sym same) link))
    (λ (later : Contains births birth). linked_at store cells births links birth later)
    (Contains-cons_cases b births birth among)

module _ (births : List ℕ) (store later : Store) (s : StaysBut births store later) where
  -- what lives for ever is none of them
  fixed_apart : (cell : ℕ) (object : Object) → object_at store cell ≡ Some object → object.fixed ≡ true → Contains births object.birth → ⊥
  fixed_apart cell object held fixed among =
      let link = s.loose object.birth among in
      let cells : cell ≡ link.0 = s.orderly.births_apart cell link.0 object link.1.object held link.1.held (sym link.1.born) in
      let same : link.1.object ≡ object = same_Some link.1.object object (sym link.1.held ∙ ap (object_at store) (sym cells) ∙ held) in
      false≢true (sym link.1.loose ∙ ap (λ (o : Object). o.fixed) same ∙ fixed)

  -- ---- one value

  chain_but : (first : ℕ) (own : List ℕ) → ((birth : ℕ) → Contains births birth → Contains own birth → ⊥) → IsChain store first own → IsChain later first own
  chain_but first own none chain =
      links_stay store later first own
      (λ cell object held among. record {
        now = object;
        held = s.stays cell object held (λ changed. none object.birth changed among);
        born = refl;
        fixed = refl;
        chain = refl;
      })
      chain

  plain_but : (colour : Colour) (depth class : ℕ) (v : Value) → ((birth : ℕ) → Contains births birth → HoldsFreeable store v birth → ⊥)
      → Holding store colour depth class v → Holding later colour depth class v
  plain_but colour depth class v none (HoldsNull null_is) = HoldsNull null_is
  plain_but colour depth class v none (HoldsFixed object held fixed) =
      HoldsFixed object (s.stays (cell_of v) object held (λ among. fixed_apart (cell_of v) object held fixed among)) fixed
  plain_but colour depth class v none (HoldsOwn object held loose own) =
      HoldsOwn object
      (s.stays (cell_of v) object held
      (λ among. none object.birth among (record { object = object; held = held; not_fixed = loose; birth_is = refl })))
      loose own

  holds_but : (looped : Bool) (colour : Colour) (depth class : ℕ) (v : Value) → ((birth : ℕ) → Contains births birth → Has looped store v birth → ⊥)
      → HoldsOneOrAll looped store colour depth class v → HoldsOneOrAll looped later colour depth class v
  holds_but false colour depth class v none holds = plain_but colour depth class v none holds
  holds_but true colour depth class v none holds = record {
    births = holds.births;
    chain = chain_but (cell_of v) holds.births
        (λ birth changed among. none birth changed (record { births = holds.births; chain = holds.chain; among = among })) holds.chain;
    once = holds.once;
    own = holds.own;
  }

  -- what it has then it had before
  has_but : (looped : Bool) (colour : Colour) (depth class : ℕ) (v : Value) (birth : ℕ) → ((b : ℕ) → Contains births b → Has looped store v b → ⊥)
      → HoldsOneOrAll looped store colour depth class v → Has looped later v birth → Has looped store v birth
  has_but false colour depth class v birth none holds has =
      let was = s.was (cell_of v) has.object has.held in
      record { object = was.old; held = was.held; not_fixed = was.fixed ∙ has.not_fixed; birth_is = was.born ∙ has.birth_is }
  has_but true colour depth class v birth none holds has = record {
    births = holds.births;
    chain = holds.chain;
    among = subst (λ own. Contains own birth)
        (chain_same later (cell_of v) has.births holds.births s.later_orderly has.chain
        (chain_but (cell_of v) holds.births
        (λ b changed among. none b changed (record { births = holds.births; chain = holds.chain; among = among })) holds.chain))
        has.among;
  }

  -- and what it had it has
  pub has_still : (looped : Bool) (v : Value) (birth : ℕ) → ((b : ℕ) → Contains births b → Has looped store v b → ⊥) → Has looped store v birth
      → Has looped later v birth
  has_still false v birth none has = record {
    object = has.object;
    held = s.stays (cell_of v) has.object has.held
        (λ among.
        none has.object.birth among (record { object = has.object; held = has.held; not_fixed = has.not_fixed; birth_is = refl }));
    not_fixed = has.not_fixed;
    birth_is = has.birth_is;
  }
  has_still true v birth none has = record {
    births = has.births;
    chain = chain_but (cell_of v) has.births
        (λ b changed among. none b changed (record { births = has.births; chain = has.chain; among = among })) has.chain;
    among = has.among;
  }

  -- what wasn't held isn't held
  pub absent_still : (birth : ℕ) → ((cell : ℕ) → HasOther store birth cell) → (cell : ℕ) → HasOther later birth cell
  absent_still birth none cell object held same =
      let was = s.was cell object held in none cell was.old was.held (was.born ∙ same)

  -- ---- all holders of a frame

  module _ (typings : Typings) (x : State) (colour : Colour) (depth : ℕ) (code : Code) (plan : Insertions) (locals : List Value)
      (none : (h birth : ℕ) → h < length plan.holders → Contains births birth → HolderHas store code plan locals h birth → ⊥)
      (had : AreHeld typings x colour depth store code plan locals) where
    pub had_but : (h birth : ℕ) → h < length plan.holders → HolderHas later code plan locals h birth → HolderHas store code plan locals h birth
    had_but h birth within has =
        let holder : Holder = get_or plan.holders h (record { site = 0; class = 0; looped = false }) in
        has_but (looped_at plan h) colour depth holder.class (holder_value code locals h) birth (λ b among theirs. none h b within among theirs)
        (had.holds h holder (slice_get-get_or plan.holders h (record { site = 0; class = 0; looped = false }) within)) has

    pub held_but : AreHeld typings x colour depth later code plan locals
    held_but = record {
      holds = λ h holder at.
          holds_but (looped_at plan h) colour depth holder.class (holder_value code locals h)
          (λ birth among theirs. none h birth (slice_get_within plan.holders h holder at) among theirs) (had.holds h holder at);
      apart = λ h other birth within inside one two. had.apart h other birth within inside (had_but h birth within one) (had_but other birth inside two);
      initialised = λ h birth within has. had.initialised h birth within (had_but h birth within has);
    }

  -- holders of another frame have none of them, where all are of the regions of this one
  module _ (typings : Typings) (x : State) (colour : Colour) (depth : ℕ) (own : (birth : ℕ) → Contains births birth → (class : ℕ) × (colour birth ≡ Own depth class))
      (other : ℕ) (code : Code) (plan : Insertions) (values : List Value) (apart : other ≢ depth) (had : AreHeld typings x colour other store code plan values) where
    others_none : (h birth : ℕ) → h < length plan.holders → Contains births birth → HolderHas store code plan values h birth → ⊥
    others_none h birth within among has =
        let holder : Holder = get_or plan.holders h (record { site = 0; class = 0; looped = false }) in
        let mine = own birth among in
        let theirs : colour birth ≡ Own other holder.class =
        own_has (looped_at plan h) store colour other holder.class (holder_value code values h) birth s.orderly
        (had.holds h holder (slice_get-get_or plan.holders h (record { site = 0; class = 0; looped = false }) within)) has in
        let region : Own other holder.class ≡ Own depth mine.0 = sym theirs ∙ mine.1 in
        let depths : other ≡ depth = cc in
        apart depths

    pub others_had_but : (h birth : ℕ) → h < length plan.holders → HolderHas later code plan values h birth → HolderHas store code plan values h birth
    others_had_but h birth within has = had_but typings x colour other code plan values others_none had h birth within has

    pub others_still : (h birth : ℕ) → h < length plan.holders → HolderHas store code plan values h birth → HolderHas later code plan values h birth
    others_still h birth within has =
        has_still (looped_at plan h) (holder_value code values h) birth (λ b among theirs. others_none h b within among theirs) has

    pub others_held_but : AreHeld typings x colour other later code plan values
    others_held_but = held_but typings x colour other code plan values others_none had
