-- A holder that gets a new result holds an object of its own, which is initialised: in place of what it had, or before its chain.
use Rattle.std.proofs.Common.{◌≡◌, ◌≢◌, ◌⊎◌, ◌+◌, ◌<◌, inl, inr, ℕ, zero, suc, not, Bool, true, false, List, [], ◌∷◌, length, Option, Some, None, Contains, refl, sym, ◌∙◌, ap, subst, get_or, slice_get, slice_set, ⊎_elim}
use Rattle.std.specs.List.{AllByRecursion, AllZip}
use Rattle.std.proofs.lemmas.Bool.{cases_eq, false≢true}
use Rattle.std.proofs.lemmas.Option.{none-some, same_Some, slice_get-get_or, slice_get_within}
use Rattle.fm_base.proofs.ContainsFacts.{Contains-cons_cases, Contains-none}
use Rattle.fm_cells.specs.Changes.{chained_by, with_chain}
use Rattle.fm_cells.specs.Objects.{Object}
use Rattle.fm_cells.specs.Soundness.{IsOrderly}
use Rattle.fm_cells.specs.Stores.{object_at, Store}
use Rattle.fm_chain.specs.Chained.{looped_at}
use Rattle.fm_code.proofs.EdgesLemmas.{Contains-first, Contains-later}
use Rattle.fm_code.specs.declared.code_array.Code.{Code}
use Rattle.fm_conn.specs.Facts.{Facts}
use Rattle.fm_frames.specs.Acts.{cell_of}
use Rattle.fm_frames.specs.States.{Areas, Frame, ref, State, word_at}
use Rattle.fm_frames.specs.declared.values.Value.{Value}
use Rattle.fm_law_chained.proofs.ChainedAreas.{chaining_keeps_paired}
use Rattle.fm_law_chained.proofs.Links.{chains_are_linked, linked_here, linked_there}
use Rattle.fm_law_chained.specs.Laws.{StaysPaired}
use Rattle.fm_law_held_objects.proofs.ContentsBut.{absent_still, had_but, has_still, held_but, others_had_but, others_held_but, others_still, StaysBut, WasThere}
use Rattle.fm_law_held_objects.proofs.ContentsKept.{chain_same, has_at, has_before, has_joined, holds_joined, own_has}
use Rattle.fm_law_held_objects.proofs.Holdings.{own_of}
use Rattle.fm_law_held_objects.proofs.HolderSet.{gets_here, gets_there, has_here, has_there, set_held}
use Rattle.fm_law_held_objects.specs.Contents.{Has, HasInChain, HoldsOneOrAll, HoldsAll}
use Rattle.fm_law_held_objects.specs.Forth.{KeepingLinksChains, ChainsAreKept}
use Rattle.fm_law_held_objects.specs.Held.{AreHeld, HolderHas}
use Rattle.fm_law_held_objects.specs.Initialised.{AreNotFor, FrameIsNotFor, IsInitialised, IsNotFor}
use Rattle.fm_law_held_objects.specs.Keeping.{HoldersKeep}
use Rattle.fm_law_held_objects.specs.Laws.{KeepingKeepsHeld}
use Rattle.fm_law_holders.specs.Holding.{HasOther, holder_value, Holding, IsUnshared, HoldsFreeable, HoldsOwn}
use Rattle.fm_law_holders.specs.Laws.{NewResultsAreUnheld}
use Rattle.fm_law_holders.specs.NewResults.{GoesOnBehind, HasNewResult, IsDone, IsReturnedTo, KeepsObjects}
use Rattle.fm_law_holders.specs.Uninitialised.{AreMadeIn, Made}
use Rattle.fm_law_two_memories.specs.Pairing.{AreasPaired, Gone}
use Rattle.fm_law_unwoven.specs.Doing.{areas_after, joins_in, locals_after, may_join}
use Rattle.fm_law_unwoven.specs.Laid.{to_keep}
use Rattle.fm_place.specs.Insertions.{Holder, Insertions}
use Rattle.fm_place.specs.Woven.{local_of}
use Rattle.fm_same.specs.Colours.{Colour}
use Rattle.fm_same.specs.Regions.{Own}
use Rattle.fm_types.specs.States.{TypeState}
use Rattle.fm_types.specs.Typed.{state_at}
use Rattle.fm_types.specs.declared.slots.Slot.{Slot}
use Rattle.fm_types.specs.declared.slots.Slot.TheVariants as slot
use Rattle.fm_world.specs.Programs.{Outline, Program}

-- ---- what is initialised isn't shared

placed : (store : Store) (birth : ℕ) (xs : List Slot) (values : List Value) (n item : ℕ) (v : Value) → AllZip (IsNotFor store birth) xs values
    → slice_get xs n ≡ Some (slot.Uninit item) → slice_get values n ≡ Some v → HasOther store birth (cell_of v)
placed store birth [] values n item v each at found = absurd (cc)
placed store birth (s ∷ xs) [] n item v each at found = absurd each
placed store birth (s ∷ xs) (u ∷ values) zero item v each at found =
    let one : s ≡ slot.Uninit item = same_Some s (slot.Uninit item) at in
    let two : u ≡ v = same_Some u v found in
    subst (λ a. IsNotFor store birth (slot.Uninit item) a) two (subst (λ t. IsNotFor store birth t u) one each.0)
placed store birth (s ∷ xs) (u ∷ values) (suc n) item v each at found = placed store birth xs values n item v each.1 at found

frame_unshared : (facts : Facts) (store : Store) (known : TypeState) (f : Frame) (birth : ℕ) → AreNotFor store birth known f → IsUnshared facts store known f birth
frame_unshared facts store known f birth h = record {
  in_locals = λ k item v at found live. placed store birth known.locals f.locals k item v h.in_locals at found;
  in_stack = λ n item v at found. placed store birth _ f.stack n item v h.in_stack at found;
}

-- the frame that a step goes on in is one of the state's
unshared : (p : Program) (facts : Facts) (x : State) (known : TypeState) (f : Frame) (callers : List Frame) (birth : ℕ)
    → state_at (facts.typing f.method) f.item ≡ Some known → GoesOnBehind p x f callers → IsInitialised facts.typing x birth
    → IsUnshared facts x.areas.store known f birth
unshared p facts x known f callers birth at (IsDone frames falls) h =
    frame_unshared facts x.areas.store known f birth
    ((subst (AllByRecursion (FrameIsNotFor facts.typing x.areas.store birth)) frames h).0 known at)
unshared p facts x known f callers birth at (IsReturnedTo above words frames no_start returns) h =
    frame_unshared facts x.areas.store known f birth
    ((subst (AllByRecursion (FrameIsNotFor facts.typing x.areas.store birth)) frames h).1.0 known at)

-- ---- what joins a chain

-- the cell of what joins one has an object that may be freed
record Joins (store : Store) (cell : ℕ) : Type 0 where
  object : Object
  held : object_at store cell ≡ Some object
  loose : object.fixed ≡ false

joins_object : (store : Store) (cell : ℕ) → joins_in store cell ≡ true → Joins store cell
joins_object store zero is = absurd (false≢true is)
joins_object store (suc cell) is = by_object (object_at store (suc cell)) refl is where
  by_fixed : (object : Object) → object_at store (suc cell) ≡ Some object → (b : Bool) → object.fixed ≡ b → not b ≡ true → Joins store (suc cell)
  by_fixed object held true fixed joins = absurd (false≢true joins)
  by_fixed object held false loose joins = record { object = object; held = held; loose = loose }

  by_object : (found : Option Object) → object_at store (suc cell) ≡ found → may_join found ≡ true → Joins store (suc cell)
  by_object None none joins = absurd (false≢true joins)
  by_object (Some object) held joins = by_fixed object held object.fixed refl joins

loose_joins : (store : Store) → IsOrderly store → (cell : ℕ) (object : Object) → object_at store cell ≡ Some object → object.fixed ≡ false
    → joins_in store cell ≡ true
loose_joins store orderly zero object held loose = absurd (none-some object (sym orderly.null_not_held ∙ held))
loose_joins store orderly (suc cell) object held loose = ap may_join held ∙ ap not loose

-- a link changes the object alone, and not its birth
module _ (store : Store) (orderly : IsOrderly store) (cell to : ℕ) (object : Object) (held : object_at store cell ≡ Some object) (loose : object.fixed ≡ false)
    (later_orderly : IsOrderly (chained_by store cell to)) where
  stays_there : (q : ℕ) (found : Object) → object_at store q ≡ Some found → (Contains (object.birth ∷ []) found.birth → ⊥)
      → object_at (chained_by store cell to) q ≡ Some found
  stays_there q found there away = linked_there store cell to object held q elsewhere ∙ there where
    elsewhere : (q ≡ cell) → ⊥
    elsewhere here =
        let same : found ≡ object = same_Some found object (sym there ∙ ap (object_at store) here ∙ held) in
        away (Contains-first object.birth [] found.birth (ap (λ (o : Object). o.birth) same))

  was_there : (q : ℕ) (found : Object) → object_at (chained_by store cell to) q ≡ Some found → WasThere store q found
  was_there q found there = ⊎_elim
      (λ (here : q ≡ cell).
      let same : with_chain object to ≡ found =
      same_Some (with_chain object to) found (sym (linked_here store cell to object held) ∙ ap (object_at (chained_by store cell to)) (sym here) ∙ there) in
      record {
        old = object;
        held = ap (object_at store) here ∙ held;
        born = ap (λ (o : Object). o.birth) same;
        fixed = ap (λ (o : Object). o.fixed) same;
      })
      (λ (away : q ≢ cell). record { old = found; held = sym (linked_there store cell to object held q away) ∙ there; born = refl; fixed = refl })
      (cases_eq q cell)

  but_one : StaysBut (object.birth ∷ []) store (chained_by store cell to)
  but_one = record {
    orderly = orderly;
    later_orderly = later_orderly;
    stays = stays_there;
    was = was_there;
    loose = λ birth among. ⊎_elim
        (λ (same : birth ≡ object.birth). (cell, record { object = object; held = held; loose = loose; born = sym same }))
        (λ (later : Contains [] birth). absurd (Contains-none birth later))
        (Contains-cons_cases object.birth [] birth among);
  }

-- ---- a holder gets it

module _ (unheld : NewResultsAreUnheld) (p : Program) (facts : Facts) (x next : State) (colour other : Colour) (made : Made) (known : TypeState) (f : Frame) (callers : List Frame)
    (goes : GoesOnBehind p x f callers) (known_is : state_at (facts.typing f.method) f.item ≡ Some known) (r : HasNewResult facts x next colour known f callers)
    (orderly : IsOrderly next.areas.store) (are : AreMadeIn x.areas.store made known f) (gone : Gone) (o : Outline) (before : Store) (y : Areas)
    (before_orderly : IsOrderly before) (paired : AreasPaired gone o next.areas y) (births : before.births ≡ x.areas.store.births)
    (stays : KeepsObjects before y.store) (code : Code) (plan : Insertions) (locals : List Value)
    (had : AreHeld facts.typing x colour (length callers) before code plan locals)
    (have : AreHeld facts.typing next other (length callers) y.store code plan locals) (width : length locals ≡ code.max_locals + length plan.holders)
    (kept : ℕ) (holder : Holder) (at : slice_get plan.holders kept ≡ Some holder) (stack : List Value)
    (holding : Holding y.store other (length callers) holder.class (word_at stack 0))
    (leads : (birth : ℕ) → HoldsFreeable y.store (word_at stack 0) birth → HoldsFreeable next.areas.store r.result birth)
    (fresh : (birth : ℕ) → HoldsFreeable next.areas.store r.result birth → IsInitialised facts.typing next birth) where
  abbrev depth : ℕ
  depth = length callers

  abbrev w : Value
  w = word_at stack 0

  abbrev own_value : Value
  own_value = holder_value code locals kept

  abbrev later_orderly : IsOrderly y.store
  later_orderly = paired.store.other_orderly

  inside : kept < length plan.holders
  inside = slice_get_within plan.holders kept holder at

  -- no holder has what is given
  other_has : (h birth : ℕ) → h < length plan.holders → HoldsFreeable y.store (word_at stack 0) birth → HolderHas y.store code plan locals h birth → ⊥
  other_has h birth within mine theirs =
      let any : Holder = record { site = 0; class = 0; looped = false } in
      let class : ℕ = (get_or plan.holders h any).class in
      let holds : HoldsOneOrAll (looped_at plan h) before colour depth class (holder_value code locals h) =
      had.holds h (get_or plan.holders h any) (slice_get-get_or plan.holders h any within) in
      let was : HolderHas before code plan locals h birth =
      has_before before y.store later_orderly stays (looped_at plan h) colour depth class (holder_value code locals h) birth holds theirs in
      let link = has_at (looped_at plan h) before (holder_value code locals h) birth was in
      let own : colour birth ≡ Own depth class =
      own_has (looped_at plan h) before colour depth class (holder_value code locals h) birth before_orderly holds was in
      unheld facts x next colour made known f callers r orderly are before before_orderly births class (ref link.0)
      (HoldsOwn link.1.object link.1.held link.1.loose (ap colour link.1.born ∙ own))
      (λ b may.
      let same : birth ≡ b =
      sym link.1.born ∙ ap (λ (a : Object). a.birth) (same_Some link.1.object may.object (sym link.1.held ∙ may.held)) ∙ may.birth_is in
      unshared p facts x known f callers b known_is goes (subst (IsInitialised facts.typing x) same (had.initialised h birth within was)))
      birth (leads birth mine) (record { object = link.1.object; held = link.1.held; not_fixed = link.1.loose; birth_is = link.1.born })

  abbrev Kept : Areas → List Value → Type 0
  Kept later values = HoldersKeep o facts.typing next other (length callers) code plan (kept ∷ []) (word_at stack 0) gone y later locals values

  abbrev Forth : Areas → List Value → Type 0
  Forth later values = ChainsAreKept facts.typing next other (length callers) code plan (kept ∷ []) (word_at stack 0) y later locals values

  -- ---- in place of what it had

  plain_kept : looped_at plan kept ≡ false → Kept y (slice_set locals (local_of code kept) (word_at stack 0))
  plain_kept is = record {
    paired = paired;
    frames = λ fs gs are. are;
    words = refl;
    held = set_held y.store code plan locals width kept inside w facts.typing next other depth have
        (λ found there. subst (λ looped. HoldsOneOrAll looped y.store other depth found.class w) (sym is)
        (subst (λ (k : Holder). Holding y.store other depth k.class w) (same_Some holder found (sym at ∙ there)) holding))
        (λ birth has. fresh birth (leads birth (as_freeable birth has)))
        (λ h birth within away has theirs. other_has h birth within (as_freeable birth has) theirs);
    others = λ other_depth second inserted values apart there. there;
    had = λ h birth within has. ⊎_elim
        (λ (same : h ≡ kept).
        inr (Contains-first kept [] h same, as_freeable birth (has_here y.store code plan locals width kept inside w h birth same has)))
        (λ (away : h ≢ kept). inl (has_there y.store code plan locals width kept inside w h birth away has))
        (cases_eq h kept);
    others_had = λ other_depth second inserted values apart there h birth within has. has;
  } where
    as_freeable : (birth : ℕ) → Has (looped_at plan kept) y.store (word_at stack 0) birth → HoldsFreeable y.store (word_at stack 0) birth
    as_freeable birth has = subst (λ looped. Has looped y.store (word_at stack 0) birth) is has

  -- ---- nothing joins its chain

  same_kept : Kept y (slice_set locals (local_of code kept) (holder_value code locals kept))
  same_kept = record {
    paired = paired;
    frames = λ fs gs are. are;
    words = refl;
    held = set_held y.store code plan locals width kept inside own_value facts.typing next other depth have
        (λ found there. have.holds kept found there)
        (λ birth has. have.initialised kept birth inside has)
        (λ h birth within away has theirs. away (have.apart h kept birth within inside theirs has));
    others = λ other_depth second inserted values apart there. there;
    had = λ h birth within has. inl (⊎_elim
        (λ (same : h ≡ kept).
        subst (λ n. HolderHas y.store code plan locals n birth) (sym same)
        (has_here y.store code plan locals width kept inside own_value h birth same has))
        (λ (away : h ≢ kept). has_there y.store code plan locals width kept inside own_value h birth away has)
        (cases_eq h kept));
    others_had = λ other_depth second inserted values apart there h birth within has. has;
  }

  -- ---- what becomes of what chains had

  only_kept : (h : ℕ) → Contains (kept ∷ []) h → h ≡ kept
  only_kept h among = ⊎_elim (λ (same : h ≡ kept). same) (λ (later : Contains [] h). absurd (Contains-none h later)) (Contains-cons_cases kept [] h among)

  plain_forth : looped_at plan kept ≡ false → Forth y (slice_set locals (local_of code kept) (word_at stack 0))
  plain_forth is = record {
    stays = λ h birth within loops has.
        gets_there y.store code plan locals width kept inside w h birth (λ same. unlike h same loops) has;
    gets = λ h birth among loops may. absurd (unlike h (only_kept h among) loops);
    others = λ other_depth second inserted values apart there h birth within has. has;
    absent = λ birth none_of cell_at. none_of cell_at;
  } where
    unlike : (h : ℕ) → h ≡ kept → looped_at plan h ≡ true → ⊥
    unlike h same loops = false≢true (sym is ∙ ap (looped_at plan) (sym same) ∙ loops)

  -- what may be freed joins a chain
  may_joins : (birth : ℕ) → HoldsFreeable y.store (word_at stack 0) birth → joins_in y.store (cell_of (word_at stack 0)) ≡ true
  may_joins birth may = loose_joins y.store later_orderly (cell_of w) may.object may.held may.not_fixed

  same_forth : joins_in y.store (cell_of (word_at stack 0)) ≡ false
      → Forth y (slice_set locals (local_of code kept) (holder_value code locals kept))
  same_forth is = record {
    stays = λ h birth within loops has. ⊎_elim
        (λ (same : h ≡ kept).
        gets_here y.store code plan locals width kept inside own_value h birth same
        (subst (λ n. HolderHas y.store code plan locals n birth) same has))
        (λ (away : h ≢ kept). gets_there y.store code plan locals width kept inside own_value h birth away has)
        (cases_eq h kept);
    gets = λ h birth among loops may. absurd (false≢true (sym is ∙ may_joins birth may));
    others = λ other_depth second inserted values apart there h birth within has. has;
    absent = λ birth none_of cell_at. none_of cell_at;
  }

  -- ---- before its chain

  module _ (is : looped_at plan kept ≡ true) (j : Joins y.store (cell_of (word_at stack 0))) where
    abbrev cell : ℕ
    cell = cell_of (word_at stack 0)

    abbrev to : ℕ
    to = cell_of (holder_value code locals kept)

    abbrev following : Store
    following = chained_by y.store (cell_of (word_at stack 0)) (cell_of (holder_value code locals kept))

    abbrev one : List ℕ
    one = j.object.birth ∷ []

    given : HoldsFreeable y.store (word_at stack 0) j.object.birth
    given = record { object = j.object; held = j.held; not_fixed = j.loose; birth_is = refl }

    own : other j.object.birth ≡ Own (length callers) holder.class
    own = own_of y.store other depth holder.class w j.object.birth later_orderly holding given

    -- both memories stay paired
    pairs : StaysPaired gone o next.areas y (cell_of (word_at stack 0)) (cell_of (holder_value code locals kept))
    pairs = chaining_keeps_paired gone o next.areas y paired cell to j.object j.held

    but : StaysBut (j.object.birth ∷ []) y.store (chained_by y.store (cell_of (word_at stack 0)) (cell_of (holder_value code locals kept)))
    but = but_one y.store later_orderly cell to j.object j.held j.loose pairs.areas.store.other_orderly

    only : (birth : ℕ) → Contains (j.object.birth ∷ []) birth → birth ≡ j.object.birth
    only birth among = ⊎_elim
        (λ (same : birth ≡ j.object.birth). same)
        (λ (later : Contains [] birth). absurd (Contains-none birth later))
        (Contains-cons_cases j.object.birth [] birth among)

    none : (h birth : ℕ) → h < length plan.holders → Contains (j.object.birth ∷ []) birth → HolderHas y.store code plan locals h birth → ⊥
    none h birth within among theirs =
        other_has h j.object.birth within given (subst (HolderHas y.store code plan locals h) (only birth among) theirs)

    region : (birth : ℕ) → Contains (j.object.birth ∷ []) birth → (class : ℕ) × (other birth ≡ Own (length callers) class)
    region birth among = (holder.class, ap other (only birth among) ∙ own)

    linked : AreHeld facts.typing next other (length callers) following code plan locals
    linked = held_but one y.store following but facts.typing next other depth code plan locals none have

    -- its objects are those that it had, and the one that is given
    all_had : HoldsAll y.store other (length callers) holder.class (holder_value code locals kept)
    all_had = subst (λ looped. HoldsOneOrAll looped y.store other depth holder.class own_value) is (have.holds kept holder at)

    away : Contains all_had.births j.object.birth → ⊥
    away among =
        other_has kept j.object.birth inside given
        (subst (λ looped. Has looped y.store own_value j.object.birth) (sym is)
        (record { births = all_had.births; chain = all_had.chain; among = among }))

    all_now : HoldsAll following other (length callers) holder.class (word_at stack 0)
    all_now = holds_joined y.store other depth holder.class own_value w j.object j.held j.loose own all_had away

    now_has : (birth : ℕ) → Has (looped_at plan kept) following (word_at stack 0) birth → (birth ≡ j.object.birth) ⊎ HolderHas y.store code plan locals kept birth
    now_has birth has =
        ⊎_elim (λ (same : birth ≡ j.object.birth). inl same)
        (λ (later : Contains all_had.births birth).
        inr (subst (λ looped. Has looped y.store own_value birth) (sym is) (record { births = all_had.births; chain = all_had.chain; among = later })))
        (has_joined y.store other depth holder.class own_value w j.object j.held j.loose all_had away pairs.areas.store.other_orderly birth
        (subst (λ looped. Has looped following w birth) is has))

    given_now : (birth : ℕ) → birth ≡ j.object.birth → HoldsFreeable following (word_at stack 0) birth
    given_now birth same =
        record { object = with_chain j.object to; held = linked_here y.store cell to j.object j.held; not_fixed = j.loose; birth_is = sym same }

    back : (h birth : ℕ) → h < length plan.holders → HolderHas following code plan locals h birth → HolderHas y.store code plan locals h birth
    back h birth within has = had_but one y.store following but facts.typing next other depth code plan locals none have h birth within has

    joined_kept : Kept (record y { store = chained_by y.store (cell_of (word_at stack 0)) (cell_of (holder_value code locals kept)) })
        (slice_set locals (local_of code kept) (word_at stack 0))
    joined_kept = record {
      paired = pairs.areas;
      frames = pairs.frames;
      words = refl;
      held = set_held following code plan locals width kept inside w facts.typing next other depth linked
          (λ found there. subst (λ looped. HoldsOneOrAll looped following other depth found.class w) (sym is)
          (subst (λ (k : Holder). HoldsAll following other depth k.class w) (same_Some holder found (sym at ∙ there)) all_now))
          (λ birth has. ⊎_elim
          (λ (same : birth ≡ j.object.birth). subst (IsInitialised facts.typing next) (sym same) (fresh j.object.birth (leads j.object.birth given)))
          (λ (theirs : HolderHas y.store code plan locals kept birth). have.initialised kept birth inside theirs)
          (now_has birth has))
          (λ h birth within apart has theirs. ⊎_elim
          (λ (same : birth ≡ j.object.birth).
          other_has h j.object.birth within given (subst (HolderHas y.store code plan locals h) same (back h birth within theirs)))
          (λ (mine : HolderHas y.store code plan locals kept birth). apart (have.apart h kept birth within inside (back h birth within theirs) mine))
          (now_has birth has));
      others = λ other_depth second inserted values apart there.
          others_held_but one y.store following but facts.typing next other depth region other_depth second inserted values apart there;
      had = λ h birth within has. ⊎_elim
          (λ (same : h ≡ kept). ⊎_elim
          (λ (new : birth ≡ j.object.birth). inr (Contains-first kept [] h same, given_now birth new))
          (λ (theirs : HolderHas y.store code plan locals kept birth).
          inl (subst (λ n. HolderHas y.store code plan locals n birth) (sym same) theirs))
          (now_has birth (has_here following code plan locals width kept inside w h birth same has)))
          (λ (apart : h ≢ kept). inl (back h birth within (has_there following code plan locals width kept inside w h birth apart has)))
          (cases_eq h kept);
      others_had = λ other_depth second inserted values apart there h birth within has.
          others_had_but one y.store following but facts.typing next other depth region other_depth second inserted values apart there h birth within has;
    }

    -- ---- and what becomes of what chains had

    in_chain : (birth : ℕ) → (birth ≡ j.object.birth) ⊎ Contains all_had.births birth → Has (looped_at plan kept) following (word_at stack 0) birth
    in_chain birth either =
        subst (λ looped. Has looped following w birth) (sym is)
        (record {
          births = j.object.birth ∷ all_had.births;
          chain = chains_are_linked y.store cell to j.object all_had.births j.held j.loose away all_had.chain;
          among = ⊎_elim (λ (same : birth ≡ j.object.birth). Contains-first j.object.birth all_had.births birth same)
              (λ (later : Contains all_had.births birth). Contains-later j.object.birth all_had.births birth later) either;
        })

    among_had : (birth : ℕ) → HasInChain y.store (holder_value code locals kept) birth → Contains all_had.births birth
    among_had birth has =
        subst (λ births. Contains births birth) (chain_same y.store to has.births all_had.births later_orderly has.chain all_had.chain) has.among

    own_still : (birth : ℕ) → HolderHas y.store code plan locals kept birth → Has (looped_at plan kept) following (word_at stack 0) birth
    own_still birth has = in_chain birth (inr (among_had birth (subst (λ looped. Has looped y.store own_value birth) is has)))

    given_is : (birth : ℕ) → HoldsFreeable y.store (word_at stack 0) birth → birth ≡ j.object.birth
    given_is birth may = sym may.birth_is ∙ ap (λ (a : Object). a.birth) (same_Some may.object j.object (sym may.held ∙ j.held))

    joined_forth : Forth (record y { store = chained_by y.store (cell_of (word_at stack 0)) (cell_of (holder_value code locals kept)) })
        (slice_set locals (local_of code kept) (word_at stack 0))
    joined_forth = record {
      stays = λ h birth within loops has. ⊎_elim
          (λ (same : h ≡ kept).
          gets_here following code plan locals width kept inside w h birth same
          (own_still birth (subst (λ n. HolderHas y.store code plan locals n birth) same has)))
          (λ (apart : h ≢ kept).
          gets_there following code plan locals width kept inside w h birth apart
          (has_still one y.store following but (looped_at plan h) (holder_value code locals h) birth (λ b among theirs. none h b within among theirs) has))
          (cases_eq h kept);
      gets = λ h birth among loops may.
          gets_here following code plan locals width kept inside w h birth (only_kept h among) (in_chain birth (inl (given_is birth may)));
      others = λ other_depth second inserted values apart there h birth within has.
          others_still one y.store following but facts.typing next other depth region other_depth second inserted values apart there h birth within has;
      absent = λ birth none_of cell_at. absent_still one y.store following but birth none_of cell_at;
    }

  -- ---- however it is kept

  kept_by : (looped joins : Bool) → looped_at plan kept ≡ looped → joins_in y.store (cell_of (word_at stack 0)) ≡ joins
      → Kept (areas_after code stack locals (to_keep looped joins kept) y) (locals_after code stack (to_keep looped joins kept) locals)
  kept_by false joins is joins_is = plain_kept is
  kept_by true false is joins_is = same_kept
  kept_by true true is joins_is = joined_kept is (joins_object y.store (cell_of w) joins_is)

  pub keeps : Kept (areas_after code stack locals (to_keep (looped_at plan kept) (joins_in y.store (cell_of (word_at stack 0))) kept) y)
      (locals_after code stack (to_keep (looped_at plan kept) (joins_in y.store (cell_of (word_at stack 0))) kept) locals)
  keeps = kept_by (looped_at plan kept) (joins_in y.store (cell_of w)) refl refl

  forth_by : (looped joins : Bool) → looped_at plan kept ≡ looped → joins_in y.store (cell_of (word_at stack 0)) ≡ joins
      → Forth (areas_after code stack locals (to_keep looped joins kept) y) (locals_after code stack (to_keep looped joins kept) locals)
  forth_by false joins is joins_is = plain_forth is
  forth_by true false is joins_is = same_forth joins_is
  forth_by true true is joins_is = joined_forth is (joins_object y.store (cell_of w) joins_is)

  pub links : Forth (areas_after code stack locals (to_keep (looped_at plan kept) (joins_in y.store (cell_of (word_at stack 0))) kept) y)
      (locals_after code stack (to_keep (looped_at plan kept) (joins_in y.store (cell_of (word_at stack 0))) kept) locals)
  links = forth_by (looped_at plan kept) (joins_in y.store (cell_of w)) refl refl

pub keeping_keeps_held : NewResultsAreUnheld → KeepingKeepsHeld
keeping_keeps_held unheld p facts x next colour other made known f callers goes known_is r orderly are gone o before y before_orderly paired births stays code plan locals had have width kept holder at stack holding leads fresh =
    keeps unheld p facts x next colour other made known f callers goes known_is r orderly are gone o before y before_orderly paired births stays code plan
    locals had have width kept holder at stack holding leads fresh

pub keeping_links_chains : NewResultsAreUnheld → KeepingLinksChains
keeping_links_chains unheld p facts x next colour other made known f callers goes known_is r orderly are gone o before y before_orderly paired births stays code plan locals had have width kept holder at stack holding leads fresh =
    links unheld p facts x next colour other made known f callers goes known_is r orderly are gone o before y before_orderly paired births stays code plan
    locals had have width kept holder at stack holding leads fresh
