-- All actions of a step, one after the other, lead paired areas to paired areas, or the second store is full.
use Rattle.std.proofs.Common.{◌≡◌, ℕ, ◌+◌, ◌^◌, ◌<◌, ◌≤◌, inl, inr, ◌||◌, Bool, true, false, cond, List, [], ◌∷◌, ◌++◌, length, Option, Some, None, refl, sym, ◌∙◌, ap, subst, slice_get, slice_index_or, slice_set, arith}
use Rattle.std.specs.List.{AllByRecursion, AllZip}
use Rattle.std.specs.Option.{unwrap_or}
use Rattle.std.proofs.lemmas.List.Elements.{AllZip-push, length_all_zip}
use Rattle.std.proofs.lemmas.Option.{get_or_from_slice_get, same_Some}
use Rattle.fm_base.specs.declared.kinds.Kind.{Kind}
use Rattle.fm_base.specs.declared.kinds.TypeRef.{TypeRef}
use Rattle.fm_base.specs.declared.limits.TheConstants.{MAX_LIVE_WORDS}
use Rattle.fm_cells.proofs.Elements.{elements_at-some, put_by-none, put_by-some}
use Rattle.fm_cells.specs.Changes.{Choice, made_by, put_by, RefuseStore, Take, with_element}
use Rattle.fm_cells.proofs.Choices.{lawful_choice-may}
use Rattle.fm_cells.specs.Choices.{lawful, MayReuse}
use Rattle.fm_cells.proofs.StoreLaws.{live_words-put_by}
use Rattle.fm_cells.specs.Objects.{Object, Request, request_words}
use Rattle.fm_cells.specs.Stores.{elements_at, live_words, object_at, Store}
use Rattle.fm_types.proofs.Zips.{zip-implied, zip-set}
use Rattle.fm_world.specs.Members.{size_of}
use Rattle.fm_world.specs.Programs.{kind_at, Outline}
use Rattle.fm_frames.specs.Acts.{cell_of, Choose, copied, FullAt, is_there, literal_made, literal_text, literal_type, made_then, performed, Performed, put_value, requested, set_static, value_of, with_content}
use Rattle.fm_frames.specs.Effects.{Action, Copy, Free, FreeChain, Make, MakeFixed, MakeLiteral, OfMade, OfOperand, Put, SetChain, SetStatic, Source, Start}
use Rattle.fm_frames.specs.Elements.{is_text_type, kept}
use Rattle.fm_frames.specs.NativeRows.{resized}
use Rattle.fm_frames.specs.Literals.{literal_count}
use Rattle.fm_frames.proofs.Resized.{length-resized, resized_both}
use Rattle.fm_frames.specs.Sights.{type_numbered}
use Rattle.fm_frames.specs.States.{Areas, Frame, word_at}
use Rattle.fm_frames.specs.declared.values.Value.{Value}
use Rattle.fm_law_sound.proofs.ActsKeep.{class_set, copying, Keeps, keeps_later, literal_set, Makes, makes, makes_full, object_keeps, one_made, static_set, with_areas}
use Rattle.fm_law_sound.proofs.CellsKeep.{SameClasses}
use Rattle.fm_law_sound.specs.Acting.{ActsFit, CopyFits, MakeFits, ObjectFits, PlaceFits, ValueFits}
use Rattle.fm_law_sound.specs.Leading.{sources_of}
use Rattle.fm_law_sound.specs.Placing.{PutAgrees, ReadAgrees}
use Rattle.fm_law_sound.specs.Sound.{AreasAreSound, field_slot, static_slots}
use Rattle.fm_law_two_memories.specs.Laws.{KeepsBirths, MadeAlike}
use Rattle.fm_law_two_memories.specs.Pairing.{AreAlike, AreasPaired, FramesPaired, Gone, SameCell, SameElement, SameFound}
use Rattle.fm_law_two_memories.specs.Reading.{ActsAlike, NumberAgrees, StaticFits}
use Rattle.fm_law_two_memories.specs.Results.{ActionsKeepPaired, IsFewGone, IsTooSmall, KeepsLimits, ResultsAlike}
use Rattle.fm_law_two_memories.specs.Seeing.{IsSeen, IsThere}
use Rattle.fm_law_two_memories.proofs.ActsSame.{areas_later, cut_same, kept_same, of_kind, put_same, start_same, static_same}
use Rattle.fm_law_two_memories.proofs.Limits.{full_small, limits_filled, limits_put, limits_same, limits_then, small_before, unlimited, words_filled, words_full}
use Rattle.fm_law_two_memories.proofs.MakesSame.{filled_alike, made_alike, SameContent, stays_then}
use Rattle.fm_law_two_memories.proofs.SightsSame.{twins_alike}
use Rattle.fm_law_two_memories.proofs.SourcesSame.{number_same, source_same, word_there}
use Rattle.fm_law_two_memories.proofs.Stores.{found_later, same_zero, with_stays}
use Rattle.fm_law_two_memories.proofs.Twins.{cell_same, found_same, found_there, not_null}
use Rattle.fm_law_two_memories.proofs.WordsSame.{Fits, next_within, Room, there_same, Within, within_budgets, within_literal, within_rest, within_there}

-- ---- stores

put_stays : (store : Store) (cell place element : ℕ) → KeepsBirths store (put_by store cell place element)
put_stays store cell place element = by_object (object_at store cell) refl where
  by_object : (found : Option Object) → object_at store cell ≡ found → KeepsBirths store (put_by store cell place element)
  by_object None is = subst (KeepsBirths store) (sym (put_by-none store cell place element is)) (λ q object held. (object, held, refl))
  by_object (Some object) is =
      subst (KeepsBirths store) (sym (put_by-some store cell place element object is)) (with_stays store cell object (with_element object place element) is refl)

type_is : (o : Outline) (t : TypeRef) (len : ℕ) (content : List ℕ) (fixed : Bool) → MakeFits o t len content
    → type_numbered o (requested o t len fixed).class ≡ t
type_is o t len content fixed h =
    ap (λ n. type_numbered o (unwrap_or n 0)) h.number_is ∙ get_or_from_slice_get o.types h.number t _ h.there

module _ (gone : Gone) (few_gone : IsFewGone gone) (o : Outline) (sizes : (class : ℕ) → size_of o.classes class < 2 ^ 31) (choose second : Choose) (may : (s : Store) (request : Request) → MayReuse s request (choose s request)) (other_may : (s : Store) (request : Request) → MayReuse s request (second s request)) (one other : Store) (none : one.limit ≡ None) (few : other.budget ≤ MAX_LIVE_WORDS) (f g : Frame) (frame : FramesPaired gone one other f g) (seen : AllByRecursion (IsSeen gone o one) f.stack) where
  -- the budgets of both memories, and the words that are gone
  abbrev room : Room
  room = record { first = one.budget; second = other.budget; gone = gone.words }

  -- what is known along the actions
  pub record Along (x y : Areas) (types : List TypeRef) (made others : List ℕ) : Type 0 where
    pub keeps : Keeps o one x types made
    pub limits : KeepsLimits one x.store
    pub other_limits : KeepsLimits other y.store
    pub paired : AreasPaired gone o x y
    pub stays : KeepsBirths one x.store
    pub other_stays : KeepsBirths other y.store
    pub cells : AllZip (SameFound x.store y.store) made others

  classes_of : (x : Areas) (types : List TypeRef) (made : List ℕ) → Keeps o one x types made → SameClasses one x.store
  classes_of x types made h cell object now was is =
      let here = h.kept cell object was in ap (λ (it : Object). it.class) (same_Some now here.0 (sym is ∙ here.1)) ∙ here.2

  -- the stores after an object is made in both
  pub record BothMade (x y : Areas) (t : TypeRef) (words : ℕ) (next following : Store) (cell twin : ℕ) : Type 0 where
    pub makes_one : Makes o x next cell t
    pub limits_now : KeepsLimits x.store next
    pub other_limits_now : KeepsLimits y.store following
    pub live : live_words following ≡ live_words y.store + words
    pub some : 0 < twin
    pub alike : MadeAlike gone o x.store y.store next following cell twin

  -- one object is made in both, with what it holds in each, or the second store is full
  pub filled_case : (R : Performed → Performed → Type 0) → ((later : Areas) (words : ℕ) (u : Performed) → IsTooSmall gone other.limit one.budget other.budget → R (FullAt later words) u)
      → (x y : Areas) (types : List TypeRef) (made others : List ℕ) (t : TypeRef) (len : ℕ) (content their_content : List ℕ) (fixed : Bool) (mine theirs : Choice)
      (follows their_follows : Areas → ℕ → Performed) → Along x y types made others
      → MayReuse x.store (requested o t len fixed) mine → MayReuse y.store (requested o t len fixed) theirs
      → Fits room (live_words y.store + request_words (requested o t len fixed))
      → ((cell : ℕ) (grows : Bool) → object_at x.store cell ≡ None
      → Makes o x (with_content (made_by x.store (requested o t len fixed) (Take cell grows)) cell content) cell t)
      → ((twin : ℕ) (other_grows : Bool) → object_at y.store twin ≡ None
      → live_words (with_content (made_by y.store (requested o t len fixed) (Take twin other_grows)) twin their_content)
      ≡ live_words y.store + request_words (requested o t len fixed))
      → ((cell twin : ℕ) (grows other_grows : Bool) → MayReuse x.store (requested o t len fixed) (Take cell grows)
      → MayReuse y.store (requested o t len fixed) (Take twin other_grows)
      → MadeAlike gone o x.store y.store (with_content (made_by x.store (requested o t len fixed) (Take cell grows)) cell content)
      (with_content (made_by y.store (requested o t len fixed) (Take twin other_grows)) twin their_content) cell twin)
      → ((next following : Store) (cell twin : ℕ) → BothMade x y t (request_words (requested o t len fixed)) next following cell twin
      → R (their_follows (record y { store = following }) twin) (follows (record x { store = next }) cell))
      → R (made_then y (requested o t len fixed) their_content theirs their_follows) (made_then x (requested o t len fixed) content mine follows)
  filled_case R full x y types made others t len content their_content fixed mine RefuseStore follows their_follows h can they within makes_one live alike rest =
      full y (request_words (requested o t len fixed)) _ (small_before gone one.budget other.budget other y.store h.other_limits
      (full_small gone few_gone o x.store y.store h.paired.store (requested o t len fixed) they (omega arith) one.budget other.budget within few))
  filled_case R full x y types made others t len content their_content fixed RefuseStore (Take twin other_grows) follows their_follows h can they within makes_one live alike rest =
      absurd (unlimited x.store (requested o t len fixed) (h.limits.limit ∙ none) can)
  filled_case R full x y types made others t len content their_content fixed (Take cell grows) (Take twin other_grows) follows their_follows h can they within makes_one live alike rest =
      let request : Request = requested o t len fixed in
      rest (with_content (made_by x.store request (Take cell grows)) cell content) (with_content (made_by y.store request (Take twin other_grows)) twin their_content)
      cell twin (record {
        makes_one = makes_one cell grows can.1;
        limits_now = limits_filled x.store request cell grows content;
        other_limits_now = limits_filled y.store request twin other_grows their_content;
        live = live twin other_grows they.1;
        some = they.0;
        alike = alike cell twin grows other_grows can they;
      })

  pub make_case : (R : Performed → Performed → Type 0) → ((later : Areas) (words : ℕ) (u : Performed) → IsTooSmall gone other.limit one.budget other.budget → R (FullAt later words) u)
      → (x y : Areas) (types : List TypeRef) (made others : List ℕ) (t : TypeRef) (len : ℕ) (content : List ℕ) (fixed : Bool) (mine theirs : Choice)
      (follows their_follows : Areas → ℕ → Performed) → Along x y types made others → MakeFits o t len content
      → MayReuse x.store (requested o t len fixed) mine → MayReuse y.store (requested o t len fixed) theirs
      → Fits room (live_words y.store + request_words (requested o t len fixed))
      → ((next following : Store) (cell twin : ℕ) → BothMade x y t (request_words (requested o t len fixed)) next following cell twin
      → R (their_follows (record y { store = following }) twin) (follows (record x { store = next }) cell))
      → R (made_then y (requested o t len fixed) content theirs their_follows) (made_then x (requested o t len fixed) content mine follows)
  make_case R full x y types made others t len content fixed mine theirs follows their_follows h fits can they within rest =
      let request : Request = requested o t len fixed in
      filled_case R full x y types made others t len content content fixed mine theirs follows their_follows h can they within
      (λ cell grows free. makes o x t len content fixed cell grows h.keeps.sound fits free)
      (λ twin other_grows free. words_filled o t y.store request twin other_grows content fits.content_fits free)
      (λ cell twin grows other_grows may_be they_may. made_alike gone o x.store y.store h.paired.store request cell twin grows other_grows may_be they_may t
      (type_is o t len content fixed fits) content fits.content_fits)
      rest

  pub either : (R : Performed → Performed → Type 0) (b d : Bool) (p q u v : Performed) → d ≡ b → (d ≡ true → R u p) → (d ≡ false → R v q) → R (cond d u v) (cond b p q)
  either R true d p q u v is first later = subst (λ c. R (cond c u v) p) (sym is) (first is)
  either R false d p q u v is first later = subst (λ c. R (cond c u v) q) (sym is) (later is)

  -- the areas with the new object, which is listed or not
  pub made_on : (x y : Areas) (types : List TypeRef) (made others : List ℕ) (t : TypeRef) (words : ℕ) (next following : Store) (cell twin : ℕ)
      → Along x y types made others → BothMade x y t words next following cell twin
      → Along (record x { store = next }) (record y { store = following }) (types ++ t ∷ []) (made ++ cell ∷ []) (others ++ twin ∷ [])
  made_on x y types made others t words next following cell twin h both = record {
    keeps = one_made o one x next types made cell t h.keeps both.makes_one;
    limits = limits_then one x.store next h.limits both.limits_now;
    other_limits = limits_then other y.store following h.other_limits both.other_limits_now;
    paired = areas_later gone o x y next following h.paired both.alike.stays both.alike.other_stays both.alike.paired;
    stays = stays_then one x.store next h.stays both.alike.stays;
    other_stays = stays_then other y.store following h.other_stays both.alike.other_stays;
    cells = AllZip-push (SameFound next following) made others cell twin
        (zip-implied (SameFound x.store y.store) (SameFound next following) (found_later gone x.store y.store next following both.alike.stays both.alike.other_stays)
        made others h.cells) both.alike.twins;
  }

  -- null leads to nothing
  null_there : (x y : Areas) (types : List TypeRef) (made others : List ℕ) → Along x y types made others → IsThere gone one 0
  null_there x y types made others h object held =
      let now = h.stays 0 object held in
      let no : None ≡ Some now.0 = sym h.paired.store.orderly.null_not_held ∙ now.1 in absurd (cc)

  -- the object that is put into, which isn't gone
  object_at_put : (x y : Areas) (types : List TypeRef) (made others : List ℕ) (source : Source) (place : ℕ) (k : Kind) → Along x y types made others
      → ObjectFits o one f types source place k
      → (now : Object) × (object_at x.store (cell_of (value_of (sources_of f x made) source)) ≡ Some now) × PlaceFits o (type_numbered o now.class) place k
      × (gone.births now.birth ≡ false) × ReadAgrees o one f.stack source × NumberAgrees o one f.stack source
  object_at_put x y types made others (OfOperand n) place k h fits =
      let cell : ℕ = cell_of (word_at f.stack n) in
      let now = h.keeps.kept cell fits.0 fits.1 in
      let still = h.stays cell fits.0 fits.1 in
      let there : gone.births now.0.birth ≡ false =
      ap (λ (it : Object). gone.births it.birth) (same_Some now.0 still.0 (sym now.1 ∙ still.1)) ∙ ap gone.births still.2
      ∙ word_there gone o one (null_there x y types made others h) f.stack n seen fits.0 fits.1 in
      (now.0, now.1, subst (λ class. PlaceFits o (type_numbered o class) place k) (sym now.2) fits.2, there, tt, tt)
  object_at_put x y types made others (OfMade n) place k h fits =
      let now = h.keeps.made_is n fits.0 fits.1 in
      let there : gone.births now.0.birth ≡ false =
      found_there gone o x.store y.store h.paired.store (slice_index_or made n 0) (slice_index_or others n 0)
      (number_same (SameFound x.store y.store) (inl (refl, refl)) made others n h.cells) now.0 now.1 in
      (now.0, now.1, subst (λ t. PlaceFits o t place k) (sym now.2) fits.2, there, tt, tt)
  object_at_put x y types made others source place k h fits = absurd fits

  -- what is copied, in both
  copied_same : (x y : Areas) (types : List TypeRef) (made others : List ℕ) (t : TypeRef) (len n : ℕ) → Along x y types made others → CopyFits o one f t len n
      → SameContent gone o x.store y.store t len (copied x.store (cell_of (word_at f.stack n)) len) (copied y.store (cell_of (word_at g.stack n)) len)
  copied_same x y types made others t len n h fits =
      let cell : ℕ = cell_of (word_at f.stack n) in
      let twin : ℕ = cell_of (word_at g.stack n) in
      let now = h.keeps.kept cell fits.object fits.held in
      let still = h.stays cell fits.object fits.held in
      let there : gone.births now.0.birth ≡ false =
      ap (λ (it : Object). gone.births it.birth) (same_Some now.0 still.0 (sym now.1 ∙ still.1)) ∙ ap gone.births still.2
      ∙ word_there gone o one (null_there x y types made others h) f.stack n seen fits.object fits.held in
      let same = source_same gone o one other f g frame seen x y made others h.paired h.stays h.other_stays (classes_of x types made h.keeps) h.cells
      (OfOperand n) tt tt in
      let cells : SameFound x.store y.store cell twin =
      found_same gone x.store y.store cell twin
      (λ found at. ap (λ (it : Object). gone.births it.birth) (same_Some found now.0 (sym at ∙ now.1)) ∙ there)
      (cell_same gone x.store y.store (word_at f.stack n) (word_at g.stack n) same) in
      let type : type_numbered o now.0.class ≡ t = ap (type_numbered o) now.2 ∙ fits.type in
      by_found cells now.0 now.1 type where
        by_found : SameFound x.store y.store (cell_of (word_at f.stack n)) (cell_of (word_at g.stack n)) → (object : Object)
            → object_at x.store (cell_of (word_at f.stack n)) ≡ Some object → type_numbered o object.class ≡ t
            → SameContent gone o x.store y.store t len (copied x.store (cell_of (word_at f.stack n)) len) (copied y.store (cell_of (word_at g.stack n)) len)
        by_found (inl null) object held type =
            absurd (not_null x.store (cell_of (word_at f.stack n)) object h.paired.store.orderly held null.0)
        by_found (inr twins) object held type =
            let cell : ℕ = cell_of (word_at f.stack n) in
            let twin : ℕ = cell_of (word_at g.stack n) in
            let is : twins.object ≡ object = same_Some twins.object object (sym twins.held ∙ held) in
            let alike : AreAlike gone o x.store y.store object twins.second =
            subst (λ it. AreAlike gone o x.store y.store it twins.second) is (twins_alike gone o x.store y.store h.paired.store cell twin twins) in
            let content : copied x.store cell len ≡ resized object.elements len =
            ap (λ elements. resized elements len) (elements_at-some x.store cell object held) in
            let their_content : copied y.store twin len ≡ resized twins.second.elements len =
            ap (λ elements. resized elements len) (elements_at-some y.store twin twins.second twins.twin_held) in
            subst (λ elements. SameContent gone o x.store y.store t len elements (copied y.store twin len)) (sym content)
            (subst (λ elements. SameContent gone o x.store y.store t len (resized object.elements len) elements) (sym their_content)
            (record {
              all = length-resized object.elements len;
              other_all = length-resized twins.second.elements len;
              units = λ text. ap (λ elements. resized elements len) (alike.units (ap (is_text_type o) type ∙ text));
              elements = λ place.
                  let k = kind_at o.classes t place in
                  resized_both (SameElement gone x.store y.store k) (same_zero gone x.store y.store k) object.elements twins.second.elements len place alike.len
                  (subst (λ found. SameElement gone x.store y.store found (slice_index_or object.elements place 0) (slice_index_or twins.second.elements place 0))
                  (ap (λ u. kind_at o.classes u place) type) (alike.elements place));
            }))

  pub literal_on : (x y : Areas) (types : List TypeRef) (made others : List ℕ) (t : TypeRef) (words text : ℕ) (next following : Store) (cell twin : ℕ)
      → Along x y types made others → BothMade x y t words next following cell twin
      → Along (literal_made (record x { store = next }) text cell) (literal_made (record y { store = following }) text twin) types made others
  literal_on x y types made others t words text next following cell twin h both =
      let later = areas_later gone o x y next following h.paired both.alike.stays both.alike.other_stays both.alike.paired in
      record {
        keeps = with_areas o sizes choose may one f (record x { store = next }) (literal_made (record x { store = next }) text cell) types made
            (keeps_later o one x next types made h.keeps both.makes_one.follows both.makes_one.sound) refl
            (literal_set o sizes choose may one f (record x { store = next }) text cell both.makes_one.sound);
        limits = limits_then one x.store next h.limits both.limits_now;
        other_limits = limits_then other y.store following h.other_limits both.other_limits_now;
        paired = record {
          store = later.store;
          statics = later.statics;
          literals = zip-set (SameCell gone next following) text cell twin x.literals y.literals (inl both.alike.twins) later.literals;
          started = later.started;
        };
        stays = stays_then one x.store next h.stays both.alike.stays;
        other_stays = stays_then other y.store following h.other_stays both.alike.other_stays;
        cells = zip-implied (SameFound x.store y.store) (SameFound next following)
            (found_later gone x.store y.store next following both.alike.stays both.alike.other_stays) made others h.cells;
      }

  module _ (x y : Areas) (types : List TypeRef) (made others : List ℕ) (h : Along x y types made others) where
    abbrev mine : Source → Value
    mine s = value_of (sources_of f x made) s

    abbrev theirs : Source → Value
    theirs s = value_of (sources_of g y others) s

    pub put_on : (object v : Source) (place : ℕ) (k : Kind) → ObjectFits o one f types object place k → ValueFits o f k v
        → PutAgrees o one f.stack (Put object place k v) → NumberAgrees o one f.stack v
        → Along (put_value x (mine object) place k (mine v)) (put_value y (theirs object) place k (theirs v)) types made others
    put_on object v place k fits value_fits agrees numbers =
        let now = object_at_put x y types made others object place k h fits in
        let classes = classes_of x types made h.keeps in
        let same = source_same gone o one other f g frame seen x y made others h.paired h.stays h.other_stays classes h.cells object now.4 now.5 in
        let next : Store = put_by x.store (cell_of (mine object)) place (kept k (mine v)) in
        let following : Store = put_by y.store (cell_of (theirs object)) place (kept k (theirs v)) in
        let stays : KeepsBirths x.store next = put_stays x.store (cell_of (mine object)) place (kept k (mine v)) in
        let other_stays : KeepsBirths y.store following = put_stays y.store (cell_of (theirs object)) place (kept k (theirs v)) in
        record {
          keeps = object_keeps o sizes choose may one f x types made object v place k h.keeps fits value_fits;
          limits = limits_then one x.store next h.limits (limits_put x.store (cell_of (mine object)) place (kept k (mine v)));
          other_limits = limits_then other y.store following h.other_limits (limits_put y.store (cell_of (theirs object)) place (kept k (theirs v)));
          paired = put_same gone o x y h.paired (mine object) (theirs object) place k now.0 now.1 now.3 now.2.kind now.2.no_text
              (cell_same gone x.store y.store (mine object) (theirs object) same) (mine v) (theirs v)
              (kept_same gone o one other f g frame seen x y made others h.paired h.stays h.other_stays classes h.cells k v
              (λ t is. subst (λ other_kind. PutAgrees o one f.stack (Put object place other_kind v)) is agrees) numbers
              (of_kind k (mine v) (value_fits x made h.keeps.sound.statics)));
          stays = stays_then one x.store next h.stays stays;
          other_stays = stays_then other y.store following h.other_stays other_stays;
          cells = zip-implied (SameFound x.store y.store) (SameFound next following)
              (found_later gone x.store y.store next following stays other_stays) made others h.cells;
        }

    pub set_on : (slot : ℕ) (k : Kind) (v : Source) → slice_get (static_slots o) slot ≡ Some (field_slot k) → StaticFits o f k v
        → PutAgrees o one f.stack (SetStatic slot k v) → NumberAgrees o one f.stack v
        → Along (set_static x slot k (mine v)) (set_static y slot k (theirs v)) types made others
    set_on slot k v fits value_fits agrees numbers = record {
      keeps = with_areas o sizes choose may one f x (set_static x slot k (mine v)) types made h.keeps refl
          (static_set o sizes choose may one f x slot k (mine v) h.keeps.sound fits);
      limits = h.limits;
      other_limits = h.other_limits;
      paired = static_same gone o x y slot k (mine v) (theirs v) h.paired
          (cut_same gone o one other f g frame seen x y made others h.paired h.stays h.other_stays (classes_of x types made h.keeps) h.cells k v
          (λ t is. subst (λ other_kind. PutAgrees o one f.stack (SetStatic slot other_kind v)) is agrees) numbers
          (value_fits x made h.keeps.sound.statics));
      stays = h.stays;
      other_stays = h.other_stays;
      cells = h.cells;
    }

    pub start_on : (class : ℕ)
        → Along (record x { started = slice_set x.started class true }) (record y { started = slice_set y.started class true }) types made others
    start_on class = record {
      keeps = with_areas o sizes choose may one f x (record x { started = slice_set x.started class true }) types made h.keeps refl
          (class_set o sizes choose may one f x class h.keeps.sound);
      limits = h.limits;
      other_limits = h.other_limits;
      paired = start_same gone o x y class h.paired;
      stays = h.stays;
      other_stays = h.other_stays;
      cells = h.cells;
    }

  -- the second memory has as many literals as the program
  pub texts_there : (x y : Areas) (types : List TypeRef) (made others : List ℕ) → Along x y types made others → (text : ℕ) → text < literal_count o
      → text < length y.literals
  texts_there x y types made others h text inside =
      let count : length x.literals ≡ literal_count o = h.keeps.sound.literals in
      let same : length x.literals ≡ length y.literals = length_all_zip (SameCell gone x.store y.store) x.literals y.literals h.paired.literals in
      omega (arith, inside, count, same)

  pub acts_alike : (actions : List Action) (x y : Areas) (types : List TypeRef) (made others : List ℕ) → Within o room y actions → ActsFit o one f types actions
      → AllByRecursion (PutAgrees o one f.stack) actions → AllByRecursion (ActsAlike o one f) actions → Along x y types made others
      → ResultsAlike gone o one other (performed o second g.locals g.stack actions y others) (performed o choose f.locals f.stack actions x made)
  unfolding performed
  acts_alike [] x y types made others within fit agrees alikes h =
      (h.paired, h.stays, h.other_stays, classes_of x types made h.keeps, h.limits, h.other_limits, h.cells)
  acts_alike (Make t len content ∷ more) x y types made others within fit agrees alikes h =
      make_case (ResultsAlike gone o one other) (λ later words u small. small) x y types made others t len content false (choose x.store (requested o t len false)) (second y.store (requested o t len false))
      (λ areas cell. performed o choose f.locals f.stack more areas (made ++ cell ∷ []))
      (λ areas cell. performed o second g.locals g.stack more areas (others ++ cell ∷ [])) h fit.0
      (may x.store (requested o t len false)) (other_may y.store (requested o t len false))
      (next_within o room y (Make t len content) more (request_words (requested o t len false)) refl (omega arith) within)
      (λ next following cell twin both. acts_alike more (record x { store = next }) (record y { store = following })
      (types ++ t ∷ []) (made ++ cell ∷ []) (others ++ twin ∷ [])
      (within_rest o room y (Make t len content) more (record y { store = following }) refl refl (omega (arith, both.live)) within)
      fit.1 agrees.1 alikes.1 (made_on x y types made others t (request_words (requested o t len false)) next following cell twin h both))
  acts_alike (MakeFixed t ∷ more) x y types made others within fit agrees alikes h =
      make_case (ResultsAlike gone o one other) (λ later words u small. small) x y types made others t 0 [] true (choose x.store (requested o t 0 true)) (second y.store (requested o t 0 true))
      (λ areas cell. performed o choose f.locals f.stack more areas (made ++ cell ∷ []))
      (λ areas cell. performed o second g.locals g.stack more areas (others ++ cell ∷ [])) h fit.0
      (may x.store (requested o t 0 true)) (other_may y.store (requested o t 0 true))
      (next_within o room y (MakeFixed t) more (request_words (requested o t 0 true)) refl (omega arith) within)
      (λ next following cell twin both. acts_alike more (record x { store = next }) (record y { store = following })
      (types ++ t ∷ []) (made ++ cell ∷ []) (others ++ twin ∷ [])
      (within_rest o room y (MakeFixed t) more (record y { store = following }) refl refl (omega (arith, both.live)) within)
      fit.1 agrees.1 alikes.1 (made_on x y types made others t (request_words (requested o t 0 true)) next following cell twin h both))
  acts_alike (MakeLiteral text ∷ more) x y types made others within fit agrees alikes h =
      let t : TypeRef = literal_type o text in
      let len : ℕ = length (literal_text o text) in
      let words : ℕ = request_words (requested o t len true) in
      either (ResultsAlike gone o one other) (is_there x text) (is_there y text) _ _ _ _ (there_same gone o x y h.paired text)
      (λ there. acts_alike more x y types made others (within_there o room y text more there within) fit.1 agrees.1 alikes.1 h)
      (λ none_there. make_case (ResultsAlike gone o one other) (λ later words u small. small) x y types made others t len (literal_text o text) true (choose x.store (requested o t len true))
      (second y.store (requested o t len true))
      (λ areas cell. performed o choose f.locals f.stack more (literal_made areas text cell) made)
      (λ areas cell. performed o second g.locals g.stack more (literal_made areas text cell) others) h fit.0
      (may x.store (requested o t len true)) (other_may y.store (requested o t len true))
      (next_within o room y (MakeLiteral text) more words (ap (λ b. cond (b || false) 0 words) none_there) (omega arith) within)
      (λ next following cell twin both. acts_alike more (literal_made (record x { store = next }) text cell)
      (literal_made (record y { store = following }) text twin) types made others
      (within_literal o y text following twin (texts_there x y types made others h text alikes.0) both.some room more none_there both.live within)
      fit.1 agrees.1 alikes.1 (literal_on x y types made others t words text next following cell twin h both)))
  acts_alike (Put object place k v ∷ more) x y types made others within fit agrees alikes h =
      let cell : ℕ = cell_of (value_of (sources_of g y others) object) in
      let element : ℕ = kept k (value_of (sources_of g y others) v) in
      acts_alike more _ (record y { store = put_by y.store cell place element }) types made others
      (within_rest o room y (Put object place k v) more (record y { store = put_by y.store cell place element }) refl refl
      (let words : live_words (put_by y.store cell place element) ≡ live_words y.store = live_words-put_by y.store cell place element in omega (arith, words)) within)
      fit.2 agrees.1 alikes.1 (put_on x y types made others h object v place k fit.0 fit.1 agrees.0 alikes.0)
  acts_alike (SetStatic slot k v ∷ more) x y types made others within fit agrees alikes h =
      let value : Value = value_of (sources_of g y others) v in
      acts_alike more _ (set_static y slot k value) types made others
      (within_rest o room y (SetStatic slot k v) more (set_static y slot k value) refl refl (omega arith) within)
      fit.1 agrees.1 alikes.1 (set_on x y types made others h slot k v fit.0 alikes.0.1 agrees.0 alikes.0.0)
  acts_alike (Start class ∷ more) x y types made others within fit agrees alikes h =
      acts_alike more _ (record y { started = slice_set y.started class true }) types made others
      (within_rest o room y (Start class) more (record y { started = slice_set y.started class true }) refl refl (omega arith) within)
      fit agrees.1 alikes.1 (start_on x y types made others h class)
  acts_alike (Free operand ∷ more) x y types made others within fit agrees alikes h = absurd alikes.0
  acts_alike (SetChain operand to ∷ more) x y types made others within fit agrees alikes h = absurd alikes.0
  acts_alike (FreeChain operand ∷ more) x y types made others within fit agrees alikes h = absurd alikes.0
  acts_alike (Copy t len n ∷ more) x y types made others within fit agrees alikes h =
      let request : Request = requested o t len false in
      let content : List ℕ = copied x.store (cell_of (word_at f.stack n)) len in
      let theirs : List ℕ = copied y.store (cell_of (word_at g.stack n)) len in
      filled_case (ResultsAlike gone o one other) (λ later words u small. small) x y types made others t len content theirs false (choose x.store request) (second y.store request)
      (λ areas cell. performed o choose f.locals f.stack more areas (made ++ cell ∷ []))
      (λ areas cell. performed o second g.locals g.stack more areas (others ++ cell ∷ [])) h
      (may x.store request) (other_may y.store request)
      (next_within o room y (Copy t len n) more (request_words request) refl (omega arith) within)
      (λ cell grows free. makes_full o x t len content false cell grows h.keeps.sound fit.0.makes (copying o one x types made f t len n h.keeps fit.0).fills free)
      (λ twin other_grows free. words_full y.store request twin other_grows theirs (length-resized (elements_at y.store (cell_of (word_at g.stack n))) len) free)
      (λ cell twin grows other_grows may_be they_may. filled_alike gone o x.store y.store h.paired.store request cell twin grows other_grows may_be they_may t
      (type_is o t len [] false fit.0.makes) content theirs (copied_same x y types made others t len n h fit.0))
      (λ next following cell twin both. acts_alike more (record x { store = next }) (record y { store = following })
      (types ++ t ∷ []) (made ++ cell ∷ []) (others ++ twin ∷ [])
      (within_rest o room y (Copy t len n) more (record y { store = following }) refl refl (omega (arith, both.live)) within)
      fit.1 agrees.1 alikes.1 (made_on x y types made others t (request_words request) next following cell twin h both))

  -- nothing is done yet
  pub begins : (x y : Areas) → x.store ≡ one → y.store ≡ other → AreasPaired gone o x y → AreasAreSound o x → Along x y [] [] []
  begins x y is other_is paired sound = record {
    keeps = record {
      sound = sound;
      kept = λ cell object held. (object, ap (λ s. object_at s cell) is ∙ held, refl);
      made_is = λ n t at. absurd (cc);
      count = refl;
    };
    limits = subst (KeepsLimits one) (sym is) (limits_same one);
    other_limits = subst (KeepsLimits other) (sym other_is) (limits_same other);
    paired = paired;
    stays = λ cell object held. (object, ap (λ s. object_at s cell) is ∙ held, refl);
    other_stays = λ cell object held. (object, ap (λ s. object_at s cell) other_is ∙ held, refl);
    cells = tt;
  }

-- from a step's beginning on
pub actions_alike : ActionsKeepPaired
actions_alike gone few_gone o sizes first second f g x y frame seen paired sound none few actions over other_over fit agrees alikes =
    let may : (s : Store) (request : Request) → MayReuse s request (lawful first s request) = λ s request. lawful_choice-may s request (first s request) in
    let other_may : (s : Store) (request : Request) → MayReuse s request (lawful second s request) = λ s request. lawful_choice-may s request (second s request) in
    acts_alike gone few_gone o sizes (lawful first) (lawful second) may other_may x.store y.store none few f g frame seen actions x y [] [] []
    (within_budgets gone o x y actions paired few over other_over) fit agrees alikes
    (begins gone few_gone o sizes (lawful first) (lawful second) may other_may x.store y.store none few f g frame seen x y refl refl paired sound)
