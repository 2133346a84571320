-- The openings of a run on two memories lead to paired states, or one of the memories lacks words.
use Rattle.std.proofs.Common.{◌≡◌, ℕ, ◌+◌, ◌<◌, ◌≤◌, ◌||◌, inl, Bool, true, false, cond, List, [], ◌∷◌, ◌++◌, length, nat_lt, Option, Some, None, refl, sym, ◌∙◌, ap, subst, slice_index_or, arith, replicate, zero, suc}
use Rattle.std.specs.List.{AllByRecursion, AllZip, flat_map}
use Rattle.std.proofs.lemmas.Bool.{false≢true}
use Rattle.std.proofs.lemmas.List.Elements.{length_all_zip}
use Rattle.fm_base.specs.declared.kinds.TypeRef.{TypeRef}
use Rattle.fm_base.specs.declared.limits.TheConstants.{MAX_LIVE_WORDS}
use Rattle.fm_cells.proofs.Changes.{live_words-opened}
use Rattle.fm_cells.proofs.Choices.{lawful_choice-may}
use Rattle.fm_cells.proofs.Soundness.{IsOrderly-opened}
use Rattle.fm_cells.specs.Choices.{lawful, MayReuse}
use Rattle.fm_cells.specs.Objects.{Object, Request, request_words}
use Rattle.fm_cells.specs.Stores.{live_words, object_at, opened, Store}
use Rattle.fm_code.specs.AccessFlags.{is_static}
use Rattle.fm_types.proofs.Zips.{zip-append, zip-set}
use Rattle.fm_world.specs.Members.{field_kind, fields_of, OwnedField}
use Rattle.fm_world.specs.Programs.{Outline, Program}
use Rattle.fm_world.specs.declared.declarations.DeclaredClass.{DeclaredClass}
use Rattle.fm_frames.specs.Acts.{Choose, Did, FullAt, is_there, literal_made, literal_text, literal_type, performed, Performed, requested}
use Rattle.fm_frames.specs.Effects.{Action, Make, MakeFixed, MakeLiteral, Put, SetStatic, Start}
use Rattle.fm_frames.specs.Elements.{first_of}
use Rattle.fm_frames.specs.Literals.{literal_count}
use Rattle.fm_frames.specs.Runs.{after_action, argument_actions, first_areas, framed, Job, opened_by, opening, opening_actions, opening_frames, unopened, with_streams}
use Rattle.fm_frames.specs.Starts.{start_actions, start_methods, to_start}
use Rattle.fm_frames.specs.States.{Areas, Frame, ref, State}
use Rattle.fm_frames.specs.Steps.{is_over, new_frame, start_frames, stopped, words_made}
use Rattle.fm_frames.specs.declared.ends.Ended.{Ended}
use Rattle.fm_frames.specs.declared.ends.Ended.TheVariants as end
use Rattle.fm_frames.specs.declared.values.Value.{Value}
use Rattle.fm_law_sound.specs.Acting.{ActsFit}
use Rattle.fm_law_sound.specs.Laws.{no_frame}
use Rattle.fm_law_sound.specs.Making.{ArgumentsFit}
use Rattle.fm_law_sound.specs.Placing.{PutAgrees}
use Rattle.fm_law_sound.specs.Sound.{AreasAreSound}
use Rattle.fm_law_sound.proofs.NextPlaces.{starts_agree}
use Rattle.fm_law_sound.proofs.Opening.{first_sound, fit_later, IsOfStart, start_made, streams_keep}
use Rattle.fm_law_sound.proofs.OpeningActs.{opening_fits}
use Rattle.fm_law_sound.proofs.OpeningCells.{opening_agrees}
use Rattle.fm_law_sound.proofs.StartActs.{start_alone}
use Rattle.fm_law_two_memories.specs.Pairing.{AreasPaired, FramesPaired, none_gone, SameCell, SameEnd, SameFound, SameValue}
use Rattle.fm_law_two_memories.specs.Reading.{ActsAlike}
use Rattle.fm_law_two_memories.specs.Results.{IsTooSmall}
use Rattle.fm_law_two_memories.proofs.NextAlike.{starts_alike}
use Rattle.fm_law_two_memories.proofs.NextSame.{new_same, starts_same}
use Rattle.fm_law_two_memories.proofs.SourcesSame.{number_same, read_same}
use Rattle.fm_law_two_memories.proofs.StepActs.{Along, begins, either, literal_on, made_on, make_case, put_on, set_on, start_on}
use Rattle.fm_law_two_memories.proofs.RunsSame.{few_none}
use Rattle.fm_law_two_memories.proofs.StepSame.{Both, by_both, GoesAlike, IsReady, OneLacks, OtherIsFull, OtherLacks}
use Rattle.fm_law_two_memories.proofs.Stores.{opened_paired, same_zero}
use Rattle.fm_law_two_memories.proofs.WordsSame.{first_less, lacks_same, next_within, Room, second_less, there_same, Within, within_budgets}

-- ---- what the opening does

arguments_alike : (o : Outline) (store : Store) (place : ℕ) (texts : List (List ℕ)) → AllByRecursion (ActsAlike o store no_frame) (argument_actions o place texts)
arguments_alike o store place [] = tt
arguments_alike o store place (text ∷ texts) = (tt, (tt, arguments_alike o store (place + 1) texts))

opening_alike : (o : Outline) (store : Store) (job : Job) → AllByRecursion (ActsAlike o store no_frame) (opening_actions o job)
unfolding opening_actions
opening_alike o store job = (tt, (tt, (tt, arguments_alike o store 0 job.arguments)))

-- what the opening does makes objects and puts them
abbrev IsOfOpening : Action → Type 0
IsOfOpening (Make t len content) = Unit {0}
IsOfOpening (MakeFixed t) = Unit {0}
IsOfOpening (Put object place k v) = Unit {0}
IsOfOpening action = ⊥

arguments_made : (o : Outline) (place : ℕ) (texts : List (List ℕ)) → AllByRecursion IsOfOpening (argument_actions o place texts)
arguments_made o place [] = tt
arguments_made o place (text ∷ texts) = (tt, (tt, arguments_made o (place + 1) texts))

opening_made : (o : Outline) (job : Job) → AllByRecursion IsOfOpening (opening_actions o job)
unfolding opening_actions
opening_made o job = (tt, (tt, (tt, arguments_made o 0 job.arguments)))

-- ---- the first areas

first_values : (one two : Store) (cs : List DeclaredClass) (fields : List OwnedField)
    → AllZip (SameValue none_gone one two) (flat_map (λ f. cond (is_static f.field.flags) (first_of (field_kind cs f.field) ∷ []) []) fields)
    (flat_map (λ f. cond (is_static f.field.flags) (first_of (field_kind cs f.field) ∷ []) []) fields)
first_values one two cs [] = tt
first_values one two cs (f ∷ fields) = by_flag (is_static f.field.flags) _ (first_values one two cs fields) where
  by_flag : (b : Bool) (words : List Value) → AllZip (SameValue none_gone one two) words words
      → AllZip (SameValue none_gone one two) (cond b (first_of (field_kind cs f.field) ∷ []) [] ++ words) (cond b (first_of (field_kind cs f.field) ∷ []) [] ++ words)
  by_flag true words rest = (read_same none_gone one two (field_kind cs f.field) 0 0 (same_zero none_gone one two (Some (field_kind cs f.field))), rest)
  by_flag false words rest = rest

no_literals : (one two : Store) (count : ℕ) → AllZip (SameCell none_gone one two) (replicate count 0) (replicate count 0)
no_literals one two zero = tt
no_literals one two (suc count) = (inl (inl (refl, refl)), no_literals one two count)

nothing_held : (budget : ℕ) (limit : Option ℕ) (free : List (List ℕ)) (cell : ℕ) → object_at (opened budget limit free) cell ≡ None
nothing_held budget limit free cell = by_object (object_at (opened budget limit free) cell) refl where
  by_object : (found : Option Object) → object_at (opened budget limit free) cell ≡ found → object_at (opened budget limit free) cell ≡ None
  by_object None is = is
  by_object (Some object) is =
      let early : object.birth < 0 = (IsOrderly-opened budget limit free).born cell object is in absurd (omega (arith, early))

first_paired : (o : Outline) (budget other : ℕ) (limit none : Option ℕ) (free freed : List (List ℕ))
    → AreasPaired none_gone o (first_areas o (opened budget none free)) (first_areas o (opened other limit freed))
first_paired o budget other limit none free freed = record {
  store = opened_paired o (opened budget none free) (opened other limit freed) (live_words-opened budget none free) (live_words-opened other limit freed)
      refl refl (IsOrderly-opened budget none free) (IsOrderly-opened other limit freed) refl (nothing_held budget none free);
  statics = first_values (opened budget none free) (opened other limit freed) o.classes (fields_of o.classes);
  literals = no_literals (opened budget none free) (opened other limit freed) (literal_count o);
  started = refl;
}

-- ---- each action by itself

module _ (p : Program) (ready : IsReady p) (first second : Choose) (job : Job) (one two : Store) (none : one.limit ≡ None) (few : two.budget ≤ MAX_LIVE_WORDS) where
  abbrev o : Outline
  o = p.outline

  may : (s : Store) (request : Request) → MayReuse s request (lawful first s request)
  may s request = lawful_choice-may s request (first s request)

  other_may : (s : Store) (request : Request) → MayReuse s request (lawful second s request)
  other_may s request = lawful_choice-may s request (second s request)

  no_frames : FramesPaired none_gone one two no_frame no_frame
  no_frames = record { method = refl; item = refl; locals = tt; stack = tt }

  -- the budgets of both memories
  abbrev room : Room
  room = record { first = one.budget; second = two.budget; gone = none_gone.words }

  -- the state without frames, with these areas
  abbrev bare : Areas → State
  bare areas = unopened p job areas

  abbrev Go : State → State → Type 0
  Go x y = GoesAlike none_gone p.outline one.budget two.budget two.limit (record { state = x; printed = [] }) (record { state = y; printed = [] })

  -- what is known along the actions
  abbrev On : Areas → Areas → List TypeRef → List ℕ → List ℕ → Type 0
  On x y types made others =
      Along none_gone few_none p.outline ready.steps.calls.runnable.sizes (lawful first) (lawful second) may other_may one two none few no_frame no_frame no_frames tt x y types made others

  module _ (x y : Areas) (types : List TypeRef) (made others : List ℕ) (h : On x y types made others) where
    ends_alike : (a b : Ended) → SameEnd none_gone x.store y.store a b → Go (stopped (bare x) a) (stopped (bare y) b)
    ends_alike a b same =
        Both (record {
          paired = record { frames = tt; areas = h.paired; input = refl; depth = refl; steps = refl; ended = (b, refl, same) };
          unlimited = h.limits.limit ∙ none;
          budget_is = h.limits.budget;
          limit_is = h.other_limits.limit;
          other_is = h.other_limits.budget;
        }) refl

    frames_alike : (fs gs : List Frame) → AllZip (FramesPaired none_gone x.store y.store) fs gs → Go (record (bare x) { frames = fs }) (record (bare y) { frames = gs })
    frames_alike fs gs frames =
        Both (record {
          paired = record { frames = frames; areas = h.paired; input = refl; depth = refl; steps = refl; ended = refl };
          unlimited = h.limits.limit ∙ none;
          budget_is = h.limits.budget;
          limit_is = h.other_limits.limit;
          other_is = h.other_limits.budget;
        }) refl

    now_few : y.store.budget ≤ MAX_LIVE_WORDS
    now_few = subst (λ n. n ≤ MAX_LIVE_WORDS) (sym h.other_limits.budget) few

    within_room : (actions : List Action) → is_over o x actions ≡ false → is_over o y actions ≡ false → Within o room y actions
    within_room actions within other_within =
        subst (λ n. Within o (record { first = n; second = two.budget; gone = none_gone.words }) y actions) h.limits.budget
        (subst (λ n. Within o (record { first = x.store.budget; second = n; gone = none_gone.words }) y actions) h.other_limits.budget
        (within_budgets none_gone o x y actions h.paired now_few within other_within))

    -- an action within both budgets, or not
    over_alike : (action : Action) (u v : State) → (is_over o x (action ∷ []) ≡ false → is_over o y (action ∷ []) ≡ false → Go u v)
        → Go (cond (is_over o x (action ∷ [])) (stopped (bare x) (end.Exhausted (live_words x.store) (words_made o x (action ∷ [])))) u)
        (cond (is_over o y (action ∷ [])) (stopped (bare y) (end.Exhausted (live_words y.store) (words_made o y (action ∷ [])))) v)
    over_alike action u v rest =
        by_both Go (is_over o x (action ∷ [])) (is_over o y (action ∷ [])) _ _ _ _
        (λ over other_over. ends_alike _ _ (lacks_same none_gone o x y h.paired (action ∷ [])))
        (λ over other_within. OneLacks
        (subst (λ n. n < two.budget + none_gone.words) h.limits.budget
        (subst (λ n. x.store.budget < n + none_gone.words) h.other_limits.budget (first_less none_gone o x y h.paired (action ∷ []) over other_within)))
        (live_words x.store, words_made o x (action ∷ []), refl) ([], refl))
        (λ within other_over. OtherLacks
        (subst (λ n. n + none_gone.words < one.budget) h.other_limits.budget
        (subst (λ n. y.store.budget + none_gone.words < n) h.limits.budget (second_less none_gone o x y h.paired (action ∷ []) within other_over)))
        (live_words y.store, words_made o y (action ∷ []), refl) ([], refl))
        (λ within other_within. rest within other_within)

    abbrev After : (State → List ℕ → State) → (State → List ℕ → State) → Performed → Performed → Type 0
    After follows other_follows v u = Go (after_action (bare x) u follows) (after_action (bare y) v other_follows)

    full : (follows other_follows : State → List ℕ → State) (later : Areas) (words : ℕ) (u : Performed) → IsTooSmall none_gone two.limit one.budget two.budget
        → After follows other_follows (FullAt later words) u
    full follows other_follows later words u small = OtherIsFull small (_, _, refl) (_, refl)

  -- what follows goes alike, wherever the actions led
  abbrev Follow : (State → List ℕ → State) → (State → List ℕ → State) → Type 0
  Follow follows other_follows =
      (x y : Areas) (types : List TypeRef) (made others : List ℕ) → On x y types made others → Go (follows (bare x) made) (other_follows (bare y) others)

  each_alike : (actions : List Action) (x y : Areas) (types : List TypeRef) (made others : List ℕ) (follows other_follows : State → List ℕ → State)
      → Follow follows other_follows → AllByRecursion IsOfOpening actions → ActsFit o one no_frame types actions → AllByRecursion (PutAgrees o one []) actions
      → AllByRecursion (ActsAlike o one no_frame) actions → On x y types made others
      → Go (opened_by p (lawful first) actions (bare x) made follows) (opened_by p (lawful second) actions (bare y) others other_follows)
  unfolding performed
  each_alike [] x y types made others follows other_follows goes all fit agrees alikes h = goes x y types made others h
  each_alike (Make t len content ∷ more) x y types made others follows other_follows goes all fit agrees alikes h =
      let request : Request = requested o t len false in
      let on : State → List ℕ → State = λ s cells. opened_by p (lawful first) more s cells follows in
      let other_on : State → List ℕ → State = λ s cells. opened_by p (lawful second) more s cells other_follows in
      over_alike x y types made others h (Make t len content) _ _
      (λ within other_within. make_case none_gone few_none o ready.steps.calls.runnable.sizes (lawful first) (lawful second) may other_may one two none few no_frame no_frame no_frames tt
      (After x y types made others h on other_on) (full x y types made others h on other_on) x y types made others t len content false
      (lawful first x.store request) (lawful second y.store request) (λ areas cell. Did areas (made ++ cell ∷ [])) (λ areas cell. Did areas (others ++ cell ∷ []))
      h fit.0 (may x.store request) (other_may y.store request)
      (next_within o room y (Make t len content) [] (request_words request) refl (omega arith)
      (within_room x y types made others h (Make t len content ∷ []) within other_within))
      (λ next following cell twin both. each_alike more (record x { store = next }) (record y { store = following }) (types ++ t ∷ []) (made ++ cell ∷ [])
      (others ++ twin ∷ []) follows other_follows goes all.1 fit.1 agrees.1 alikes.1
      (made_on none_gone few_none o ready.steps.calls.runnable.sizes (lawful first) (lawful second) may other_may one two none few no_frame no_frame no_frames tt
      x y types made others t (request_words request) next following cell twin h both)))
  each_alike (MakeFixed t ∷ more) x y types made others follows other_follows goes all fit agrees alikes h =
      let request : Request = requested o t 0 true in
      let on : State → List ℕ → State = λ s cells. opened_by p (lawful first) more s cells follows in
      let other_on : State → List ℕ → State = λ s cells. opened_by p (lawful second) more s cells other_follows in
      over_alike x y types made others h (MakeFixed t) _ _
      (λ within other_within. make_case none_gone few_none o ready.steps.calls.runnable.sizes (lawful first) (lawful second) may other_may one two none few no_frame no_frame no_frames tt
      (After x y types made others h on other_on) (full x y types made others h on other_on) x y types made others t 0 [] true
      (lawful first x.store request) (lawful second y.store request) (λ areas cell. Did areas (made ++ cell ∷ [])) (λ areas cell. Did areas (others ++ cell ∷ []))
      h fit.0 (may x.store request) (other_may y.store request)
      (next_within o room y (MakeFixed t) [] (request_words request) refl (omega arith)
      (within_room x y types made others h (MakeFixed t ∷ []) within other_within))
      (λ next following cell twin both. each_alike more (record x { store = next }) (record y { store = following }) (types ++ t ∷ []) (made ++ cell ∷ [])
      (others ++ twin ∷ []) follows other_follows goes all.1 fit.1 agrees.1 alikes.1
      (made_on none_gone few_none o ready.steps.calls.runnable.sizes (lawful first) (lawful second) may other_may one two none few no_frame no_frame no_frames tt
      x y types made others t (request_words request) next following cell twin h both)))
  each_alike (Put object place k v ∷ more) x y types made others follows other_follows goes all fit agrees alikes h =
      over_alike x y types made others h (Put object place k v) _ _
      (λ within other_within. each_alike more _ _ types made others follows other_follows goes all.1 fit.2 agrees.1 alikes.1
      (put_on none_gone few_none o ready.steps.calls.runnable.sizes (lawful first) (lawful second) may other_may one two none few no_frame no_frame no_frames tt
      x y types made others h object v place k fit.0 fit.1 agrees.0 alikes.0))
  each_alike (action ∷ more) x y types made others follows other_follows goes all fit agrees alikes h = absurd all.0

  -- the start of classes makes no object that is listed
  each_start : (actions : List Action) (x y : Areas) (types : List TypeRef) (made others : List ℕ) (follows other_follows : State → List ℕ → State)
      → ((x y : Areas) → On x y types made others → Go (follows (bare x) made) (other_follows (bare y) others)) → AllByRecursion IsOfStart actions
      → ActsFit o one no_frame types actions → AllByRecursion (PutAgrees o one []) actions → AllByRecursion (ActsAlike o one no_frame) actions
      → On x y types made others → Go (opened_by p (lawful first) actions (bare x) made follows) (opened_by p (lawful second) actions (bare y) others other_follows)
  unfolding performed
  each_start [] x y types made others follows other_follows goes all fit agrees alikes h = goes x y h
  each_start (MakeLiteral text ∷ more) x y types made others follows other_follows goes all fit agrees alikes h =
      let t : TypeRef = literal_type o text in
      let len : ℕ = length (literal_text o text) in
      let request : Request = requested o t len true in
      let on : State → List ℕ → State = λ s cells. opened_by p (lawful first) more s cells follows in
      let other_on : State → List ℕ → State = λ s cells. opened_by p (lawful second) more s cells other_follows in
      over_alike x y types made others h (MakeLiteral text) _ _
      (λ within other_within. either none_gone few_none o ready.steps.calls.runnable.sizes (lawful first) (lawful second) may other_may one two none few no_frame no_frame no_frames tt
      (After x y types made others h on other_on) (is_there x text) (is_there y text) _ _ _ _ (there_same none_gone o x y h.paired text)
      (λ there. each_start more x y types made others follows other_follows goes all.1 fit.1 agrees.1 alikes.1 h)
      (λ none_there. make_case none_gone few_none o ready.steps.calls.runnable.sizes (lawful first) (lawful second) may other_may one two none few no_frame no_frame no_frames tt
      (After x y types made others h on other_on) (full x y types made others h on other_on) x y types made others t len (literal_text o text) true
      (lawful first x.store request) (lawful second y.store request) (λ areas cell. Did (literal_made areas text cell) made)
      (λ areas cell. Did (literal_made areas text cell) others) h fit.0 (may x.store request) (other_may y.store request)
      (next_within o room y (MakeLiteral text) [] (request_words request) (ap (λ b. cond (b || false) 0 (request_words request)) none_there) (omega arith)
      (within_room x y types made others h (MakeLiteral text ∷ []) within other_within))
      (λ next following cell twin both. each_start more (literal_made (record x { store = next }) text cell)
      (literal_made (record y { store = following }) text twin) types made others follows other_follows goes all.1 fit.1 agrees.1 alikes.1
      (literal_on none_gone few_none o ready.steps.calls.runnable.sizes (lawful first) (lawful second) may other_may one two none few no_frame no_frame no_frames tt
      x y types made others t (request_words request) text next following cell twin h both))))
  each_start (SetStatic slot k v ∷ more) x y types made others follows other_follows goes all fit agrees alikes h =
      over_alike x y types made others h (SetStatic slot k v) _ _
      (λ within other_within. each_start more _ _ types made others follows other_follows goes all.1 fit.1 agrees.1 alikes.1
      (set_on none_gone few_none o ready.steps.calls.runnable.sizes (lawful first) (lawful second) may other_may one two none few no_frame no_frame no_frames tt
      x y types made others h slot k v fit.0 alikes.0.1 agrees.0 alikes.0.0))
  each_start (Start class ∷ more) x y types made others follows other_follows goes all fit agrees alikes h =
      over_alike x y types made others h (Start class) _ _
      (λ within other_within. each_start more _ _ types made others follows other_follows goes all.1 fit agrees.1 alikes.1
      (start_on none_gone few_none o ready.steps.calls.runnable.sizes (lawful first) (lawful second) may other_may one two none few no_frame no_frame no_frames tt
      x y types made others h class))
  each_start (action ∷ more) x y types made others follows other_follows goes all fit agrees alikes h = absurd all.0

  -- ---- the streams, and the first frames

  streams_on : (x y : Areas) (types : List TypeRef) (made others : List ℕ) → On x y types made others
      → On (with_streams x made) (with_streams y others) types made others
  streams_on x y types made others h =
      let same : (n : ℕ) → SameValue none_gone x.store y.store (ref (slice_index_or made n 0)) (ref (slice_index_or others n 0)) =
      λ n. (slice_index_or others n 0, refl, inl (number_same (SameFound x.store y.store) (inl (refl, refl)) made others n h.cells)) in
      record {
        keeps = streams_keep p ready.steps first one x types made h.keeps;
        limits = h.limits;
        other_limits = h.other_limits;
        paired = record {
          store = h.paired.store;
          statics = zip-set (SameValue none_gone x.store y.store) 1 (ref (slice_index_or made 1 0)) (ref (slice_index_or others 1 0)) _ _ (same 1)
              (zip-set (SameValue none_gone x.store y.store) 0 (ref (slice_index_or made 0 0)) (ref (slice_index_or others 0 0)) x.statics y.statics (same 0) h.paired.statics);
          literals = h.paired.literals;
          started = h.paired.started;
        };
        stays = h.stays;
        other_stays = h.other_stays;
        cells = h.cells;
      }

  framed_alike : (methods : List ℕ) (cell twin : ℕ) (x y : Areas) (types : List TypeRef) (made others : List ℕ) → On x y types made others
      → SameCell none_gone x.store y.store cell twin
      → Go (framed (bare x) (opening_frames p methods cell)) (framed (bare y) (opening_frames p methods twin))
  framed_alike methods cell twin x y types made others h same =
      let main : List Frame = new_frame p p.outline.main (ref cell ∷ []) ∷ [] in
      let other_main : List Frame = new_frame p p.outline.main (ref twin ∷ []) ∷ [] in
      let frames : AllZip (FramesPaired none_gone x.store y.store) (opening_frames p methods cell) (opening_frames p methods twin) =
      zip-append (FramesPaired none_gone x.store y.store) (start_frames p methods) (start_frames p methods) main other_main (starts_same none_gone p x.store y.store methods)
      (new_same none_gone p x.store y.store p.outline.main (ref cell ∷ []) (ref twin ∷ []) ((twin, refl, same), tt), tt) in
      let count : length (opening_frames p methods cell) ≡ length (opening_frames p methods twin) =
      length_all_zip (FramesPaired none_gone x.store y.store) (opening_frames p methods cell) (opening_frames p methods twin) frames in
      by_both Go (nat_lt job.depth (length (opening_frames p methods cell))) (nat_lt job.depth (length (opening_frames p methods twin))) _ _ _ _
      (λ deep other_deep. ends_alike x y types made others h (end.TooDeep 1) (end.TooDeep 1) refl)
      (λ deep shallow. absurd (false≢true (sym shallow ∙ ap (nat_lt job.depth) (sym count) ∙ deep)))
      (λ shallow deep. absurd (false≢true (sym shallow ∙ ap (nat_lt job.depth) count ∙ deep)))
      (λ shallow other_shallow. frames_alike x y types made others h (opening_frames p methods cell) (opening_frames p methods twin) frames)

  pub opened_alike : ArgumentsFit job.arguments → AreasAreSound o (first_areas o one) → AreasPaired none_gone o (first_areas o one) (first_areas o two)
      → GoesAlike none_gone p.outline one.budget two.budget two.limit (opening p (lawful first) job one) (opening p (lawful second) job two)
  unfolding opening
  opened_alike given sound paired =
      let classes : List ℕ = to_start o (first_areas o one).started o.main_class in
      let methods : List ℕ = start_methods o classes in
      each_alike (opening_actions o job) (first_areas o one) (first_areas o two) [] [] [] _ _
      (λ x y types made others h. each_start (start_actions o classes) (with_streams x made) (with_streams y others) types made others
      (λ s cells. framed s (opening_frames p methods (slice_index_or made 2 0))) (λ s cells. framed s (opening_frames p methods (slice_index_or others 2 0)))
      (λ now later on. framed_alike methods (slice_index_or made 2 0) (slice_index_or others 2 0) now later types made others on
      (inl (number_same (SameFound now.store later.store) (inl (refl, refl)) made others 2 on.cells)))
      (start_made o classes)
      (fit_later o one no_frame types (start_actions o classes) (start_made o classes) (start_alone p ready.makes.makeable ready.makes.constants one no_frame classes))
      (starts_agree o one [] classes) (starts_alike o ready.constants one no_frame classes) (streams_on x y types made others h))
      (opening_made o job) (opening_fits p ready.makes.makeable one no_frame job given) (opening_agrees o one job) (opening_alike o one job)
      (begins none_gone few_none o ready.steps.calls.runnable.sizes (lawful first) (lawful second) may other_may one two none few no_frame no_frame no_frames tt
      (first_areas o one) (first_areas o two) refl refl paired sound)

-- from opened stores on
pub openings_alike : (p : Program) → IsReady p → (first second : Choose) (job : Job) → ArgumentsFit job.arguments → (budget other : ℕ) (limit : Option ℕ)
    (free freed : List (List ℕ)) → other ≤ MAX_LIVE_WORDS
    → GoesAlike none_gone p.outline budget other limit (opening p (lawful first) job (opened budget None free)) (opening p (lawful second) job (opened other limit freed))
openings_alike p ready first second job given budget other limit free freed few =
    opened_alike p ready first second job (opened budget None free) (opened other limit freed) refl few given (first_sound p.outline budget None free)
    (first_paired p.outline budget other limit None free freed)
