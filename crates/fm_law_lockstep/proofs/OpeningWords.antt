-- The words at the opening of a run: none were freed, and no more live than may.
use Rattle.std.proofs.Common.{◌≡◌, ℕ, ◌+◌, ◌<◌, ◌≤◌, ◌&&◌, ◌||◌, ◌⊎◌, inl, inr, cond, min, Bool, true, false, List, [], ◌∷◌, ◌++◌, length, nat_lt, Option, refl, sym, ap, ◌∙◌, slice_index_or, arith}
use Rattle.std.specs.List.{AllByRecursion}
use Rattle.std.proofs.lemmas.Bool.{and_from, cases_lt, false≢true, lt-ltb}
use Rattle.fm_base.specs.declared.kinds.TypeRef.{TypeRef}
use Rattle.fm_cells.proofs.Changes.{live_words-opened}
use Rattle.fm_cells.proofs.Choices.{lawful_choice-may}
use Rattle.fm_cells.proofs.StoreLaws.{live_words-put_by}
use Rattle.fm_cells.specs.Changes.{Choice, made_by, RefuseStore, Take}
use Rattle.fm_cells.specs.Choices.{lawful, MayReuse}
use Rattle.fm_cells.specs.Objects.{Request, request_words}
use Rattle.fm_cells.specs.Stores.{live_words, opened, Store}
use Rattle.fm_frames.specs.Acts.{cell_of, Choose, class_started, Did, is_there, literal_made, literal_text, literal_type, made_then, performed, Performed, put_value, requested, set_static, Sources, value_of, with_content}
use Rattle.fm_frames.specs.Effects.{Action, Copy, Free, FreeChain, Make, MakeFixed, MakeLiteral, Put, SetChain, SetStatic, Start}
use Rattle.fm_frames.specs.Elements.{kept}
use Rattle.fm_frames.specs.Runs.{after_action, first_areas, Job, opened_by, opening, opening_actions, opening_frames, unopened, with_streams}
use Rattle.fm_frames.specs.Starts.{start_actions, start_methods, to_start}
use Rattle.fm_frames.specs.States.{Areas, State}
use Rattle.fm_frames.specs.Steps.{is_over, most_words, stopped, words_made, words_of}
use Rattle.fm_frames.specs.declared.ends.Ended.TheVariants as end
use Rattle.fm_law_same_runs.specs.Beside.{most_original_words}
use Rattle.fm_law_sound.proofs.Opening.{IsMade, of_start_made, opening_made, start_made}
use Rattle.fm_law_sound.proofs.OpeningActs.{opening_fits}
use Rattle.fm_law_sound.proofs.StartActs.{start_alone}
use Rattle.fm_law_sound.specs.Acting.{ActsFit, ContentFits}
use Rattle.fm_law_sound.specs.Laws.{no_frame}
use Rattle.fm_law_sound.specs.Making.{ArgumentsFit, MakesAreResolved}
use Rattle.fm_law_two_memories.proofs.Limits.{limits_filled, limits_put, words_filled}
use Rattle.fm_world.specs.Programs.{Outline, Program}

-- nothing was freed, and no more words live than may
pub record IsFresh (budget : ℕ) (x : Areas) : Type 0 where
  pub nothing : x.freed_words ≡ 0
  pub budget_is : x.store.budget ≡ budget
  pub within : live_words x.store ≤ budget

-- what an action makes has room, where it doesn't pass the budget
has_room : (words live budget : ℕ) → (nat_lt 0 (min (words + 0) most_words) && nat_lt budget (live + min (words + 0) most_words)) ≡ false
    → live ≤ budget → budget ≤ most_original_words → live + words ≤ budget
has_room words live budget not_over within few = by_some (cases_lt 0 needed) (cases_lt budget (live + needed)) where
  needed : ℕ
  needed = min (words + 0) most_words

  by_some : (0 < needed) ⊎ (needed ≤ 0) → (budget < live + needed) ⊎ (live + needed ≤ budget) → live + words ≤ budget
  by_some (inr nothing) other = omega (arith, nothing, within)
  by_some (inl some) (inr inside) = omega (arith, inside, few)
  by_some (inl some) (inl passes) =
      absurd (false≢true (sym not_over ∙ and_from (nat_lt 0 needed) (nat_lt budget (live + needed)) (lt-ltb 0 needed some) (lt-ltb budget (live + needed) passes)))

module _ (p : Program) (choose : Choose) (budget : ℕ) (few : budget ≤ most_original_words) (store : Store) where
  abbrev o : Outline
  o = p.outline

  abbrev Fresh : Areas → Type 0
  Fresh x = IsFresh budget x

  either_fresh : (b : Bool) (one other : State) → (b ≡ true → Fresh one.areas) → (b ≡ false → Fresh other.areas) → Fresh (cond b one other).areas
  either_fresh true one other first second = first refl
  either_fresh false one other first second = second refl

  abbrev Follows : Type 0
  Follows = State → List ℕ → State

  -- what follows is fresh
  abbrev StaysFresh : Follows → Type 0
  StaysFresh follows = (y : State) (cells : List ℕ) → Fresh y.areas → Fresh (follows y cells).areas

  either_followed : (b : Bool) (x : State) (one other : Performed) (follows : Follows) → (b ≡ true → Fresh (after_action x one follows).areas)
      → (b ≡ false → Fresh (after_action x other follows).areas) → Fresh (after_action x (cond b one other) follows).areas
  either_followed true x one other follows first second = first refl
  either_followed false x one other follows first second = second refl

  -- an object is made, and the areas are used as these with its store
  made_fresh : (x : State) (t : TypeRef) (request : Request) (content : List ℕ) (choice : Choice) (later : Areas → ℕ → Areas) (cells : ℕ → List ℕ) (follows : Follows)
      → MayReuse x.areas.store request choice → ContentFits o t request.len content → live_words x.areas.store + request_words request ≤ budget
      → Fresh x.areas → ((y : Areas) (cell : ℕ) → Fresh y → Fresh (later y cell)) → StaysFresh follows
      → Fresh (after_action x (made_then x.areas request content choice (λ y cell. Did (later y cell) (cells cell))) follows).areas
  made_fresh x t request content RefuseStore later cells follows may fits room fresh stays rest = fresh
  made_fresh x t request content (Take cell grows) later cells follows may fits room fresh stays rest =
      let words = words_filled o t x.areas.store request cell grows content fits may.1 in
      rest (record x { areas = later (record x.areas { store = with_content (made_by x.areas.store request (Take cell grows)) cell content }) cell }) (cells cell)
      (stays (record x.areas { store = with_content (made_by x.areas.store request (Take cell grows)) cell content }) cell (record {
        nothing = fresh.nothing;
        budget_is = (limits_filled x.areas.store request cell grows content).budget ∙ fresh.budget_is;
        within = omega (arith, words, room);
      }))

  -- the state in which an action would pass the budget
  abbrev over_at : State → Action → State
  over_at x action = stopped x (end.Exhausted (live_words x.areas.store) (words_made o x.areas (action ∷ [])))

  abbrev may : (s : Store) (request : Request) → MayReuse s request (lawful choose s request)
  may s request = lawful_choice-may s request (choose s request)

  room_for : (x : Areas) (words : ℕ) → (nat_lt 0 (min (words + 0) most_words) && nat_lt x.store.budget (live_words x.store + min (words + 0) most_words)) ≡ false
      → Fresh x → live_words x.store + words ≤ budget
  room_for x words not_over fresh =
      has_room words (live_words x.store) budget
      (sym (ap (λ n. nat_lt 0 (min (words + 0) most_words) && nat_lt n (live_words x.store + min (words + 0) most_words)) fresh.budget_is) ∙ not_over) fresh.within few

  each_fresh : (actions : List Action) (types : List TypeRef) (x : State) (made : List ℕ) (follows : Follows) → AllByRecursion IsMade actions
      → ActsFit o store no_frame types actions → Fresh x.areas → StaysFresh follows → Fresh (opened_by p (lawful choose) actions x made follows).areas
  unfolding performed
  each_fresh [] types x made follows all fit fresh rest = rest x made fresh
  each_fresh (Make t len content ∷ more) types x made follows all fit fresh rest =
      let request : Request = requested o t len false in
      either_fresh (is_over o x.areas (Make t len content ∷ [])) _ _ (λ over. fresh)
      (λ within. made_fresh x t request content (lawful choose x.areas.store request) (λ y cell. y) (λ cell. made ++ cell ∷ [])
      (λ y cells. opened_by p (lawful choose) more y cells follows) (may x.areas.store request) fit.0.content_fits
      (room_for x.areas (request_words request) within fresh) fresh (λ y cell is. is)
      (λ y cells is. each_fresh more (types ++ t ∷ []) y cells follows all.1 fit.1 is rest))
  each_fresh (MakeFixed t ∷ more) types x made follows all fit fresh rest =
      let request : Request = requested o t 0 true in
      either_fresh (is_over o x.areas (MakeFixed t ∷ [])) _ _ (λ over. fresh)
      (λ within. made_fresh x t request [] (lawful choose x.areas.store request) (λ y cell. y) (λ cell. made ++ cell ∷ [])
      (λ y cells. opened_by p (lawful choose) more y cells follows) (may x.areas.store request) tt
      (room_for x.areas (request_words request) within fresh) fresh (λ y cell is. is)
      (λ y cells is. each_fresh more (types ++ t ∷ []) y cells follows all.1 fit.1 is rest))
  each_fresh (MakeLiteral text ∷ more) types x made follows all fit fresh rest =
      let t : TypeRef = literal_type o text in
      let request : Request = requested o t (length (literal_text o text)) true in
      let next : Follows = λ y cells. opened_by p (lawful choose) more y cells follows in
      let goes : StaysFresh next = λ y cells is. each_fresh more types y cells follows all.1 fit.1 is rest in
      either_fresh (is_over o x.areas (MakeLiteral text ∷ [])) _ _ (λ over. fresh)
      (λ within. either_followed (is_there x.areas text) x (Did x.areas made) _ next (λ there. goes x made fresh)
      (λ none. made_fresh x t request (literal_text o text) (lawful choose x.areas.store request) (λ y cell. literal_made y text cell) (λ cell. made) next
      (may x.areas.store request) fit.0.content_fits
      (let words : words_of o x.areas [] (MakeLiteral text) ≡ request_words request = ap (λ b. cond (b || false) 0 (request_words request)) none in
      let room = room_for x.areas (words_of o x.areas [] (MakeLiteral text)) within fresh in omega (arith, words, room)) fresh
      (λ y cell is. record { nothing = is.nothing; budget_is = is.budget_is; within = is.within }) goes))
  each_fresh (Put object place k v ∷ more) types x made follows all fit fresh rest =
      let from : Sources = record { locals = []; stack = []; areas = x.areas; made = made } in
      let words = live_words-put_by x.areas.store (cell_of (value_of from object)) place (kept k (value_of from v)) in
      let before = fresh.within in
      let next : State = record x { areas = put_value x.areas (value_of from object) place k (value_of from v) } in
      either_fresh (is_over o x.areas (Put object place k v ∷ [])) (over_at x (Put object place k v)) (opened_by p (lawful choose) more next made follows)
      (λ over. fresh)
      (λ within. each_fresh more types next made follows all.1 fit.2 (record {
        nothing = fresh.nothing;
        budget_is = (limits_put x.areas.store (cell_of (value_of from object)) place (kept k (value_of from v))).budget ∙ fresh.budget_is;
        within = omega (arith, words, before);
      }) rest)
  each_fresh (SetStatic slot k v ∷ more) types x made follows all fit fresh rest =
      let from : Sources = record { locals = []; stack = []; areas = x.areas; made = made } in
      let next : State = record x { areas = set_static x.areas slot k (value_of from v) } in
      either_fresh (is_over o x.areas (SetStatic slot k v ∷ [])) (over_at x (SetStatic slot k v)) (opened_by p (lawful choose) more next made follows)
      (λ over. fresh)
      (λ within. each_fresh more types next made follows all.1 fit.1 (record { nothing = fresh.nothing; budget_is = fresh.budget_is; within = fresh.within }) rest)
  each_fresh (Start class ∷ more) types x made follows all fit fresh rest =
      let next : State = record x { areas = class_started x.areas class } in
      either_fresh (is_over o x.areas (Start class ∷ [])) (over_at x (Start class)) (opened_by p (lawful choose) more next made follows) (λ over. fresh)
      (λ within. each_fresh more types next made follows all.1 fit (record { nothing = fresh.nothing; budget_is = fresh.budget_is; within = fresh.within }) rest)
  each_fresh (Free operand ∷ more) types x made follows all fit fresh rest = absurd all.0
  each_fresh (SetChain operand to ∷ more) types x made follows all fit fresh rest = absurd all.0
  each_fresh (FreeChain operand ∷ more) types x made follows all fit fresh rest = absurd all.0
  each_fresh (Copy t len operand ∷ more) types x made follows all fit fresh rest = absurd all.0

-- the opening on an opened store
pub opening_fresh : (p : Program) → MakesAreResolved p → (choose : Choose) (job : Job) → ArgumentsFit job.arguments → (budget : ℕ) (limit : Option ℕ)
    (free : List (List ℕ)) → budget ≤ most_original_words → IsFresh budget (opening p (lawful choose) job (opened budget limit free)).state.areas
unfolding opening
opening_fresh p makes choose job given budget limit free few =
    let o : Outline = p.outline in
    let store : Store = opened budget limit free in
    let classes : List ℕ = to_start o (first_areas o store).started o.main_class in
    let none = live_words-opened budget limit free in
    each_fresh p choose budget few store (opening_actions o job) [] (unopened p job (first_areas o store)) [] _ (opening_made o job)
    (opening_fits p makes.makeable store no_frame job given) (record { nothing = refl; budget_is = refl; within = omega (arith, none) })
    (λ x made fresh. each_fresh p choose budget few store (start_actions o classes) [] (record x { areas = with_streams x.areas made }) made _
    (of_start_made (start_actions o classes) (start_made o classes)) (start_alone p makes.makeable makes.constants store no_frame classes)
    (record { nothing = fresh.nothing; budget_is = fresh.budget_is; within = fresh.within })
    (λ y cells is. either_fresh p choose budget few store
    (nat_lt y.depth (length (opening_frames p (start_methods o classes) (slice_index_or made 2 0)))) _ _ (λ deep. is) (λ shallow. is)))
