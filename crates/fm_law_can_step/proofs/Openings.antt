-- How many objects the opening makes: those of its actions, and literals.
use Rattle.std.proofs.Common.{◌≡◌, ℕ, ◌+◌, ◌==◌, ◌<◌, ◌≤◌, Bool, true, false, cond, List, [], ◌∷◌, ◌++◌, length, replicate, Some, refl, ◌∙◌, ap, subst, nat_lt, slice_set, slice_index_or, arith}
use Rattle.std.specs.List.{AllByRecursion}
use Rattle.std.proofs.lemmas.List.{length-replicate, length-set}
use Rattle.std.proofs.lemmas.List.Sums.{count_by-le-length}
use Rattle.fm_exec_calls.proofs.StartRoom.{none-is, unmade-set}
use Rattle.fm_exec_calls.specs.inner.Actions.{unmade}
use Rattle.fm_cells.specs.Changes.{Choice, made_by, RefuseStore, Take}
use Rattle.fm_cells.specs.Choices.{IsLawful, MayReuse}
use Rattle.fm_cells.specs.Objects.{Request}
use Rattle.fm_cells.specs.Stores.{live_words, Store}
use Rattle.fm_frames.proofs.OpeningSteps.{grows-made, put_kept}
use Rattle.fm_frames.specs.Acts.{cell_of, Choose, Did, FullAt, is_there, literal_made, literal_text, literal_type, LostAt, made_then, performed, Performed, requested, Sources, value_of, with_content}
use Rattle.fm_frames.specs.Effects.{Action, Copy, Free, FreeChain, Make, MakeFixed, MakeLiteral, Put, SetChain, SetStatic, Start}
use Rattle.fm_frames.specs.Elements.{kept}
use Rattle.fm_frames.specs.Literals.{literal_count}
use Rattle.fm_frames.specs.Runs.{after_action, argument_actions, first_areas, framed, Job, opened_by, opening, opening_actions, opening_frames, unopened, with_streams}
use Rattle.fm_frames.specs.Starts.{start_actions, start_methods}
use Rattle.fm_frames.specs.States.{Areas, Frame, State}
use Rattle.fm_frames.specs.Steps.{is_over, stopped, words_made}
use Rattle.fm_frames.specs.declared.ends.Ended.TheVariants as end
use Rattle.fm_frames.specs.inner.Opening.{opening_classes, StartFits}
use Rattle.fm_law_can_step.proofs.Constants.{start_fits}
use Rattle.fm_law_can_step.specs.Ready.{CanRun}
use Rattle.fm_law_sound.proofs.Opening.{IsOfStart, start_made}
use Rattle.fm_world.specs.Programs.{Outline, Program}

-- ---- what actions make

-- the objects that an action makes, but for literals
abbrev weight : Action → ℕ
weight (Make t len content) = 1
weight (MakeFixed t) = 1
weight action = 0

abbrev weights : List Action → ℕ
weights [] = 0
weights (action ∷ more) = weight action + weights more

-- a literal is there, and nothing is freed or copied
abbrev IsFirst : Outline → Action → Type 0
IsFirst o (MakeLiteral text) = text < literal_count o
IsFirst o (Free operand) = ⊥
IsFirst o (SetChain operand to) = ⊥
IsFirst o (FreeChain operand) = ⊥
IsFirst o (Copy t len operand) = ⊥
IsFirst o action = Unit {0}

-- at most this many objects were made, with the literals that aren't made yet
record Counts (p : Program) (n : ℕ) (x : State) : Type 0 where
  births : x.areas.store.births + unmade x.areas.literals ≤ n
  literals : length x.areas.literals ≡ literal_count p.outline

weaker : (p : Program) (n m : ℕ) (x : State) → n ≤ m → Counts p n x → Counts p m x
weaker p n m x few h = let all = h.births in record { births = omega (arith, all, few); literals = h.literals }

abbrev CountsAfter : Program → State → ℕ → Performed → Type 0
CountsAfter p x n (Did areas made) = Counts p n (record x { areas = areas })
CountsAfter p x n (FullAt areas needed) = Counts p n (record x { areas = areas })
CountsAfter p x n (LostAt v) = Unit {0}

-- ---- one action

module _ (p : Program) (choose : Choose) (may : IsLawful choose) (x : State) (n : ℕ) (h : Counts p n x) where
  made_counts : (m : ℕ) → n ≤ m → (r : Request) (content : List ℕ) (follows : Areas → ℕ → Performed)
      → ((y : Areas) (cell : ℕ) → 0 < cell → y.store.births ≤ x.areas.store.births + 1 → y.literals ≡ x.areas.literals → CountsAfter p x m (follows y cell))
      → (c : Choice) → choose x.areas.store r ≡ c → CountsAfter p x m (made_then x.areas r content c follows)
  made_counts m few r content follows each RefuseStore is = weaker p n m x few h
  made_counts m few r content follows each (Take cell grows) is =
      let free = subst (MayReuse x.areas.store r) is (may x.areas.store r) in
      let y : State = record x { areas = record x.areas { store = with_content (made_by x.areas.store r (Take cell grows)) cell content } } in
      let one = grows-made choose x x y r content refl (Some (record { 0 = cell })) (grows, is, free.1, refl) in
      each y.areas cell free.0 one.births refl

  one_more : (y : Areas) → y.store.births ≤ x.areas.store.births + 1 → y.literals ≡ x.areas.literals → Counts p (n + 1) (record x { areas = y })
  one_more y one same =
      let left = ap unmade same in
      let all = h.births in record { births = omega (arith, one, left, all); literals = ap length same ∙ h.literals }

  literal_counts : (text : ℕ) → text < literal_count p.outline → is_there x.areas text ≡ false → (y : Areas) (cell : ℕ) → 0 < cell
      → y.store.births ≤ x.areas.store.births + 1 → y.literals ≡ x.areas.literals → Counts p (n + 0) (record x { areas = literal_made y text cell })
  literal_counts text inside none y cell some one same =
      let long = h.literals in
      let fewer = unmade-set x.areas.literals text cell (omega (arith, inside, long)) (none-is (slice_index_or x.areas.literals text 0) none) some in
      let left : unmade (slice_set y.literals text cell) ≡ unmade (slice_set x.areas.literals text cell) = ap (λ l. unmade (slice_set l text cell)) same in
      let all = h.births in
      record {
        births = omega (arith, one, fewer, left, all);
        literals = length-set y.literals text cell ∙ ap length same ∙ h.literals;
      }

  put_counts : (y : Areas) → y.store.births ≡ x.areas.store.births → y.literals ≡ x.areas.literals → Counts p (n + 0) (record x { areas = y })
  put_counts y births same =
      let left = ap unmade same in
      let all = h.births in record { births = omega (arith, births, left, all); literals = ap length same ∙ h.literals }

  action_counts : (action : Action) → IsFirst p.outline action → (made : List ℕ)
      → CountsAfter p x (n + weight action) (performed p.outline choose [] [] (action ∷ []) x.areas made)
  unfolding performed
  action_counts (Make t len content) first made =
      made_counts (n + 1) (omega arith) (requested p.outline t len false) content (λ y cell. Did y (made ++ cell ∷ []))
      (λ y cell some one same. one_more y one same) (choose x.areas.store (requested p.outline t len false)) refl
  action_counts (MakeFixed t) first made =
      made_counts (n + 1) (omega arith) (requested p.outline t 0 true) [] (λ y cell. Did y (made ++ cell ∷ []))
      (λ y cell some one same. one_more y one same) (choose x.areas.store (requested p.outline t 0 true)) refl
  action_counts (MakeLiteral text) first made = by_there (is_there x.areas text) refl where
    r : Request
    r = requested p.outline (literal_type p.outline text) (length (literal_text p.outline text)) true

    by_there : (b : Bool) → is_there x.areas text ≡ b
        → CountsAfter p x (n + 0) (cond b (Did x.areas made)
        (made_then x.areas r (literal_text p.outline text) (choose x.areas.store r) (λ y cell. Did (literal_made y text cell) made)))
    by_there true there = put_counts x.areas refl refl
    by_there false none =
        made_counts (n + 0) (omega arith) r (literal_text p.outline text) (λ y cell. Did (literal_made y text cell) made)
        (literal_counts text first none) (choose x.areas.store r) refl
  action_counts (Put object place k v) first made =
      let from : Sources = record { locals = []; stack = []; areas = x.areas; made = made } in
      let put = put_kept x.areas.store (cell_of (value_of from object)) place (kept k (value_of from v)) in
      put_counts _ put.0 refl
  action_counts (SetStatic slot k v) first made = put_counts _ refl refl
  action_counts (Start class) first made = put_counts _ refl refl
  action_counts (Free operand) first made = absurd first
  action_counts (SetChain operand to) first made = absurd first
  action_counts (FreeChain operand) first made = absurd first
  action_counts (Copy t len operand) first made = absurd first

-- ---- all of them

module _ (p : Program) (choose : Choose) (may : IsLawful choose) where
  opened_counts : (actions : List Action) (x : State) (n m : ℕ) → Counts p n x → AllByRecursion (IsFirst p.outline) actions → n + weights actions ≤ m
      → (made : List ℕ) (follows : State → List ℕ → State)
      → ((y : State) (cells : List ℕ) → Counts p (n + weights actions) y → Counts p m (follows y cells)) → Counts p m (opened_by p choose actions x made follows)
  opened_counts [] x n m h first few made follows each = each x made (weaker p n (n + 0) x (omega arith) h)
  opened_counts (action ∷ more) x n m h first few made follows each =
      by_over
      (λ areas cells counts. opened_counts more (record x { areas = areas }) (n + weight action) m counts first.1 (omega (arith, few)) cells follows
      (λ y last all. each y last (weaker p (n + weight action + weights more) (n + (weight action + weights more)) y (omega arith) all)))
      (is_over p.outline x.areas (action ∷ [])) where
        rest : State → List ℕ → State
        rest y cells = opened_by p choose more y cells follows

        IsNext : Type 0
        IsNext =
            (areas : Areas) (cells : List ℕ) → Counts p (n + weight action) (record x { areas = areas }) → Counts p m (rest (record x { areas = areas }) cells)

        stays : (y : State) → Counts p (n + weight action) y → Counts p m y
        stays y counts = weaker p (n + weight action) m y (omega (arith, few)) counts

        by_result : IsNext → (result : Performed) → CountsAfter p x (n + weight action) result → Counts p m (after_action x result rest)
        by_result next (Did areas cells) counts = next areas cells counts
        by_result next (FullAt areas needed) counts =
            let all = stays (record x { areas = areas }) counts in record { births = all.births; literals = all.literals }
        by_result next (LostAt v) counts = weaker p n m x (omega (arith, few)) h

        by_over : IsNext → (b : Bool)
            → Counts p m (cond b (stopped x (end.Exhausted (live_words x.areas.store) (words_made p.outline x.areas (action ∷ []))))
            (after_action x (performed p.outline choose [] [] (action ∷ []) x.areas made) rest))
        by_over next true = let all = weaker p n m x (omega (arith, few)) h in record { births = all.births; literals = all.literals }
        by_over next false =
            by_result next (performed p.outline choose [] [] (action ∷ []) x.areas made) (action_counts p choose may x n h action first.0 made)

-- ---- the actions of the opening

arguments_first : (o : Outline) (place : ℕ) (texts : List (List ℕ)) → AllByRecursion (IsFirst o) (argument_actions o place texts)
arguments_first o place [] = tt
arguments_first o place (text ∷ texts) = (tt, (tt, arguments_first o (place + 1) texts))

arguments_weigh : (o : Outline) (place : ℕ) (texts : List (List ℕ)) → weights (argument_actions o place texts) ≡ length texts
arguments_weigh o place [] = refl
arguments_weigh o place (text ∷ texts) = let rest = arguments_weigh o (place + 1) texts in omega (arith, rest)

objects_first : (o : Outline) (job : Job) → AllByRecursion (IsFirst o) (opening_actions o job)
unfolding opening_actions
objects_first o job = (tt, (tt, (tt, arguments_first o 0 job.arguments)))

objects_weigh : (o : Outline) (job : Job) → weights (opening_actions o job) ≡ length job.arguments + 3
unfolding opening_actions
objects_weigh o job = let rest = arguments_weigh o 0 job.arguments in omega (arith, rest)

start_first : (o : Outline) (action : Action) → IsOfStart action → StartFits o action → IsFirst o action × (weight action ≡ 0)
start_first o (MakeLiteral text) of_start fits = let inside = fits.0 in (omega (arith, inside), refl)
start_first o (SetStatic slot k v) of_start fits = (tt, refl)
start_first o (Start class) of_start fits = (tt, refl)
start_first o action of_start fits = absurd of_start

starts_first : (o : Outline) (actions : List Action) → AllByRecursion IsOfStart actions → AllByRecursion (StartFits o) actions
    → AllByRecursion (IsFirst o) actions × (weights actions ≡ 0)
starts_first o [] all fits = (tt, refl)
starts_first o (action ∷ more) all fits =
    let one = start_first o action all.0 fits.0 in
    let rest = starts_first o more all.1 fits.1 in
    let none = one.1 in
    let no_more = rest.1 in ((one.0, rest.0), omega (arith, none, no_more))

-- ---- the opening

framed_counts : (p : Program) (n : ℕ) (x : State) (frames : List Frame) → Counts p n x → Counts p n (framed x frames)
framed_counts p n x frames h = by_deep (nat_lt x.depth (length frames)) where
  by_deep : (b : Bool) → Counts p n (cond b (stopped (record x { frames = [] }) (end.TooDeep 1)) (record x { frames = frames }))
  by_deep true = record { births = h.births; literals = h.literals }
  by_deep false = record { births = h.births; literals = h.literals }

first_counts : (p : Program) (job : Job) (store : Store) → Counts p (store.births + literal_count p.outline) (unopened p job (first_areas p.outline store))
first_counts p job store =
    let cells : List ℕ = replicate (literal_count p.outline) 0 in
    let long : length cells ≡ literal_count p.outline = length-replicate (literal_count p.outline) 0 in
    let left : unmade cells ≤ length cells = count_by-le-length (λ cell. cell == 0) cells in
    record { births = omega (arith, long, left); literals = long }

opening_counts : (p : Program) (choose : Choose) (job : Job) (store : Store) → IsLawful choose → CanRun p
    → Counts p (store.births + literal_count p.outline + (length job.arguments + 3)) (opening p choose job store).state
unfolding opening
opening_counts p choose job store may can =
    let o : Outline = p.outline in
    let n : ℕ = store.births + literal_count o in
    let objects = objects_weigh o job in
    let starts = starts_first o (start_actions o (opening_classes o)) (start_made o (opening_classes o)) (start_fits p can) in
    let none = starts.1 in
    opened_counts p choose may (opening_actions o job) (unopened p job (first_areas o store)) n (n + (length job.arguments + 3)) (first_counts p job store)
    (objects_first o job) (omega (arith, objects)) []
    (λ x made. opened_by p choose (start_actions o (opening_classes o)) (record x { areas = with_streams x.areas made }) made
    (λ y cells. framed y (opening_frames p (start_methods o (opening_classes o)) (slice_index_or made 2 0))))
    (λ x made all.
    opened_counts p choose may (start_actions o (opening_classes o)) (record x { areas = with_streams x.areas made }) (n + weights (opening_actions o job))
    (n + (length job.arguments + 3)) (record { births = all.births; literals = all.literals }) starts.0 (omega (arith, objects, none)) made
    (λ y cells. framed y (opening_frames p (start_methods o (opening_classes o)) (slice_index_or made 2 0)))
    (λ y cells last.
    framed_counts p (n + (length job.arguments + 3)) y (opening_frames p (start_methods o (opening_classes o)) (slice_index_or made 2 0))
    (weaker p (n + weights (opening_actions o job) + weights (start_actions o (opening_classes o))) (n + (length job.arguments + 3)) y
    (omega (arith, objects, none)) last)))

-- the objects of the opening, with all literals, are no more than the literals and what main is given
pub opened_births : (p : Program) (choose : Choose) (job : Job) (store : Store) → IsLawful choose → CanRun p
    → (opening p choose job store).state.areas.store.births + unmade (opening p choose job store).state.areas.literals
    ≤ store.births + literal_count p.outline + (length job.arguments + 3)
opened_births p choose job store may can = (opening_counts p choose job store may can).births
