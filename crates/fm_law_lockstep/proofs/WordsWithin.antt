-- No more words live after a step than may.
use Rattle.std.proofs.Common.{◌≡◌, ℕ, ◌+◌, ◌<◌, ◌≤◌, ◌&&◌, ◌||◌, Bool, true, false, cond, List, [], ◌∷◌, ◌++◌, length, max, min, nat_lt, None, ⊎_elim, refl, sym, ap, subst, ◌∙◌, arith}
use Rattle.std.proofs.lemmas.Bool.{and_from, cases_lt, false≢true, lt-ltb}
use Rattle.std.proofs.lemmas.List.{length-set}
use Rattle.std.specs.List.{AllByRecursion}
use Rattle.fm_base.specs.declared.kinds.TypeRef.{TypeRef}
use Rattle.fm_cells.proofs.Choices.{lawful_choice-may}
use Rattle.fm_cells.proofs.StoreLaws.{live_words-put_by}
use Rattle.fm_cells.specs.Changes.{Choice, made_by, put_by, RefuseStore, Take}
use Rattle.fm_cells.specs.Choices.{lawful, MayReuse}
use Rattle.fm_cells.specs.Objects.{Request, request_words}
use Rattle.fm_cells.specs.Stores.{elements_at, live_words, Store}
use Rattle.fm_frames.proofs.StepCounts.{step_going}
use Rattle.fm_frames.proofs.Underways.{none-made}
use Rattle.fm_frames.specs.Acts.{cell_of, Choose, class_started, copied, Did, FullAt, is_there, literal_made, literal_text, literal_type, LostAt, made_then, performed, Performed, requested, set_static, Sources, value_of, with_content}
use Rattle.fm_frames.specs.Effects.{Action, Copy, Effect, Free, FreeChain, Make, MakeFixed, MakeLiteral, Put, SetChain, SetStatic, Start}
use Rattle.fm_frames.proofs.Resized.{length-resized}
use Rattle.fm_frames.specs.Elements.{kept}
use Rattle.fm_frames.specs.Literals.{literal_count}
use Rattle.fm_frames.specs.States.{Areas, Frame, Moved, State, word_at}
use Rattle.fm_frames.specs.Steps.{finished, input_after, is_deep, is_done, is_over, makes, most_words, next_effect, objects_made, step, words_among}
use Rattle.fm_law_lockstep.specs.Limits.{StepsStayWithin}
use Rattle.fm_law_same_runs.specs.Beside.{most_original_words}
use Rattle.fm_law_sound.proofs.Following.{continued_is, followed_areas}
use Rattle.fm_law_sound.proofs.NextActs.{next_acts_fit}
use Rattle.fm_law_sound.proofs.StepsSound.{moved_by}
use Rattle.fm_law_sound.specs.Acting.{ActsFit, ContentFits}
use Rattle.fm_law_sound.specs.Leading.{sources_of}
use Rattle.fm_law_sound.specs.Making.{MakesFew}
use Rattle.fm_law_sound.specs.Sound.{IsSoundBy, Typings}
use Rattle.fm_law_two_memories.proofs.Limits.{words_filled, words_full}
use Rattle.fm_law_two_memories.proofs.TwoMemories.{next_effects_alike}
use Rattle.fm_law_two_memories.proofs.WordsSame.{next_within, Room, Within, within_literal, within_rest, within_there}
use Rattle.fm_law_two_memories.specs.Reading.{ActsAlike}
use Rattle.fm_law_two_memories.specs.Runs.{IsWithoutFrees}
use Rattle.fm_world.specs.Programs.{Outline, Program}

-- ---- what actions need

-- one budget, of which nothing is gone
abbrev room_of : ℕ → Room
room_of budget = record { first = budget; second = budget; gone = 0 }

-- what isn't over the budget fits, as so few words are counted exactly
fits_beside : (needed live budget : ℕ) → budget ≤ most_original_words → 0 < needed
    → (nat_lt 0 (min needed most_words) && nat_lt budget (live + min needed most_words)) ≡ false → live + needed ≤ budget
fits_beside needed live budget few some within =
    let positive : nat_lt 0 (min needed most_words) ≡ true = lt-ltb 0 (min needed most_words) (omega (arith, some)) in
    ⊎_elim
    (λ past.
    absurd (false≢true (sym within
    ∙ and_from (nat_lt 0 (min needed most_words)) (nat_lt budget (live + min needed most_words)) positive
    (lt-ltb budget (live + min needed most_words) past))))
    (λ inside. omega (arith, inside, few)) (cases_lt budget (live + min needed most_words))

first_within : (o : Outline) (x : Areas) (actions : List Action) → x.store.budget ≤ most_original_words → is_over o x actions ≡ false
    → Within o (room_of x.store.budget) x actions
first_within o x actions few not_over some = by_making (makes actions) refl where
  by_making : (b : Bool) → makes actions ≡ b
      → (live_words x.store + words_among o x [] actions ≤ x.store.budget) × (live_words x.store + words_among o x [] actions + 0 ≤ x.store.budget)
  by_making false none = let nothing : words_among o x [] actions ≡ 0 = none-made o x [] actions none in absurd (omega (arith, some, nothing))
  by_making true making =
      let fits : live_words x.store + words_among o x [] actions ≤ x.store.budget =
      fits_beside (words_among o x [] actions) (live_words x.store) x.store.budget few some
      (sym
      (ap
      (λ b. cond b
      (nat_lt 0 (min (words_among o x [] actions) most_words)
      && nat_lt x.store.budget (live_words x.store + min (words_among o x [] actions) most_words)) false) making)
      ∙ not_over) in
      (omega (arith, fits), omega (arith, fits))

-- ---- all actions, one after the other

-- no more words live than this
abbrev LivesWithin : ℕ → Performed → Type 0
LivesWithin budget (Did x made) = live_words x.store ≤ budget
LivesWithin budget (FullAt x needed) = live_words x.store ≤ budget
LivesWithin budget (LostAt v) = Unit {0}

either_within : (budget : ℕ) (b : Bool) (one other : Performed) → (b ≡ true → LivesWithin budget one) → (b ≡ false → LivesWithin budget other)
    → LivesWithin budget (cond b one other)
either_within budget true one other first second = first refl
either_within budget false one other first second = second refl

module _ (budget : ℕ) (o : Outline) (choose : Choose) (store : Store) (f : Frame) where
  abbrev room : Room
  room = room_of budget

  abbrev may : (s : Store) (request : Request) → MayReuse s request (lawful choose s request)
  may s request = lawful_choice-may s request (choose s request)

  abbrev rest_of : List Action → Areas → List ℕ → Performed
  rest_of actions x made = performed o (lawful choose) f.locals f.stack actions x made

  made_within : (x : Areas) (t : TypeRef) (len : ℕ) (content : List ℕ) (fixed : Bool) (choice : Choice) → MayReuse x.store (requested o t len fixed) choice
      → ContentFits o t len content → (follows : Areas → ℕ → Performed) → live_words x.store ≤ budget
      → ((later : Store) (cell : ℕ) → 0 < cell → live_words later ≡ live_words x.store + request_words (requested o t len fixed)
      → LivesWithin budget (follows (record x { store = later }) cell))
      → LivesWithin budget (made_then x (requested o t len fixed) content choice follows)
  made_within x t len content fixed RefuseStore may_be fits follows live rest = live
  made_within x t len content fixed (Take cell grows) may_be fits follows live rest =
      rest (with_content (made_by x.store (requested o t len fixed) (Take cell grows)) cell content) cell may_be.0
      (words_filled o t x.store (requested o t len fixed) cell grows content fits may_be.1)

  copy_within : (x : Areas) (t : TypeRef) (len : ℕ) (content : List ℕ) (choice : Choice) → MayReuse x.store (requested o t len false) choice
      → length content ≡ len → (follows : Areas → ℕ → Performed) → live_words x.store ≤ budget
      → ((later : Store) (cell : ℕ) → live_words later ≡ live_words x.store + request_words (requested o t len false)
      → LivesWithin budget (follows (record x { store = later }) cell))
      → LivesWithin budget (made_then x (requested o t len false) content choice follows)
  copy_within x t len content RefuseStore may_be all follows live rest = live
  copy_within x t len content (Take cell grows) may_be all follows live rest =
      rest (with_content (made_by x.store (requested o t len false) (Take cell grows)) cell content) cell
      (words_full x.store (requested o t len false) cell grows content all may_be.1)

  acts_within : (actions : List Action) (x : Areas) (types : List TypeRef) (made : List ℕ) → Within o (room_of budget) x actions → ActsFit o store f types actions
      → AllByRecursion (ActsAlike o store f) actions → length x.literals ≡ literal_count o → live_words x.store ≤ budget
      → LivesWithin budget (performed o (lawful choose) f.locals f.stack actions x made)
  unfolding performed
  acts_within [] x types made within fit alikes literals live = live
  acts_within (Make t len content ∷ more) x types made within fit alikes literals live =
      let words : ℕ = request_words (requested o t len false) in
      let room_left = next_within o room x (Make t len content) more words refl (omega arith) within in
      let fits : live_words x.store + words ≤ budget = room_left.0 in
      made_within x t len content false (lawful choose x.store (requested o t len false)) (may x.store (requested o t len false)) fit.0.content_fits
      (λ areas cell. rest_of more areas (made ++ cell ∷ [])) live
      (λ later cell some is. acts_within more (record x { store = later }) (types ++ t ∷ []) (made ++ cell ∷ [])
      (within_rest o room x (Make t len content) more (record x { store = later }) refl refl (omega (arith, is)) within) fit.1 alikes.1 literals
      (omega (arith, fits, is)))
  acts_within (MakeFixed t ∷ more) x types made within fit alikes literals live =
      let words : ℕ = request_words (requested o t 0 true) in
      let room_left = next_within o room x (MakeFixed t) more words refl (omega arith) within in
      let fits : live_words x.store + words ≤ budget = room_left.0 in
      made_within x t 0 [] true (lawful choose x.store (requested o t 0 true)) (may x.store (requested o t 0 true)) fit.0.content_fits
      (λ areas cell. rest_of more areas (made ++ cell ∷ [])) live
      (λ later cell some is. acts_within more (record x { store = later }) (types ++ t ∷ []) (made ++ cell ∷ [])
      (within_rest o room x (MakeFixed t) more (record x { store = later }) refl refl (omega (arith, is)) within) fit.1 alikes.1 literals
      (omega (arith, fits, is)))
  acts_within (MakeLiteral text ∷ more) x types made within fit alikes literals live =
      let t : TypeRef = literal_type o text in
      let len : ℕ = length (literal_text o text) in
      let words : ℕ = request_words (requested o t len true) in
      let known : text < literal_count o = alikes.0 in
      either_within budget (is_there x text) _ _
      (λ there. acts_within more x types made (within_there o room x text more there within) fit.1 alikes.1 literals live)
      (λ none.
      let room_left =
      next_within o room x (MakeLiteral text) more words (ap (λ b. cond (b || false) 0 words) none) (omega arith) within in
      let fits : live_words x.store + words ≤ budget = room_left.0 in
      made_within x t len (literal_text o text) true (lawful choose x.store (requested o t len true)) (may x.store (requested o t len true))
      fit.0.content_fits (λ areas cell. rest_of more (literal_made areas text cell) made) live
      (λ later cell some is. acts_within more (literal_made (record x { store = later }) text cell) types made
      (within_literal o x text later cell (omega (arith, known, literals)) some room more none is within) fit.1 alikes.1
      (length-set x.literals text cell ∙ literals) (omega (arith, fits, is))))
  acts_within (Put object place k v ∷ more) x types made within fit alikes literals live =
      let from : Sources = record { locals = f.locals; stack = f.stack; areas = x; made = made } in
      let cell : ℕ = cell_of (value_of from object) in
      let element : ℕ = kept k (value_of from v) in
      let words : live_words (put_by x.store cell place element) ≡ live_words x.store = live_words-put_by x.store cell place element in
      acts_within more (record x { store = put_by x.store cell place element }) types made
      (within_rest o room x (Put object place k v) more (record x { store = put_by x.store cell place element }) refl refl (omega (arith, words)) within)
      fit.2 alikes.1 literals (omega (arith, words, live))
  acts_within (SetStatic slot k v ∷ more) x types made within fit alikes literals live =
      let from : Sources = record { locals = f.locals; stack = f.stack; areas = x; made = made } in
      acts_within more (set_static x slot k (value_of from v)) types made
      (within_rest o room x (SetStatic slot k v) more (set_static x slot k (value_of from v)) refl refl (omega arith) within) fit.1 alikes.1 literals live
  acts_within (Start class ∷ more) x types made within fit alikes literals live =
      acts_within more (class_started x class) types made
      (within_rest o room x (Start class) more (class_started x class) refl refl (omega arith) within) fit alikes.1 literals live
  acts_within (Free operand ∷ more) x types made within fit alikes literals live = absurd alikes.0
  acts_within (SetChain operand to ∷ more) x types made within fit alikes literals live = absurd alikes.0
  acts_within (FreeChain operand ∷ more) x types made within fit alikes literals live = absurd alikes.0
  acts_within (Copy t len operand ∷ more) x types made within fit alikes literals live =
      let words : ℕ = request_words (requested o t len false) in
      let room_left = next_within o room x (Copy t len operand) more words refl (omega arith) within in
      let fits : live_words x.store + words ≤ budget = room_left.0 in
      let from : ℕ = cell_of (word_at f.stack operand) in
      copy_within x t len (copied x.store from len) (lawful choose x.store (requested o t len false)) (may x.store (requested o t len false))
      (length-resized (elements_at x.store from) len) (λ areas cell. rest_of more areas (made ++ cell ∷ [])) live
      (λ later cell is. acts_within more (record x { store = later }) (types ++ t ∷ []) (made ++ cell ∷ [])
      (within_rest o room x (Copy t len operand) more (record x { store = later }) refl refl (omega (arith, is)) within) fit.1 alikes.1 literals
      (omega (arith, fits, is)))

-- ---- a step

-- what comes next leaves the store
finished_within : (budget : ℕ) (p : Program) (price : ℕ) (e : Effect) (z : State) (f : Frame) (callers : List Frame) (result : Performed)
    → live_words z.areas.store ≤ budget → LivesWithin budget result
    → live_words (finished p price e (record z { frames = f ∷ callers }) result).areas.store ≤ budget
finished_within budget p price e z f callers (FullAt areas needed) live h = h
finished_within budget p price e z f callers (LostAt v) live h = live
finished_within budget p price e z f callers (Did areas made) live h =
    subst (λ n. n ≤ budget)
    (sym
    (ap (λ (y : State). live_words y.areas.store) (continued_is p (sources_of f areas made) e f callers done)
    ∙ ap (λ (a : Areas). live_words a.store) (followed_areas p (sources_of f areas made) e f callers done e.next)))
    h where
      done : State
      done = record z {
        frames = f ∷ callers;
        areas = areas;
        input = input_after e.reads z.input;
        steps = cond (is_done e.next) (z.steps + price) z.steps;
      }

frames_within : (p : Program) (typings : Typings) → IsWithoutFrees p typings → (choose : Choose) (z : State) (frames : List Frame)
    → IsSoundBy p typings (record z { frames = frames }) → MakesFew p (record z { frames = frames }) → z.ended ≡ None
    → z.areas.store.budget ≤ most_original_words → live_words z.areas.store ≤ z.areas.store.budget
    → live_words (step p (lawful choose) (record z { frames = frames })).state.areas.store ≤ z.areas.store.budget
frames_within p typings without choose z [] sound makes_few going few live =
    let some = sound.running going in absurd (omega (arith, some))
frames_within p typings without choose z (f ∷ callers) sound makes_few going few live =
    subst (λ (m : Moved). live_words m.state.areas.store ≤ z.areas.store.budget) (sym (step_going p (lawful choose) x going))
    (moved_by (λ (s : State). live_words s.areas.store ≤ z.areas.store.budget) (is_deep x e.next) _ _ (λ deep. live)
    (λ shallow. moved_by (λ (s : State). live_words s.areas.store ≤ z.areas.store.budget) (is_over p.outline z.areas e.actions) _ _ (λ over. live)
    (λ within. finished_within z.areas.store.budget p (max 1 (objects_made e.actions)) e z f callers
    (performed p.outline (lawful choose) f.locals f.stack e.actions z.areas []) live
    (acts_within z.areas.store.budget p.outline choose z.areas.store f e.actions z.areas [] [] (first_within p.outline z.areas e.actions few within)
    (next_acts_fit p typings without.steps without.makes x sound makes_few f callers refl within)
    (next_effects_alike p typings without z f callers sound.frames.0).acts sound.areas.literals live)))) where
      x : State
      x = record z { frames = f ∷ callers }

      e : Effect
      e = next_effect p x

pub steps_stay_within : StepsStayWithin
steps_stay_within p typings without choose x sound makes_few going few live =
    frames_within p typings without choose x x.frames sound makes_few going few live
