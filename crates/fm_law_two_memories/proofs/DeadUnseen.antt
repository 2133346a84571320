-- What is dead isn't seen, so a run goes on alike where it is freed.
use Rattle.std.proofs.Common.{◌≡◌, ℕ, zero, suc, ◌+◌, ◌≤◌, inl, inr, ◌==◌, true, false, List, [], ◌∷◌, slice_get, Some, None, refl, sym, ◌∙◌, ap, subst, slice_index_or, arith, ⊎_elim}
use Rattle.std.specs.List.{AllByRecursion}
use Rattle.std.proofs.lemmas.Bool.{cases_Bool, eqb-true, false≢true, or_cases}
use Rattle.std.proofs.lemmas.Option.{same_Some}
use Rattle.fm_base.specs.declared.limits.TheConstants.{MAX_LIVE_WORDS}
use Rattle.fm_cells.specs.Choices.{lawful}
use Rattle.fm_cells.specs.Objects.{Object}
use Rattle.fm_cells.specs.Stores.{object_at, opened, Store}
use Rattle.fm_conn.specs.Facts.{Facts}
use Rattle.fm_world.specs.Programs.{Outline, Program}
use Rattle.fm_frames.specs.Acts.{cell_of, Choose, freed}
use Rattle.fm_frames.specs.Runs.{after, Job, opening}
use Rattle.fm_frames.specs.Sights.{type_numbered}
use Rattle.fm_frames.specs.States.{Frame, Moved, State}
use Rattle.fm_frames.specs.Steps.{step}
use Rattle.fm_frames.specs.declared.values.Value.{Value}
use Rattle.fm_law_sound.proofs.Counts.{words_few}
use Rattle.fm_law_sound.proofs.RunsSound.{runs_sound}
use Rattle.fm_law_sound.specs.Making.{ArgumentsFit}
use Rattle.fm_law_sound.specs.Sound.{IsSoundBy}
use Rattle.fm_law_two_memories.specs.Hidden.{HiddenComesFirst}
use Rattle.fm_law_two_memories.specs.Pairing.{EndAlike, Gone, none_gone, with_gone}
use Rattle.fm_law_two_memories.specs.Results.{IsFewGone, KeepsLimits}
use Rattle.fm_law_two_memories.specs.Runs.{IsWithoutFrees}
use Rattle.fm_law_two_memories.specs.Seeing.{IsSeen, IsThere, SeesNothingGone}
use Rattle.fm_law_two_memories.specs.Unseen.{DeadIsUnseen, GoesAsFar, with_freed}
use Rattle.fm_law_two_memories.proofs.FreesSame.{freed_areas, freed_frames, freed_limits}
use Rattle.fm_law_two_memories.proofs.RunsSame.{runs_alike}
use Rattle.fm_law_two_memories.proofs.StepSame.{AlikeStill, Both, GoesAlike, OneLacks, OtherIsFull, OtherLacks}
use Rattle.fm_law_two_memories.proofs.TwoMemories.{all_go_alike, ready_for}
use Rattle.fm_same.specs.DeadRegions.{InWord, IsDead, IsRoot, IsStep, IsTrail, LeadsTo, states_of}

-- ---- what nothing leads to isn't seen

module _ (gone : Gone) (o : Outline) (hidden : HiddenComesFirst o) (store : Store) (loose : (cell : ℕ) (object : Object) → object_at store cell ≡ Some object → gone.births object.birth ≡ true → object.fixed ≡ false) where
  -- the value leads to nothing that is gone
  abbrev LeadsToNothingGone : Value → Type 0
  LeadsToNothingGone v = (birth : ℕ) → gone.births birth ≡ true → ¬ LeadsTo o store v birth

  there_at_end : (v : Value) (trail : List ℕ) (cell : ℕ) → IsTrail o store (cell_of v) trail cell → LeadsToNothingGone v → IsThere gone store cell
  there_at_end v trail cell follows unled object held =
      ⊎_elim (λ lost. absurd (unled object.birth lost (record {
        trail = trail;
        last = cell;
        follows = follows;
        object = object;
        held = held;
        not_fixed = loose cell object held lost;
        is = refl;
      }))) (λ there. there) (cases_Bool (gone.births object.birth))

  seen : (v : Value) → LeadsToNothingGone v → IsSeen gone o store v
  seen v unled = record {
    word = there_at_end v [] (cell_of v) refl unled;
    hidden = λ object held hides.
        let text : ℕ = slice_index_or object.elements 0 0 in
        let first = hidden (type_numbered o object.class) hides in
        let step : IsStep o store (cell_of v) text =
        record { object = object; held = held; place = 0; type = first.0; reference = first.1; leads = refl } in
        there_at_end v (text ∷ []) text (step, refl) unled;
  }

  -- no root leads to what is gone
  module _ (facts : Facts) where
    words_seen : (words : List Value) → ((n : ℕ) (v : Value) → slice_get words n ≡ Some v → LeadsToNothingGone v) → AllByRecursion (IsSeen gone o store) words
    words_seen [] unled = tt
    words_seen (v ∷ words) unled = (seen v (unled 0 v refl), words_seen words (λ n w at. unled (suc n) w at))

    pub nothing_seen : (z : State) (frames : List Frame) → ((v : Value) → IsRoot facts frames v → LeadsToNothingGone v) → z.areas.store ≡ store
        → SeesNothingGone gone o (record z { frames = frames })
    nothing_seen z [] unled same = tt
    nothing_seen z (f ∷ callers) unled same =
        subst (λ s. AllByRecursion (IsSeen gone o s) f.stack) (sym same) (words_seen f.stack (λ n v at. unled v (inl (InWord n at))))

-- ---- a run goes on from one of its states

-- as many steps more
steps_on : (p : Program) (choose : Choose) (x : Moved) (first k : ℕ)
    → (after p choose k (record { state = (after p choose first x).state; printed = [] })).state ≡ (after p choose (k + first) x).state
unfolding after
steps_on p choose x first zero = let index : first ≡ 0 + first = omega arith in ap (λ n. (after p choose n x).state) index
steps_on p choose x first (suc k) =
    let index : suc (k + first) ≡ suc k + first = omega arith in
    ap (λ (y : State). (step p choose y).state) (steps_on p choose x first k) ∙ ap (λ n. (after p choose n x).state) index

-- ---- the object is freed

-- a run beside itself, which goes on, has neither want of words nor of room
itself : (o : Outline) (budget : ℕ) (x : Moved) → x.state.ended ≡ None → GoesAlike none_gone o budget budget None x x
    → AlikeStill none_gone o budget budget None x.state x.state
itself o budget x going (Both still printed) = still
itself o budget x going (OneLacks less lacks prefix) = absurd (omega (arith, less))
itself o budget x going (OtherLacks less lacks prefix) = absurd (omega (arith, less))
itself o budget x going (OtherIsFull small full prefix) = let no : None ≡ Some small.0 = small.1 in absurd (cc)

module _ (o : Outline) (budget : ℕ) (x : State) (still : AlikeStill none_gone o budget budget None x x) (cell : ℕ) (object : Object) (held : object_at x.areas.store cell ≡ Some object) (loose : object.fixed ≡ false) (going : x.ended ≡ None) where
  abbrev lost : Gone
  lost = with_gone none_gone object

  limits : KeepsLimits x.areas.store (freed x.areas cell).store
  limits = freed_limits none_gone o x.areas x.areas still.paired.areas cell object held loose

  pub freed_alike : AlikeStill (with_gone none_gone object) o budget budget None x (with_freed x cell)
  freed_alike = record {
    paired = record {
      frames = freed_frames none_gone o x.areas x.areas still.paired.areas cell object held loose x.frames x.frames still.paired.frames;
      areas = freed_areas none_gone o x.areas x.areas still.paired.areas cell object held loose;
      input = refl;
      depth = refl;
      steps = refl;
      ended = subst (λ e. EndAlike lost x.areas.store (freed x.areas cell).store e x.ended) (sym going) going;
    };
    unlimited = still.unlimited;
    budget_is = still.budget_is;
    limit_is = limits.limit ∙ still.limit_is;
    other_is = limits.budget ∙ still.other_is;
  }

  -- an object that is gone is the freed one
  is_lost : (birth : ℕ) → lost.births birth ≡ true → birth ≡ object.birth
  is_lost birth is = ⊎_elim (λ same. eqb-true birth object.birth same) (λ no. absurd (false≢true no)) (or_cases (birth == object.birth) false is)

-- the second run never ends first
as_far : (gone : Gone) (o : Outline) (budget : ℕ) (x y : Moved) → GoesAlike gone o budget budget None x y → GoesAsFar gone o x y
as_far gone o budget x y (Both still printed) = inl (still.paired, printed)
as_far gone o budget x y (OneLacks less lacks prefix) = inr (lacks, prefix)
as_far gone o budget x y (OtherLacks less lacks prefix) = absurd (omega (arith, less))
as_far gone o budget x y (OtherIsFull small full prefix) = let no : None ≡ Some small.0 = small.1 in absurd (cc)

module _ (p : Program) (facts : Facts) (h : IsWithoutFrees p facts.typing) (choose : Choose) (job : Job) (given : ArgumentsFit job.arguments) (budget : ℕ) (free : List (List ℕ)) (few : budget ≤ MAX_LIVE_WORDS) where
  abbrev begins : Moved
  begins = opening p (lawful choose) job (opened budget None free)

  abbrev xs : ℕ → State
  xs = states_of p choose job (opened budget None free)

  sound_at : (k : ℕ) → IsSoundBy p facts.typing (xs k)
  sound_at k = runs_sound p facts.typing h.typed h.steps h.makes h.main choose job given budget None free few k

  still_at : (k : ℕ) → (xs k).ended ≡ None → AlikeStill none_gone p.outline budget budget None (xs k) (xs k)
  still_at k going =
      itself p.outline budget (after p (lawful choose) k begins) going
      (all_go_alike p facts.typing h choose choose job given budget budget None free free few k)

  module _ (birth first : ℕ) (dead : (k : ℕ) → first ≤ k → IsDead p facts birth (xs k) (xs (suc k))) (going : (xs first).ended ≡ None) (cell : ℕ) (object : Object) (held : object_at (xs first).areas.store cell ≡ Some object) (loose : object.fixed ≡ false) (is : object.birth ≡ birth) where
    abbrev without : Gone
    without = with_gone none_gone object

    still_first : AlikeStill none_gone p.outline budget budget None (xs first) (xs first)
    still_first = still_at first going

    few_words : IsFewGone without
    few_words =
        let words = words_few p.outline h.steps.calls.runnable.sizes object ((sound_at first).areas.heap cell object held) in omega (arith, words)

    -- the object stays where it is, as it is
    stays : (k : ℕ) → object_at (xs (k + first)).areas.store cell ≡ Some object
    stays zero = let index : first ≡ 0 + first = omega arith in subst (λ n. object_at (xs n).areas.store cell ≡ Some object) index held
    stays (suc k) =
        let index : suc (k + first) ≡ suc k + first = omega arith in
        subst (λ n. object_at (xs n).areas.store cell ≡ Some object) index ((dead (k + first) (omega arith)).still cell object (stays k) loose is)

    of_object : (other : ℕ) → without.births other ≡ true → other ≡ object.birth
    of_object other lost = is_lost p.outline budget (xs first) still_first cell object held loose going other lost

    -- what is gone is the object itself
    only_loose : (k : ℕ) → (xs (k + first)).ended ≡ None → (at : ℕ) (found : Object) → object_at (xs (k + first)).areas.store at ≡ Some found
        → without.births found.birth ≡ true → found.fixed ≡ false
    only_loose k goes at found there lost =
        let orderly = (still_at (k + first) goes).paired.areas.store.orderly in
        let cells : at ≡ cell = orderly.births_apart at cell found object there (stays k) (of_object found.birth lost) in
        let same : found ≡ object = same_Some found object (sym there ∙ ap (object_at (xs (k + first)).areas.store) cells ∙ stays k) in
        ap (λ (x : Object). x.fixed) same ∙ loose

    sees_nothing : (k : ℕ) → (xs (k + first)).ended ≡ None → SeesNothingGone without p.outline (xs (k + first))
    sees_nothing k goes =
        nothing_seen without p.outline h.hidden (xs (k + first)).areas.store (only_loose k goes) facts (xs (k + first)) (xs (k + first)).frames
        (λ v root other lost. subst (λ b. ¬ LeadsTo p.outline (xs (k + first)).areas.store v b) (sym (of_object other lost ∙ is))
        ((dead (k + first) (omega arith)).no_root v root)) refl

    pub goes_on_without : (other : Choose) (k : ℕ)
        → GoesAsFar without p.outline (after p (lawful choose) k (record { state = xs first; printed = [] }))
        (after p (lawful other) k (record { state = with_freed (xs first) cell; printed = [] }))
    goes_on_without other k =
        as_far without p.outline budget _ _
        (runs_alike without few_words p facts.typing (ready_for p facts.typing h) choose other budget budget None few
        (record { state = xs first; printed = [] }) (record { state = with_freed (xs first) cell; printed = [] }) (sound_at first)
        (λ j. subst (λ (y : State). y.ended ≡ None → SeesNothingGone without p.outline y) (sym (steps_on p (lawful choose) begins first j)) (sees_nothing j))
        (Both (freed_alike p.outline budget (xs first) still_first cell object held loose going) refl) k)

pub dead_is_unseen : DeadIsUnseen
dead_is_unseen p facts h choose job given budget free few birth first dead going cell object held loose is other k =
    goes_on_without p facts h choose job given budget free few birth first dead going cell object held loose is other k
