-- What lies ahead of a frame after a step of both that go on: holders start, or keep what a site gave, and hold what they may before anything is freed.
use Rattle.std.proofs.Common.{◌≡◌, ◌≢◌, ◌<◌, ◌+◌, ℕ, suc, false, List, [], ◌∷◌, ◌++◌, length, Some, None, Contains, get_or, refl, sym, ap, subst, ◌∙◌, arith}
use Rattle.std.specs.List.{range_with_len}
use Rattle.std.proofs.lemmas.List.Elements.{length_all_zip}
use Rattle.std.proofs.lemmas.List.{length-map}
use Rattle.std.proofs.lemmas.Option.{slice_get-get_or}
use Rattle.fm_base.proofs.ContainsFacts.{Contains-none}
use Rattle.fm_cells.specs.Choices.{lawful}
use Rattle.fm_cells.specs.Soundness.{IsOrderly}
use Rattle.fm_cells.specs.Stores.{Store}
use Rattle.fm_chain.specs.Chained.{looped_at}
use Rattle.fm_code.specs.declared.code_array.Code.{Code}
use Rattle.fm_conn.specs.Links.{typed_method}
use Rattle.fm_frames.specs.Acts.{cell_of, Choose}
use Rattle.fm_frames.specs.States.{Frame, null, State, word_at}
use Rattle.fm_frames.specs.Steps.{step}
use Rattle.fm_frames.specs.declared.values.Value.{Value}
use Rattle.fm_law_held_objects.proofs.ContentsKept.{held_by, own_has}
use Rattle.fm_law_held_objects.specs.Above.{NewResultsAreInitialised}
use Rattle.fm_law_held_objects.specs.Forth.{ChainsAreKept, KeepingLinksChains}
use Rattle.fm_law_held_objects.specs.Held.{AreHeld, FrameIsHeld, FramesAreHeld}
use Rattle.fm_law_held_objects.specs.Keeping.{HoldersKeep}
use Rattle.fm_law_held_objects.specs.Laws.{KeepingKeepsHeld, StepsKeepHeld}
use Rattle.fm_law_holders.specs.Holding.{holder_value}
use Rattle.fm_law_holders.specs.Laws.{KeptResultsAreOwn, SitesGiveNew}
use Rattle.fm_law_holders.specs.Uninitialised.{made_after}
use Rattle.fm_law_lockstep.proofs.Ahead.{first_ahead, freed_ahead, given_ahead}
use Rattle.fm_law_lockstep.proofs.BehindHeld.{keeps_held, keeps_linked, nothing_kept}
use Rattle.fm_law_lockstep.proofs.FoundTodos.{FindsAll, starts_areas, starts_find, todos_keep_limits}
use Rattle.fm_law_lockstep.proofs.FramesHeld.{frames_go, held_alike, held_below, holders_same, news_held, null_has, nulls_held, waits_held}
use Rattle.fm_law_lockstep.proofs.FreedTogether.{BeforeFrees, FreeLaws}
use Rattle.fm_law_lockstep.proofs.NothingFreed.{FreesNothing}
use Rattle.fm_law_lockstep.proofs.StepHeld.{frees_nothing, limits_on, step_held, still_retired}
use Rattle.fm_law_lockstep.specs.Both.{Both}
use Rattle.fm_law_lockstep.specs.Known.{IsKnownOn, IsLinked, KnownStatesStand}
use Rattle.fm_law_lockstep.specs.Limits.{StepsStayWithin}
use Rattle.fm_law_lockstep.specs.Stepping.{AreWithin}
use Rattle.fm_law_lockstep.specs.Together.{AreLimited, GoTogetherAt}
use Rattle.fm_law_same_runs.specs.Beside.{kept_item}
use Rattle.fm_law_two_memories.specs.Pairing.{EndAlike, FramesPaired, Gone, StatesPaired}
use Rattle.fm_law_two_memories.specs.Results.{KeepsLimits}
use Rattle.fm_law_two_memories.specs.Whole.{NextEffectsAreAlike}
use Rattle.fm_law_unwoven.proofs.HoldersGo.{started_null}
use Rattle.fm_law_unwoven.proofs.KeptSites.{safe_at}
use Rattle.fm_law_unwoven.proofs.TodoLocals.{length_after}
use Rattle.fm_law_unwoven.specs.Doing.{all_areas_after, all_locals_after, joins_in}
use Rattle.fm_law_unwoven.specs.Kept.{Begins, BeginsOn, FrameGoes, FramesGo, GoesBefore, GoesBehind, GoesByJump, GoesPast, HasWaited, InMethod, IsNew, KeptStepsAreSteps, old_frame, Resumes, WasAt}
use Rattle.fm_law_unwoven.specs.Laid.{keeps_at, starts_of, Todo}
use Rattle.fm_law_unwoven.specs.Reached.{FramesReachKept}
use Rattle.fm_law_unwoven.specs.WovenFrom.{inserted_by, IsWovenFrom}
use Rattle.fm_place.specs.Insertions.{after_at, before_at, Holder, Insertions}
use Rattle.fm_place.specs.Safe as safe
use Rattle.fm_same.specs.Colours.{Colour}
use Rattle.fm_same.specs.Covering.{CoversAt}
use Rattle.fm_same.specs.Standing.{Stand}
use Rattle.fm_world.specs.Programs.{code_at}

-- what it rests on: laws of one step, of what is inserted, and of holders
pub record CatchLaws : Type 0 where
  pub stand : KnownStatesStand
  pub alike : NextEffectsAreAlike
  pub kept : KeptStepsAreSteps
  pub reach : FramesReachKept
  pub stay : StepsStayWithin
  pub new : SitesGiveNew
  pub own : KeptResultsAreOwn
  pub step_held : StepsKeepHeld
  pub keeping : KeepingKeepsHeld
  pub fresh : NewResultsAreInitialised
  pub frees : FreeLaws

-- the states after a step of both
abbrev pub next_of : Both → Choose → State → State
next_of b first x = (step b.one (lawful first) x).state

abbrev pub following_of : Both → Choose → State → State
following_of b second y = (step b.other (lawful second) y).state

-- What is done before anything is freed leaves what all holders hold, and finds what it needs; what is freed then is there, and its class isn't busy.
pub record IsReady (b : Both) (next following : State) (colour : Colour) (gone : Gone) (f g : Frame) (below : List Frame) (code : Code) (first : List Todo) (given hs : List ℕ) : Type 0 where
  pub kept : HoldersKeep b.one.outline b.facts.typing next colour (length below) code (inserted_by (b.plans g.method)) given (word_at g.stack 0) gone following.areas
      (all_areas_after code g.stack first g.locals following.areas) g.locals (all_locals_after code g.stack first g.locals)
  pub finds : FindsAll code g.stack first g.locals following.areas
  pub others : FramesAreHeld b.one b.facts b.plans b.marks next colour following.areas.store below
  pub may : (number : ℕ) → Contains hs number
      → safe.MayFree b.facts (typed_method b.one b.facts.typing g.method code) (inserted_by (b.plans g.method)) f.item number

module _ (laws : CatchLaws) (b : Both) (from : IsWovenFrom b.one b.other b.facts b.plans b.marks) (linked : IsLinked b.one b.facts) (first second : Choose) (x y : State)
    (t : GoTogetherAt b x y) (on : IsKnownOn b.one b.facts x (step b.one (lawful first) x).state t.colour t.made)
    (going : (step b.one (lawful first) x).state.ended ≡ None) (other_going : (step b.other (lawful second) y).state.ended ≡ None)
    (within : AreWithin b.one x y (step b.one (lawful first) x).state (step b.other (lawful second) y).state) where
  abbrev next : State
  next = (step b.one (lawful first) x).state

  abbrev following : State
  following = (step b.other (lawful second) y).state

  module _ (f g : Frame) (callers below : List Frame)
      (paired : StatesPaired t.gone b.one.outline next (record following { frames = f ∷ callers; steps = next.steps }))
      (go : FramesGo b.one b.other b.facts b.plans b.marks y f g callers below) where
    abbrev plan : Insertions
    plan = inserted_by (b.plans g.method)

    abbrev store : Store
    store = following.areas.store

    pub orderly : IsOrderly following.areas.store
    orderly = paired.areas.store.other_orderly

    pub still : FreesNothing y.areas following.areas
    still = frees_nothing b from linked first second x y t on going other_going within laws.alike laws.kept

    stand : Stand b.one b.facts x.frames
    stand = (laws.stand b.one b.facts linked x t.colour t.made t.known).0

    covers : CoversAt b.one b.facts x x.frames
    covers = (laws.stand b.one b.facts linked x t.colour t.made t.known).1

    next_stand : Stand b.one b.facts (step b.one (lawful first) x).state.frames
    next_stand = (laws.stand b.one b.facts linked next on.fewer (made_after x t.made) on.known).0

    -- ---- frames from before

    -- with what their holders hold after the step
    frames_held : FramesAreHeld b.one b.facts b.plans b.marks next on.over.other following.areas.store y.frames
    frames_held = step_held b from linked first second x y t on going other_going within laws.step_held orderly still

    count : length next.frames ≡ suc (length below)
    count =
        length_all_zip (FramesPaired t.gone next.areas.store following.areas.store) next.frames (f ∷ callers) paired.frames
        ∙ ap suc (sym (ap length go.callers_are) ∙ length-map below (old_frame b.one b.marks))

    -- also where own regions of frames that aren't there any longer are given up
    cleaned_one : (depth : ℕ) (code : Code) (inserted : Insertions) (values : List Value) → depth < suc (length below)
        → AreHeld b.facts.typing next on.over.other depth following.areas.store code inserted values
        → AreHeld b.facts.typing next on.fewer depth following.areas.store code inserted values
    cleaned_one depth code inserted values less had =
        let any : Holder = record { site = 0; class = 0; looped = false } in
        held_by b.facts.typing next on.over.other on.fewer depth store code inserted values
        (λ h birth inside has.
        let holder = get_or inserted.holders h any in
        on.stays birth depth holder.class (let all = count in omega (arith, less, all))
        (own_has (looped_at inserted h) store on.over.other depth holder.class (holder_value code values h) birth orderly
        (had.holds h holder (slice_get-get_or inserted.holders h any inside)) has)) had

    cleaned_below : FramesAreHeld b.one b.facts b.plans b.marks next on.over.other following.areas.store below
        → FramesAreHeld b.one b.facts b.plans b.marks next on.fewer following.areas.store below
    cleaned_below held =
        frames_go b.one b.facts b.plans b.marks next next on.over.other on.fewer store store (length below)
        (λ depth method code values less code_is had. cleaned_one depth code (inserted_by (b.plans method)) values (omega (arith, less)) had) below (omega arith) held

    module _ (above : List Frame) (was : Frame) (before : y.frames ≡ above ++ was ∷ below) where
      -- the frame on these, and these
      there_held : (s : State) (colour : Colour) (memory : Store) → FramesAreHeld b.one b.facts b.plans b.marks s colour memory y.frames
          → FrameIsHeld b.one b.facts b.plans b.marks s colour (length below) memory was × FramesAreHeld b.one b.facts b.plans b.marks s colour memory below
      there_held s colour memory held =
          held_below b.one b.facts b.plans b.marks s colour memory above (was ∷ below)
          (subst (FramesAreHeld b.one b.facts b.plans b.marks s colour memory) before held)

    -- what is freed before its item is there, and its class isn't busy
    may_free : (code : Code) (code_is : code_at b.one g.method ≡ Some code) (n : ℕ) → kept_item b.marks g.method n ≡ Some f.item → (number : ℕ)
        → Contains (before_at (inserted_by (b.plans g.method)) f.item) number
        → safe.MayFree b.facts (typed_method b.one b.facts.typing g.method code) (inserted_by (b.plans g.method)) f.item number
    may_free code code_is n is number among =
        (safe_at b.one b.other b.facts b.plans b.marks from g.method code code_is f.item
        ((from.methods g.method code code_is).laid.once n f.item is).0).may number among

    -- what a frame of this method held, this one holds
    module _ (j : ℕ) (was : WasAt b.one b.marks y.frames g below j) (code : Code) (code_is : code_at b.one g.method ≡ Some code) where
      pub was_held : (s : State) (colour : Colour) (memory : Store) → FramesAreHeld b.one b.facts b.plans b.marks s colour memory y.frames
          → AreHeld b.facts.typing s colour (length below) memory code (inserted_by (b.plans g.method)) g.locals
      was_held s colour memory held =
          held_alike b.facts.typing s colour (length below) memory code plan was.was.locals g.locals (holders_same b.one g was.was code was.method code_is was.holders)
          (subst (λ m. AreHeld b.facts.typing s colour (length below) memory code (inserted_by (b.plans m)) was.was.locals) was.method
          ((there_held was.above was.was was.frames_are s colour memory held).0 j code was.item_is (ap (code_at b.one) was.method ∙ code_is)))

      was_others : FramesAreHeld b.one b.facts b.plans b.marks next on.over.other following.areas.store below
      was_others = (there_held was.above was.was was.frames_are next on.over.other store frames_held).1

      was_cleaned : AreHeld b.facts.typing next on.fewer (length below) following.areas.store code (inserted_by (b.plans g.method)) g.locals
      was_cleaned = cleaned_one (length below) code plan g.locals (omega arith) (was_held next on.over.other store frames_held)

    begins_on : BeginsOn y.frames g below → FramesAreHeld b.one b.facts b.plans b.marks next on.over.other following.areas.store below
    begins_on (IsNew new waiting is first_items waits) =
        subst (FramesAreHeld b.one b.facts b.plans b.marks next on.over.other store) (sym is)
        (news_held b.one b.facts b.plans b.marks b.other from next on.over.other store new waiting first_items
        (waits_held b.one b.facts b.plans b.marks next on.over.other store y.frames waiting waits frames_held))
    begins_on (HasWaited above before) = (there_held above g before next on.over.other store frames_held).1

    -- ---- before anything is freed

    ready_with : (code : Code) (todos : List Todo) (given hs : List ℕ)
        → HoldersKeep b.one.outline b.facts.typing next on.fewer (length below) code (inserted_by (b.plans g.method)) given (word_at g.stack 0) t.gone following.areas
        (all_areas_after code g.stack todos g.locals following.areas) g.locals (all_locals_after code g.stack todos g.locals)
        → FindsAll code g.stack todos g.locals following.areas
        → FramesAreHeld b.one b.facts b.plans b.marks next on.over.other following.areas.store below
        → ((number : ℕ) → Contains hs number
        → safe.MayFree b.facts (typed_method b.one b.facts.typing g.method code) (inserted_by (b.plans g.method)) f.item number)
        → IsReady b next following on.fewer t.gone f g below code todos given hs
    ready_with code todos given hs kept finds others may = record { kept = kept; finds = finds; others = cleaned_below others; may = may }

    -- a frame whose holders hold what they may, for which nothing is done
    as_it_was : (code : Code) → AreHeld b.facts.typing next on.fewer (length below) following.areas.store code (inserted_by (b.plans g.method)) g.locals
        → HoldersKeep b.one.outline b.facts.typing next on.fewer (length below) code (inserted_by (b.plans g.method)) [] (word_at g.stack 0) t.gone following.areas
        following.areas g.locals g.locals
    as_it_was code held =
        nothing_kept b.one.outline b.facts.typing next on.fewer (length below) code plan [] (word_at g.stack 0) t.gone following.areas g.locals paired.areas held

    module _ (code : Code) (width : length g.locals ≡ code.max_locals + length (inserted_by (b.plans g.method)).holders) where
      abbrev started : List Value
      started = all_locals_after code g.stack (starts_of (inserted_by (b.plans g.method))) g.locals

      nulls : (h : ℕ) → h < length (inserted_by (b.plans g.method)).holders → holder_value code started h ≡ null
      nulls h inside = started_null b.facts (typed_method b.one b.facts.typing g.method code) plan g.stack g.locals width h inside

      -- at the start no holder has anything
      start_kept : HoldersKeep b.one.outline b.facts.typing next on.fewer (length below) code (inserted_by (b.plans g.method)) [] (word_at g.stack 0) t.gone
          following.areas following.areas g.locals (all_locals_after code g.stack (starts_of (inserted_by (b.plans g.method))) g.locals)
      start_kept = record {
        paired = paired.areas;
        frames = λ fs gs are. are;
        words = refl;
        held = nulls_held b.facts.typing next on.fewer (length below) store code plan orderly started nulls;
        others = λ other second inserted values apart are. are;
        had = λ h birth within has.
            absurd (null_has b.facts.typing next on.fewer (length below) store code plan orderly started h birth (nulls h within) has);
        others_had = λ other second inserted values apart are h birth within has. has;
      }

      areas_same : following.areas ≡ all_areas_after code g.stack (starts_of (inserted_by (b.plans g.method))) g.locals following.areas
      areas_same = sym (starts_areas code g.stack (range_with_len 0 (length plan.holders)) g.locals following.areas)

      starts_kept : HoldersKeep b.one.outline b.facts.typing next on.fewer (length below) code (inserted_by (b.plans g.method)) [] (word_at g.stack 0) t.gone
          following.areas (all_areas_after code g.stack (starts_of (inserted_by (b.plans g.method))) g.locals following.areas) g.locals
          (all_locals_after code g.stack (starts_of (inserted_by (b.plans g.method))) g.locals)
      starts_kept =
          subst (λ later.
          HoldersKeep b.one.outline b.facts.typing next on.fewer (length below) code (inserted_by (b.plans g.method)) [] (word_at g.stack 0) t.gone following.areas later
          g.locals started) areas_same start_kept

    -- what lies ahead of the frame, of which this is known
    module _ (code : Code) (code_is : code_at b.one g.method ≡ Some code) (number : ℕ) (number_is : kept_item b.marks g.method number ≡ Some f.item)
        (width : length g.locals ≡ code.max_locals + length (inserted_by (b.plans g.method)).holders) where
      abbrev pub ReadyFor : FrameGoes b.one b.other b.facts b.plans b.marks y f g below → Type 0
      ReadyFor top =
          IsReady b (step b.one (lawful first) x).state (step b.other (lawful second) y).state on.fewer t.gone f g below code
          (first_ahead b.one b.other b.facts b.plans b.marks y (step b.other (lawful second) y).state.areas.store f g below top)
          (given_ahead b.one b.other b.facts b.plans b.marks y (step b.other (lawful second) y).state.areas.store f g below top)
          (freed_ahead b.one b.other b.facts b.plans b.marks y (step b.other (lawful second) y).state.areas.store f g below top)

      may : (h : ℕ) → Contains (before_at (inserted_by (b.plans g.method)) f.item) h
          → safe.MayFree b.facts (typed_method b.one b.facts.typing g.method code) (inserted_by (b.plans g.method)) f.item h
      may = may_free code code_is number number_is

      pub ready : (top : FrameGoes b.one b.other b.facts b.plans b.marks y f g below) → ReadyFor top
      ready (InMethod j old old_is w was (GoesBehind past item behind) edge stands) =
          let kept = keeps_held b from linked first second x y t on going other_going within laws.new laws.own laws.keeping laws.fresh stand covers next_stand
          still.keeps f g callers below paired go.stack code code_is width (was_held j was code code_is x t.colour y.areas.store t.held)
          (was_cleaned j was code code_is) j was past in
          ready_with code (keeps_at plan (joins_in store (cell_of (word_at g.stack 0))) j) (after_at plan j) (before_at plan f.item) kept.0 kept.1 (was_others j was code code_is) may
      ready (InMethod j old old_is w was (GoesBefore at) edge stands) =
          ready_with code [] [] (before_at plan f.item) (as_it_was code (was_cleaned j was code code_is)) tt (was_others j was code code_is) may
      ready (InMethod j old old_is w was (GoesByJump jump mark) edge stands) =
          ready_with code [] [] (before_at plan f.item) (as_it_was code (was_cleaned j was code code_is)) tt (was_others j was code code_is) may
      ready (Begins old_first first_item empty wide begun) =
          ready_with code (starts_of plan) [] (before_at plan f.item) (starts_kept code width)
          (starts_find code g.stack (range_with_len 0 (length plan.holders)) g.locals following.areas) (begins_on begun) may
      ready (Resumes stands is above before) =
          ready_with code [] [] [] (as_it_was code (cleaned_one (length below) code plan g.locals (omega arith)
          ((there_held above g before next on.over.other store frames_held).0 f.item code is code_is))) tt
          ((there_held above g before next on.over.other store frames_held).1) (λ number among. absurd (Contains-none number among))

      -- behind a site chains have what they had, and those of its holders what it gave
      pub linked_behind : KeepingLinksChains → (j : ℕ) (was : WasAt b.one b.marks y.frames g below j) → GoesPast b.one b.marks y was.above (inserted_by (b.plans g.method)) j
          → ChainsAreKept b.facts.typing (step b.one (lawful first) x).state on.fewer (length below) code (inserted_by (b.plans g.method))
          (after_at (inserted_by (b.plans g.method)) j) (word_at g.stack 0) (step b.other (lawful second) y).state.areas
          (all_areas_after code g.stack
          (keeps_at (inserted_by (b.plans g.method)) (joins_in (step b.other (lawful second) y).state.areas.store (cell_of (word_at g.stack 0))) j) g.locals
          (step b.other (lawful second) y).state.areas) g.locals
          (all_locals_after code g.stack
          (keeps_at (inserted_by (b.plans g.method)) (joins_in (step b.other (lawful second) y).state.areas.store (cell_of (word_at g.stack 0))) j) g.locals)
      linked_behind links j was past =
          keeps_linked b from linked first second x y t on going other_going within laws.new laws.own laws.keeping laws.fresh stand covers next_stand
          still.keeps f g callers below paired go.stack code code_is width (was_held j was code code_is x t.colour y.areas.store t.held)
          (was_cleaned j was code code_is) j links was past

      -- ---- the state then

      module _ (todos : List Todo) (given hs : List ℕ) (ahead : IsReady b next following on.fewer t.gone f g below code todos given hs) where
        abbrev pub middle : State
        middle = record (step b.other (lawful second) y).state {
          areas = all_areas_after code g.stack todos g.locals (step b.other (lawful second) y).state.areas;
        }

        paired_then : StatesPaired t.gone b.one.outline next (record middle { frames = f ∷ callers; steps = next.steps })
        paired_then = record {
          frames = ahead.kept.frames next.frames (f ∷ callers) paired.frames;
          areas = ahead.kept.paired;
          input = paired.input;
          depth = paired.depth;
          steps = refl;
          ended = subst (λ e. EndAlike t.gone next.areas.store middle.areas.store e following.ended) (sym going) other_going;
        }

        limits_then : AreLimited b next.areas.store middle.areas.store
        limits_then =
            let before = limits_on b from linked first second x y t on going other_going within laws.stay in
            let keep : KeepsLimits following.areas.store middle.areas.store = todos_keep_limits code g.stack todos g.locals following.areas in
            record {
              unlimited = before.unlimited;
              limited = keep.limit ∙ before.limited;
              budget = before.budget;
              other_budget = keep.budget ∙ before.other_budget;
              within = before.within;
              few = before.few;
            }

        others_then : FramesAreHeld b.one b.facts b.plans b.marks next on.fewer middle.areas.store below
        others_then =
            frames_go b.one b.facts b.plans b.marks next next on.fewer on.fewer store middle.areas.store (length below)
            (λ depth method second_code values less second_is had.
            let apart : depth ≢ length below = λ same. omega (arith, less, same) in
            ahead.kept.others depth second_code (inserted_by (b.plans method)) values apart had)
            below (omega arith) ahead.others

        -- the state of the first program, and that of the second one, before the frees
        pub before_frees : BeforeFrees b (step b.one (lawful first) x).state middle f g callers below code (all_locals_after code g.stack todos g.locals)
        before_frees = record {
          colour = on.fewer;
          made = made_after x t.made;
          gone = t.gone;
          goes_on = going;
          known = on.known;
          stand = next_stand;
          retired = still_retired b from linked first second x y t on going other_going within;
          paired = paired_then;
          freed = ahead.kept.words ∙ still.words ∙ t.freed;
          limits = limits_then;
          method = go.method;
          callers_are = go.callers_are;
          code_is = code_is;
          width = length_after code g.stack todos g.locals ∙ width;
          top = ahead.kept.held;
          others = others_then;
        }

        -- what is gone then was gone before
        pub before_gone : before_frees.gone ≡ t.gone
        unfolding before_frees
        before_gone = refl
