-- The openings of both programs go together: the second one's first frames have no holders that hold anything.
use Rattle.std.proofs.Common.{◌≡◌, ℕ, false, ◌+◌, ◌<◌, ◌≤◌, List, [], ◌∷◌, ◌++◌, append-nil, length, map, take, Option, Some, None, Contains, get_or, unwrap_or, refl, sym, ap, subst, ◌∙◌, arith}
use Rattle.std.specs.List.{AllByRecursion, AllZip, range_with_len}
use Rattle.std.proofs.lemmas.Bool.{false≢true}
use Rattle.std.proofs.lemmas.Option.{none-some, same_Some, slice_get-get_or, slice_get_within}
use Rattle.fm_base.specs.declared.limits.TheConstants.{MAX_LIVE_WORDS, MAX_MADE_WORDS}
use Rattle.fm_cells.specs.Choices.{lawful}
use Rattle.fm_cells.specs.Stores.{opened, Store}
use Rattle.fm_chain.specs.Chained.{looped_at}
use Rattle.fm_conn.specs.Links.{typed_method}
use Rattle.fm_conn.specs.Nodes.{TypedMethod}
use Rattle.fm_frames.specs.Acts.{Choose}
use Rattle.fm_frames.specs.Runs.{after, Job, opening}
use Rattle.fm_frames.specs.States.{Frame, null, State, word_at}
use Rattle.fm_frames.specs.Steps.{max_locals_of}
use Rattle.fm_frames.specs.declared.ends.Ended.{Ended}
use Rattle.fm_frames.specs.declared.ends.Ended.TheVariants as end
use Rattle.fm_frames.specs.declared.values.Value.{Value}
use Rattle.fm_law_chained.specs.Called.{with_frame}
use Rattle.fm_law_held_objects.specs.Clean.{cleaned, ColoursAreCleaned, IsClean}
use Rattle.fm_law_held_objects.specs.Held.{AreHeld, FrameIsHeld, FramesAreHeld}
use Rattle.fm_law_lockstep.proofs.FramesHeld.{news_held, nulls_held}
use Rattle.fm_law_lockstep.proofs.NullsFreed.{nulls_areas, nulls_not_lost}
use Rattle.fm_law_lockstep.proofs.OpeningWords.{IsFresh, opening_fresh}
use Rattle.fm_law_lockstep.proofs.FoundTodos.{FindsAll, starts_areas, starts_find}
use Rattle.fm_law_lockstep.specs.Both.{Both}
use Rattle.fm_law_lockstep.specs.Known.{IsKnown, IsLinked}
use Rattle.fm_law_lockstep.specs.Opening.{OpeningsAreTogether}
use Rattle.fm_law_lockstep.specs.Together.{CatchesUpAt, GoTogetherAt, HoldsNothing, OfRoom, OfWords, OpenAtEnd, OpensTogether, OpenTogether, OpenWanting}
use Rattle.fm_law_no_fault.specs.Whole.{HasNoFault, IsWholeBy}
use Rattle.fm_law_reached.specs.Laws.{OpeningsAreReached}
use Rattle.fm_law_lockstep.proofs.KnownSteps.{ready_of}
use Rattle.fm_law_same_runs.specs.Beside.{kept_item, most_original_words}
use Rattle.fm_law_sound.proofs.Budgets.{opening_budget}
use Rattle.fm_law_sound.proofs.CallsStand.{max_locals_in}
use Rattle.fm_law_sound.specs.Making.{ArgumentsFit}
use Rattle.fm_law_sound.specs.Sound.{IsSoundBy}
use Rattle.fm_law_two_memories.proofs.OpeningSame.{openings_alike}
use Rattle.fm_law_two_memories.proofs.StepSame.{AlikeStill, GoesAlike, OneLacks, OtherIsFull, OtherLacks}
use Rattle.fm_law_two_memories.proofs.StepSame as memories
use Rattle.fm_law_two_memories.proofs.TwoMemories.{ready_for}
use Rattle.fm_law_two_memories.specs.Pairing.{EndAlike, FramesPaired, none_gone, SameEnd, StatesPaired}
use Rattle.fm_law_two_memories.specs.Runs.{LacksWords}
use Rattle.fm_law_unwoven.proofs.HoldersGo.{started_null}
use Rattle.fm_law_unwoven.proofs.KeptSites.{safe_at}
use Rattle.fm_law_unwoven.proofs.TodoLocals.{after_both, frees_same, length_after, null_after, old_after}
use Rattle.fm_law_unwoven.specs.Doing.{all_areas_after, all_locals_after, all_steps_to, IsPassed}
use Rattle.fm_law_unwoven.specs.Kept.{Begins, BeginsOn, BothDo, BothFault, but_frames, FrameGoes, FramesGo, HasWaited, InMethod, IsAtKept, IsNew, old_frame, old_state, OpeningsAreOpenings, Resumes, StatesGo, StepsAlike}
use Rattle.fm_law_unwoven.specs.Laid.{frees_at, starts_of, Todo}
use Rattle.fm_law_unwoven.specs.Reached.{AllReached, FramesReachKept, IsReached, jumps_ahead, OneMissed, Reached, state_reached, todos_ahead}
use Rattle.fm_law_unwoven.specs.WovenFrom.{inserted_by, IsWovenFrom}
use Rattle.fm_law_unwoven.proofs.Cleared.{none_at_first}
use Rattle.fm_place.specs.Insertions.{before_at, Holder, Insertions}
use Rattle.fm_place.specs.Woven.{local_of}
use Rattle.fm_same.specs.Colours.{Colour, Coloured}
use Rattle.fm_law_held_objects.specs.Above.{OpeningIsForNoneAbove}
use Rattle.fm_law_holders.specs.Laws.{OpeningIsMade}
use Rattle.fm_law_no_fault.specs.Laws.{RunsNeverFaultWhileFew}
use Rattle.fm_law_sound.specs.Laws.{SoundRuns}
use Rattle.fm_same.specs.Laws.{OpeningHasColours, OpeningIsCovered, ResolvedHoldsNumbers}

-- ---- ends

-- a run that doesn't lack words and has no fault ends as its twin does
end_same : (x : State) → HasNoFault x → ¬ LacksWords x → (one other : Store) (a e : Ended) → x.ended ≡ Some a → SameEnd none_gone one other a e → e ≡ a
end_same x none words one other end.Returned e is same = same
end_same x none words one other (end.Exit number) e is same = same
end_same x none words one other (end.Uncaught class) e is same = same
end_same x none words one other end.Running e is same = same
end_same x none words one other (end.Exhausted live needed) e is same = absurd (words (live, needed, is))
end_same x none words one other (end.TooDeep frames) e is same = same
end_same x none words one other (end.InitFailed class) e is same = same
end_same x none words one other (end.StoreFull made needed) e is same = same
end_same x none words one other (end.Fault method offset cell) e is same = absurd (none method offset cell is)

-- ---- the openings

-- the laws of openings, each for itself
pub record OpeningLaws : Type 0 where
  pub sound : SoundRuns
  pub whole : RunsNeverFaultWhileFew
  pub reached : OpeningsAreReached
  pub numbers : ResolvedHoldsNumbers
  pub covered : OpeningIsCovered
  pub colours : OpeningHasColours
  pub clean : ColoursAreCleaned
  pub made : OpeningIsMade
  pub for_none_above : OpeningIsForNoneAbove
  pub opened : OpeningsAreOpenings
  pub reach : FramesReachKept

module _ (laws : OpeningLaws) (b : Both) (from : IsWovenFrom b.one b.other b.facts b.plans b.marks)
    (linked : IsLinked b.one b.facts) (few : b.words ≤ most_original_words) (other_few : b.other_words ≤ MAX_LIVE_WORDS) (first second : Choose) (job : Job)
    (given : ArgumentsFit job.arguments) (free : List (List ℕ)) where
  abbrev one : Store
  one = opened b.words None []

  abbrev two : Store
  two = opened b.other_words (Some MAX_MADE_WORDS) free

  -- the first program on both memories, and the second one
  abbrev x : State
  x = (opening b.one (lawful first) job one).state

  abbrev z : State
  z = (opening b.one (lawful second) job two).state

  abbrev y : State
  y = (opening b.other (lawful second) job two).state

  -- ---- what is known of the first program

  whole : IsWholeBy b.one b.facts.typing x × HasNoFault x
  unfolding after
  whole =
      laws.whole b.one b.facts.typing linked.resolved linked.without.steps linked.without.makes linked.cells linked.without.main linked.without.typed
      linked.without.no_free first job given b.words None [] 0 (λ j less. absurd (omega (arith, less)))

  z_sound : IsSoundBy b.one b.facts.typing z
  unfolding after
  z_sound =
      laws.sound b.one b.facts.typing linked.without.typed linked.without.steps linked.without.makes linked.without.main second job given b.other_words
      (Some MAX_MADE_WORDS) free other_few 0

  -- nor is the opening on the second memory a fault
  z_whole : HasNoFault z
  unfolding after
  z_whole =
      (laws.whole b.one b.facts.typing linked.resolved linked.without.steps linked.without.makes linked.cells linked.without.main linked.without.typed
      linked.without.no_free second job given b.other_words (Some MAX_MADE_WORDS) free 0 (λ j less. absurd (omega (arith, less)))).1

  x_fresh : IsFresh b.words x.areas
  x_fresh = opening_fresh b.one linked.without.makes first job given b.words None [] few

  z_fresh : IsFresh b.other_words z.areas
  z_fresh = opening_fresh b.one linked.without.makes second job given b.other_words (Some MAX_MADE_WORDS) free (omega (arith, other_few))

  -- its colours, none of which is of a frame that isn't there
  colour : Colour
  colour birth = cleaned (length x.frames) ((laws.colours b.one b.facts (laws.numbers b.one linked.resolved) first job b.words None []).0 birth)

  coloured : Coloured b.one b.facts x colour × IsClean (length x.frames) colour
  unfolding colour
  coloured =
      let any = laws.colours b.one b.facts (laws.numbers b.one linked.resolved) first job b.words None [] in
      let clean = laws.clean b.one b.facts x any.0 any.1 in (clean.0, clean.1)

  known : IsKnown b.one b.facts x colour (λ birth. 0)
  known = record {
    coloured = coloured.0;
    covered = laws.covered b.one b.facts first job one;
    whole = whole.0;
    reached = laws.reached b.one (ready_of b.one b.facts linked) linked.closed (lawful first) job b.words None [];
    no_fault = whole.1;
    made_at = laws.made b.one b.facts.typing first job one (λ birth. 0) (whole.0).sound;
    clean = coloured.1;
    for_none_above = laws.for_none_above b.one b.facts.typing first job one colour (whole.0).sound;
  }

  alike : GoesAlike none_gone b.one.outline b.words b.other_words (Some MAX_MADE_WORDS) (opening b.one (lawful first) job one) (opening b.one (lawful second) job two)
  alike =
      openings_alike b.one (ready_for b.one b.facts.typing linked.without) first second job given b.words b.other_words (Some MAX_MADE_WORDS) [] free other_few

  opened_same : StepsAlike b.one b.other b.facts b.plans b.marks (but_frames z) (opening b.one (lawful second) job two) (opening b.other (lawful second) job two)
  opened_same =
      laws.opened b.one b.other b.facts b.plans b.marks from linked.without.typed linked.without.steps linked.without.makes linked.without.main second job given
      b.other_words other_few free

  -- ---- both go on

  -- the second run catches up, nothing is gone, and no holder holds anything
  abbrev CatchesUpEmpty : Type 0
  CatchesUpEmpty = (c : CatchesUpAt b second x y) × ((birth : ℕ) → c.together.gone.births birth ≡ false) × AllByRecursion (HoldsNothing b) c.caught.frames

  -- a frame at the first item of its method has no holders, if that is kept
  new_empty : (frames : List Frame) → AllByRecursion (λ (h : Frame). h.item ≡ 0) frames → AllByRecursion (HoldsNothing b) frames
  new_empty [] first_items = tt
  new_empty (g ∷ frames) first_items = (
    λ item code h item_is code_is few.
        let any : Holder = record { site = 0; class = 0; looped = false } in
        absurd (none_at_first b.one b.other b.facts b.plans b.marks from g.method code code_is item (ap (kept_item b.marks g.method) (sym first_items.0) ∙ item_is) h
        (get_or (inserted_by (b.plans g.method)).holders h any) (slice_get-get_or (inserted_by (b.plans g.method)).holders h any few)),
    new_empty frames first_items.1,
  )

  module _ (still : AlikeStill none_gone b.one.outline b.words b.other_words (Some MAX_MADE_WORDS) x z) (going : z.ended ≡ None) (goes_on : x.ended ≡ None)
      (same : but_frames y ≡ but_frames z) (f g : Frame) (callers below : List Frame) (old_are : z.frames ≡ f ∷ callers) (new_are : y.frames ≡ g ∷ below) where
    abbrev plan : Insertions
    plan = inserted_by (b.plans g.method)

    -- the second one's opening is that of the first one on its memory, with its own frames
    y_is : y ≡ with_frame z g below
    y_is =
        let other_going : y.ended ≡ None = ap (λ (s : State). s.ended) same ∙ going in
        (λ k. record (same k) { frames = new_are k; ended = other_going k })

    held_sound : IsSoundBy b.one b.facts.typing (with_frame z f callers)
    held_sound = subst (IsSoundBy b.one b.facts.typing) (λ k. record z { frames = old_are k; ended = going k }) z_sound

    module _ (go : FramesGo b.one b.other b.facts b.plans b.marks (but_frames z) f g callers below) (first_item : f.item ≡ 0)
        (news : AllByRecursion (λ (h : Frame). h.item ≡ 0) below)
        (r : Reached b.one b.other b.facts b.plans b.marks (lawful second) z f g below (starts_of plan ++ frees_at plan f.item) 0) where
      abbrev x_method : TypedMethod
      x_method = typed_method b.one b.facts.typing g.method r.code

      abbrev todos : List Todo
      todos = starts_of plan ++ frees_at plan f.item

      abbrev started_locals : List Value
      started_locals = all_locals_after r.code g.stack (starts_of plan) g.locals

      all_null : (h : ℕ) → h < length plan.holders → word_at started_locals (local_of r.code h) ≡ null
      all_null h few = started_null b.facts x_method plan g.stack g.locals r.width h few

      among : (h : ℕ) → Contains (before_at plan f.item) h → h < length plan.holders
      among h there =
          let safe = safe_at b.one b.other b.facts b.plans b.marks from g.method r.code r.code_is f.item
          ((from.methods g.method r.code r.code_is).laid.once r.number f.item r.number_is).0 in
          let may = safe.may h there in slice_get_within plan.holders h may.holder may.is

      wide : length started_locals ≡ r.code.max_locals + length plan.holders
      wide = length_after r.code g.stack (starts_of plan) g.locals ∙ r.width

      inside : (h : ℕ) → h < length plan.holders → local_of r.code h < length started_locals
      inside h few = let size = wide in omega (arith, size, few)

      starts_found : FindsAll r.code g.stack (starts_of plan) g.locals z.areas
      starts_found = starts_find r.code g.stack (range_with_len 0 (length plan.holders)) g.locals z.areas

      starts_same : all_areas_after r.code g.stack (starts_of plan) g.locals z.areas ≡ z.areas
      starts_same = starts_areas r.code g.stack (range_with_len 0 (length plan.holders)) g.locals z.areas

      abbrev caught : State
      caught = state_reached r.code z g below todos 0 r.number

      abbrev top : Frame
      top = record { method = g.method; item = r.number; locals = all_locals_after r.code g.stack todos g.locals; stack = g.stack }

      areas_are : all_areas_after r.code g.stack todos g.locals z.areas ≡ z.areas
      areas_are =
          nulls_areas r.code g z.areas (starts_of plan) starts_found starts_same (looped_at plan) (before_at plan f.item) (λ h there. inside h (among h there))
          (λ h there. all_null h (among h there))

      null_then : (h : ℕ) → h < length plan.holders → word_at top.locals (local_of r.code h) ≡ null
      null_then h few =
          ap (λ ls. word_at ls (local_of r.code h))
          (after_both r.code g.stack (starts_of plan) (frees_at plan f.item) g.locals
          ∙ frees_same r.code g.stack (looped_at plan) (before_at plan f.item) started_locals)
          ∙ null_after r.code g.stack h (before_at plan f.item) started_locals (inside h few) (all_null h few)

      top_held : FrameIsHeld b.one b.facts b.plans b.marks x colour (length below) z.areas.store top
      top_held item code item_is code_is =
          subst (λ c. AreHeld b.facts.typing x colour (length below) z.areas.store c plan top.locals) (same_Some r.code code (sym r.code_is ∙ code_is))
          (nulls_held b.facts.typing x colour (length below) z.areas.store r.code plan still.paired.areas.store.other_orderly top.locals null_then)

      below_held : FramesAreHeld b.one b.facts b.plans b.marks x colour z.areas.store below
      below_held =
          subst (FramesAreHeld b.one b.facts b.plans b.marks x colour z.areas.store) (append-nil below)
          (news_held b.one b.facts b.plans b.marks b.other from x colour z.areas.store below [] news tt)

      olds : map (old_frame b.one b.marks) (top ∷ below) ≡ z.frames
      olds =
          let item : unwrap_or (kept_item b.marks g.method r.number) 0 ≡ f.item = ap (λ o. unwrap_or o 0) r.number_is in
          let max : max_locals_of b.one g.method ≡ r.code.max_locals = ap max_locals_in r.code_is in
          let own : take (max_locals_of b.one g.method) top.locals ≡ f.locals =
          ap (λ n. take n top.locals) max ∙ old_after r.code g.stack todos g.locals ∙ ap (λ n. take n g.locals) (sym max) ∙ go.locals in
          (λ k. record { method = go.method k; item = item k; locals = own k; stack = go.stack k } ∷ go.callers_are k) ∙ sym old_are

      -- the state with the areas as they were
      abbrev reached_state : State
      reached_state = record z { frames = top ∷ below; steps = z.steps + (0 + all_steps_to todos); ended = None }

      caught_is : caught ≡ reached_state
      caught_is =
          let steps : z.steps + 0 + all_steps_to todos ≡ z.steps + (0 + all_steps_to todos) = omega arith in
          (λ k. record z { frames = top ∷ below; areas = areas_are k; steps = steps k; ended = None })

      paired : StatesPaired none_gone b.one.outline x (old_state b.one b.marks x.steps reached_state)
      paired = record {
        frames = subst (AllZip (FramesPaired none_gone x.areas.store z.areas.store) x.frames) (sym olds) still.paired.frames;
        areas = still.paired.areas;
        input = still.paired.input;
        depth = still.paired.depth;
        steps = refl;
        ended = subst (λ e. EndAlike none_gone x.areas.store z.areas.store e None) (sym goes_on) refl;
      }

      abbrev together : IsAtKept b.one b.other b.facts b.plans b.marks reached_state → GoTogetherAt b x reached_state
      together kept = record {
        colour = colour;
        made = λ birth. 0;
        gone = none_gone;
        goes_on = goes_on;
        known = known;
        retired = λ birth is. absurd (false≢true is);
        paired = paired;
        kept = kept;
        held = (top_held, below_held);
        freed = z_fresh.nothing;
        limits = record {
          unlimited = still.unlimited;
          limited = still.limit_is;
          budget = still.budget_is;
          other_budget = still.other_is;
          within = x_fresh.within;
          few = few;
        };
      }

      top_empty : HoldsNothing b top
      top_empty item code h item_is code_is few =
          subst (λ c. word_at top.locals (local_of c h) ≡ null) (same_Some r.code code (sym r.code_is ∙ code_is)) (null_then h few)

      by_done : IsReached b.one b.other b.facts b.plans b.marks (lawful second) r.code z g below todos 0 r.number → CatchesUpEmpty
      by_done (OneMissed lost number last end fewer passed inserted printed ended) =
          absurd (nulls_not_lost r.code g z.areas (starts_of plan) starts_found starts_same (looped_at plan) (before_at plan f.item)
          (λ h there. inside h (among h there))
          (λ h there. all_null h (among h there)) lost)
      by_done (AllReached passed kept) = (
        record {
          count = 0 + all_steps_to todos;
          few = r.few;
          caught = reached_state;
          passed = subst (λ s. IsPassed b.other b.marks (lawful second) (0 + all_steps_to todos) s reached_state) (sym y_is)
              (subst (IsPassed b.other b.marks (lawful second) (0 + all_steps_to todos) (with_frame z g below)) caught_is passed);
          steps = ap (λ (s : State). s.steps + (0 + all_steps_to todos)) (sym y_is);
          together = together (subst (IsAtKept b.one b.other b.facts b.plans b.marks) caught_is kept);
        },
        λ birth. refl,
        (top_empty, new_empty below news),
      )

    -- ---- the frames begin

    abbrev Reaches : FrameGoes b.one b.other b.facts b.plans b.marks (but_frames z) f g below → Type 0
    Reaches way =
        Reached b.one b.other b.facts b.plans b.marks (lawful second) z f g below
        (todos_ahead b.one b.other b.facts b.plans b.marks (but_frames z) z.areas.store f g below way)
        (jumps_ahead b.one b.other b.facts b.plans b.marks (but_frames z) f g below way)

    -- none was there before
    none_there : (above : List Frame) (was : Frame) → [] ≡ above ++ was ∷ below → ⊥
    none_there [] was is = cc
    none_there (h ∷ above) was is = cc

    new_below : BeginsOn [] g below → AllByRecursion (λ (h : Frame). h.item ≡ 0) below
    new_below (HasWaited above is) = absurd (none_there above g is)
    new_below (IsNew new waiting is first_items waits) =
        subst (AllByRecursion (λ (h : Frame). h.item ≡ 0)) (sym (is ∙ ap (λ rest. new ++ rest) waits ∙ append-nil new)) first_items

    onwards : FramesGo b.one b.other b.facts b.plans b.marks (but_frames z) f g callers below → (way : FrameGoes b.one b.other b.facts b.plans b.marks (but_frames z) f g below)
        → Reaches way → CatchesUpEmpty
    onwards go (InMethod j old old_is w was on edge stands) r = absurd (none_there was.above was.was was.frames_are)
    onwards go (Resumes stands is above before) r = absurd (none_there above g before)
    onwards go (Begins old_first first_item empty width begun) r = by_done go old_first (new_below begun) r r.done

    pub caught_up : FramesGo b.one b.other b.facts b.plans b.marks (but_frames z) f g callers below → CatchesUpEmpty
    caught_up go =
        onwards go go.top
        (laws.reach b.one b.other b.facts b.plans b.marks from linked.without.steps second (but_frames z) z f g callers below go held_sound
        (subst (λ n. n ≤ MAX_LIVE_WORDS) (sym (opening_budget b.one (lawful second) job two)) other_few))

  by_frames : AlikeStill none_gone b.one.outline b.words b.other_words (Some MAX_MADE_WORDS) x z → z.ended ≡ None → x.ended ≡ None → but_frames y ≡ but_frames z
      → (fs gs : List Frame) → z.frames ≡ fs → y.frames ≡ gs → StatesGo b.one b.other b.facts b.plans b.marks (but_frames z) fs gs → CatchesUpEmpty
  by_frames still going goes_on same [] gs old_are new_are go = absurd go
  by_frames still going goes_on same (f ∷ callers) [] old_are new_are go = absurd go
  by_frames still going goes_on same (f ∷ callers) (g ∷ below) old_are new_are go = caught_up still going goes_on same f g callers below old_are new_are go

  -- ---- how they open

  first_going : (o : Option Ended) → x.ended ≡ o → EndAlike none_gone x.areas.store z.areas.store o z.ended → z.ended ≡ None → x.ended ≡ None
  first_going None is ends going = is
  first_going (Some a) is ends going = absurd (none-some ends.0 (sym going ∙ ends.1))

  both_end : ¬ LacksWords x → (e : Ended) → z.ended ≡ Some e → y.ended ≡ Some e → (o : Option Ended) → x.ended ≡ o
      → EndAlike none_gone x.areas.store z.areas.store o z.ended → OpensTogether b second x y
  both_end words e is other_is None x_is ends = absurd (none-some e (sym ends ∙ is))
  both_end words e is other_is (Some a) x_is ends =
      let end_is : ends.0 ≡ a = end_same x whole.1 words x.areas.store z.areas.store a ends.0 x_is ends.2 in
      OpenAtEnd a x_is (other_is ∙ sym is ∙ ends.1 ∙ ap Some end_is) whole.1

  -- the second opening ends as the first one does on its memory
  module _ (words : ¬ LacksWords x) (same : but_frames y ≡ but_frames z)
      (go : z.ended ≡ None → StatesGo b.one b.other b.facts b.plans b.marks (but_frames z) z.frames y.frames) where
    other_end : (e : Ended) → z.ended ≡ Some e → y.ended ≡ Some e
    other_end e is = ap (λ (s : State). s.ended) same ∙ is

    by_alike : GoesAlike none_gone b.one.outline b.words b.other_words (Some MAX_MADE_WORDS) (opening b.one (lawful first) job one)
        (opening b.one (lawful second) job two) → OpensTogether b second x y
    by_alike (OneLacks less lacks prefix) = absurd (words lacks)
    by_alike (OtherLacks less lacks prefix) =
        OpenWanting (end.Exhausted lacks.0 lacks.1) (other_end (end.Exhausted lacks.0 lacks.1) lacks.2) (OfWords lacks.0 lacks.1 refl (omega (arith, less)))
    by_alike (OtherIsFull small full prefix) =
        let limit : small.0 ≡ MAX_MADE_WORDS = same_Some small.0 MAX_MADE_WORDS (sym small.1) in
        let more = small.3 in
        OpenWanting (end.StoreFull full.0 full.1) (other_end (end.StoreFull full.0 full.1) full.2) (OfRoom full.0 full.1 refl (omega (arith, limit, more)))
    by_alike (memories.Both still printed) = by_end z.ended refl where
      by_end : (o : Option Ended) → z.ended ≡ o → OpensTogether b second x y
      by_end (Some e) is = both_end words e is (other_end e is) x.ended refl still.paired.ended
      by_end None is =
          let caught = by_frames still is (first_going x.ended refl still.paired.ended is) same z.frames y.frames refl refl (go is) in
          OpenTogether caught.0 caught.1 caught.2

  by_opened : ¬ LacksWords x
      → StepsAlike b.one b.other b.facts b.plans b.marks (but_frames z) (opening b.one (lawful second) job two) (opening b.other (lawful second) job two)
      → OpensTogether b second x y
  by_opened words (BothFault method offset other cell old_end new_end) = absurd (z_whole (record { 0 = method }) offset cell old_end)
  by_opened words (BothDo printed same go) = by_alike words same go alike

  pub open_together : ¬ LacksWords x → OpensTogether b second x y
  open_together words = by_opened words opened_same

pub openings_together : OpeningLaws → OpeningsAreTogether
openings_together laws b from linked few other_few first second job given free words =
    open_together laws b from linked few other_few first second job given free words
