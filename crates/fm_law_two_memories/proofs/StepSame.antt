-- A step leads paired states to paired ones, or one of the memories lacks words.
use Rattle.std.proofs.Common.{◌≡◌, ℕ, ◌+◌, ◌*◌, ◌<◌, ◌≤◌, max, Bool, true, false, cond, List, [], ◌∷◌, ◌++◌, length, map, nat_lt, Option, None, refl, sym, ◌∙◌, ap, subst, slice_index_or, arith}
use Rattle.std.specs.List.{AllByRecursion, AllZip}
use Rattle.std.proofs.lemmas.Bool.{false≢true}
use Rattle.std.proofs.lemmas.List.Elements.{length_all_zip}
use Rattle.fm_base.specs.declared.limits.TheConstants.{MAX_LIVE_WORDS}
use Rattle.fm_cells.specs.Choices.{lawful}
use Rattle.fm_cells.specs.Stores.{live_words, Store}
use Rattle.fm_types.proofs.Zips.{zip-implied}
use Rattle.fm_world.specs.Programs.{Outline, Program}
use Rattle.fm_frames.specs.Acts.{cell_of, Choose, Did, FullAt, LostAt, Performed, Sources, value_of}
use Rattle.fm_frames.specs.Effects.{Calls, Effect, Enters, JumpsIfSame, Next, OfMade, OfOperand, Source, Throws}
use Rattle.fm_frames.specs.States.{Areas, Frame, Moved, State, word_at}
use Rattle.fm_frames.specs.Steps.{attempted, done_by, finished, input_after, is_deep, is_done, is_over, next_effect, objects_made, step, stopped, words_made}
use Rattle.fm_frames.specs.declared.ends.Ended.{Ended}
use Rattle.fm_frames.specs.declared.ends.Ended.TheVariants as end
use Rattle.fm_frames.proofs.StepCounts.{step_going}
use Rattle.fm_same.specs.Evenness.{IsObjectSource}
use Rattle.fm_same.specs.Resolved.{CallsNoFreeMe}
use Rattle.fm_law_sound.specs.Leading.{sources_of}
use Rattle.fm_law_sound.specs.Making.{HaveTextFirst, MakesAreResolved}
use Rattle.fm_law_sound.specs.Placing.{PlacesAgree, ReadAgrees, thrown_in}
use Rattle.fm_law_sound.specs.Resolved.{StepsAreResolved}
use Rattle.fm_law_sound.specs.Sound.{IsSoundBy, Typings}
use Rattle.fm_law_sound.proofs.Following.{continued_is, followed_areas}
use Rattle.fm_law_sound.proofs.HiddenFields.{text_first}
use Rattle.fm_law_sound.proofs.FewWords.{few_within}
use Rattle.fm_law_sound.proofs.NextActs.{next_acts_fit}
use Rattle.fm_law_sound.proofs.NextPlaces.{next_agrees}
use Rattle.fm_law_sound.proofs.StartActs.{all_after}
use Rattle.fm_law_sound.proofs.StepCells.{all_before}
use Rattle.fm_law_two_memories.specs.Constants.{ConstantsFit}
use Rattle.fm_law_two_memories.specs.Hidden.{HiddenComesFirst}
use Rattle.fm_law_two_memories.specs.Laws.{IsSameFrom, KeepsBirths}
use Rattle.fm_law_two_memories.specs.Pairing.{EndAlike, FramesPaired, Gone, SameEnd, SameValue, StatesPaired}
use Rattle.fm_law_two_memories.specs.Reading.{EffectAlike, NumberAgrees, sources_of_next}
use Rattle.fm_law_two_memories.specs.Results.{IsFewGone, IsTooSmall, ResultsAlike}
use Rattle.fm_law_two_memories.specs.Runs.{IsFull, IsPrefix, LacksWords}
use Rattle.fm_law_two_memories.specs.Seeing.{GoesOnByFound, IsSeen, IsThere, SeesNothingGone}
use Rattle.fm_law_two_memories.proofs.EffectsSame.{effects_same}
use Rattle.fm_law_two_memories.proofs.NextAlike.{next_alike}
use Rattle.fm_law_two_memories.proofs.NextSame.{continued_same}
use Rattle.fm_law_two_memories.proofs.SourcesSame.{made_now, operand_now, source_same}
use Rattle.fm_law_two_memories.proofs.StepActs.{actions_alike}
use Rattle.fm_law_two_memories.proofs.Stores.{value_later}
use Rattle.fm_law_two_memories.proofs.Twins.{found_there}
use Rattle.fm_law_two_memories.proofs.WordsSame.{first_less, lacks_same, second_less}

-- ---- what is known along a run

-- what linking makes sure of
pub record IsReady (p : Program) : Type 0 where
  pub steps : StepsAreResolved p
  pub makes : MakesAreResolved p
  pub no_free : CallsNoFreeMe p
  pub hidden : HiddenComesFirst p.outline
  pub constants : ConstantsFit p.outline

-- the states are paired, and their stores have the limits with which they were opened
pub record AlikeStill (gone : Gone) (o : Outline) (budget other : ℕ) (limit : Option ℕ) (x y : State) : Type 0 where
  pub paired : StatesPaired gone o x y
  pub unlimited : x.areas.store.limit ≡ None
  pub budget_is : x.areas.store.budget ≡ budget
  pub limit_is : y.areas.store.limit ≡ limit
  pub other_is : y.areas.store.budget ≡ other

-- how the two go on
pub data GoesAlike (gone : Gone) (o : Outline) (budget other : ℕ) (limit : Option ℕ) (x y : Moved) : Type 0 where
  Both : AlikeStill gone o budget other limit x.state y.state → y.printed ≡ x.printed → GoesAlike gone o budget other limit x y
  OneLacks : budget < other + gone.words → LacksWords x.state → IsPrefix x.printed y.printed → GoesAlike gone o budget other limit x y
  OtherLacks : other + gone.words < budget → LacksWords y.state → IsPrefix y.printed x.printed → GoesAlike gone o budget other limit x y
  OtherIsFull : IsTooSmall gone limit budget other → IsFull y.state → IsPrefix y.printed x.printed → GoesAlike gone o budget other limit x y

-- ---- lists and choices

pub by_both : {X : Type 0} (P : X → X → Type 0) (b d : Bool) (m n u v : X) → (b ≡ true → d ≡ true → P m u) → (b ≡ true → d ≡ false → P m v)
    → (b ≡ false → d ≡ true → P n u) → (b ≡ false → d ≡ false → P n v) → P (cond b m n) (cond d u v)
by_both P true true m n u v all first second none = all refl refl
by_both P true false m n u v all first second none = first refl refl
by_both P false true m n u v all first second none = second refl refl
by_both P false false m n u v all first second none = none refl refl

-- ---- frames

frame_later : (gone : Gone) (one other next following : Store) → KeepsBirths one next → KeepsBirths other following → (f g : Frame) → FramesPaired gone one other f g
    → FramesPaired gone next following f g
frame_later gone one other next following stays other_stays f g h = record {
  method = h.method;
  item = h.item;
  locals = zip-implied (SameValue gone one other) (SameValue gone next following) (value_later gone one other next following stays other_stays) f.locals g.locals h.locals;
  stack = zip-implied (SameValue gone one other) (SameValue gone next following) (value_later gone one other next following stays other_stays) f.stack g.stack h.stack;
}

-- ---- a step of both

module _ (gone : Gone) (few_gone : IsFewGone gone) (p : Program) (typings : Typings) (ready : IsReady p) (first second : Choose) (budget other : ℕ) (limit : Option ℕ) (few : other ≤ MAX_LIVE_WORDS) where
  abbrev o : Outline
  o = p.outline

  text : HaveTextFirst p.outline
  text = text_first p ready.makes.makeable.runnable ready.makes.makeable.tree

  module _ (z w : State) (f g : Frame) (callers others : List Frame) where
    -- the states, with their frames
    abbrev x : State
    x = record z { frames = f ∷ callers }

    abbrev y : State
    y = record w { frames = g ∷ others }

    abbrev one : Store
    one = z.areas.store

    abbrev two : Store
    two = w.areas.store

    module _ (sound : IsSoundBy p typings x) (still : AlikeStill gone p.outline budget other limit x y) (seen : AllByRecursion (IsSeen gone p.outline z.areas.store) f.stack) (going : z.ended ≡ None) where
      abbrev e : Effect
      e = next_effect p x

      abbrev paired : StatesPaired gone p.outline x y
      paired = still.paired

      alike : EffectAlike o one f e
      alike =
          next_alike p typings sound.typed ready.steps ready.makes.makeable text ready.no_free ready.constants z f callers sound.frames.0

      places : PlacesAgree o one f.stack e
      places = next_agrees p typings ready.steps text z f callers sound.frames.0

      count : length (f ∷ callers) ≡ length (g ∷ others)
      count = length_all_zip (FramesPaired gone one two) (f ∷ callers) (g ∷ others) paired.frames

      other_going : w.ended ≡ None
      other_going = subst (λ ended. EndAlike gone one two ended w.ended) going paired.ended

      abbrev R : Source → Type 0
      R s = ReadAgrees o one f.stack s

      abbrev N : Source → Type 0
      N s = NumberAgrees o one f.stack s

      -- ---- ends

      ends_alike : (a b : Ended) → SameEnd gone one two a b → AlikeStill gone o budget other limit (stopped x a) (stopped y b)
      ends_alike a b same = record {
        paired = record {
          frames = paired.frames;
          areas = paired.areas;
          input = paired.input;
          depth = paired.depth;
          steps = paired.steps;
          ended = (b, refl, same);
        };
        unlimited = still.unlimited;
        budget_is = still.budget_is;
        limit_is = still.limit_is;
        other_is = still.other_is;
      }

      deep_same : (next : Next) → is_deep y next ≡ is_deep x next
      deep_same (Calls m) =
          ap (λ d. nat_lt d (length (g ∷ others) + 1)) paired.depth ∙ ap (λ n. nat_lt z.depth (n + 1)) (sym count)
      deep_same (Enters methods) =
          ap (λ d. nat_lt d (length (g ∷ others) + length methods)) paired.depth ∙ ap (λ n. nat_lt z.depth (n + length methods)) (sym count)
      deep_same next = refl

      -- ---- words

      one_less : is_over o z.areas e.actions ≡ true → is_over o w.areas e.actions ≡ false → budget < other + gone.words
      one_less over within =
          subst (λ n. n < other + gone.words) still.budget_is
          (subst (λ n. one.budget < n + gone.words) still.other_is (first_less gone o z.areas w.areas paired.areas e.actions over within))

      other_less : is_over o z.areas e.actions ≡ false → is_over o w.areas e.actions ≡ true → other + gone.words < budget
      other_less within over =
          subst (λ n. n + gone.words < budget) still.other_is
          (subst (λ n. two.budget + gone.words < n) still.budget_is (second_less gone o z.areas w.areas paired.areas e.actions within over))

      -- ---- once all actions are done

      -- the state before what comes next
      abbrev done : ℕ → Areas → State
      done price areas = record x { areas = areas; input = input_after e.reads z.input; steps = cond (is_done e.next) (z.steps + price) z.steps }

      abbrev other_done : ℕ → Areas → State
      other_done price areas = record y { areas = areas; input = input_after e.reads w.input; steps = cond (is_done e.next) (w.steps + price) w.steps }

      module _ (price : ℕ) (now later : Areas) (made cells : List ℕ) (h : ResultsAlike gone p.outline z.areas.store w.areas.store (Did later cells) (Did now made)) where
        abbrev from : Sources
        from = sources_of f now made

        abbrev second_from : Sources
        second_from = sources_of g later cells

        abbrev S : Source → Type 0
        S s = IsSameFrom gone now.store later.store from second_from s

        each_same : (ss : List Source) → AllByRecursion R ss → AllByRecursion N ss → AllByRecursion S ss
        each_same [] reads numbers = tt
        each_same (s ∷ ss) reads numbers = (
          source_same gone o one two f g paired.frames.0 seen now later made cells h.0 h.1 h.2 h.3 h.6 s reads.0 numbers.0,
          each_same ss reads.1 numbers.1,
        )

        -- what is thrown, and written
        abbrev front : List Source
        front = thrown_in e.next ++ map (λ (v : ℕ × Source). v.1) e.writes

        gives_same : AllByRecursion S e.gives
        gives_same = each_same e.gives (all_after R front e.gives places.reads) (all_after N front e.gives alike.numbers)

        writes_same : AllByRecursion S (map (λ (v : ℕ × Source). v.1) e.writes)
        writes_same =
            let writes : List Source = map (λ (v : ℕ × Source). v.1) e.writes in
            each_same writes (all_after R (thrown_in e.next) writes (all_before R front e.gives places.reads))
            (all_after N (thrown_in e.next) writes (all_before N front e.gives alike.numbers))

        frame_now : (a b : Frame) → FramesPaired gone one two a b → FramesPaired gone now.store later.store a b
        frame_now = frame_later gone one two now.store later.store h.1 h.2

        frames_now : AllZip (FramesPaired gone now.store later.store) (f ∷ callers) (g ∷ others)
        frames_now =
            zip-implied (FramesPaired gone one two) (FramesPaired gone now.store later.store) frame_now (f ∷ callers) (g ∷ others) paired.frames

        -- what is compared and what is thrown isn't gone
        operand_there : (n : ℕ) → IsThere gone now.store (cell_of (word_at f.stack n))
        operand_there n =
            found_there gone o now.store later.store h.0.store (cell_of (word_at f.stack n)) (cell_of (word_at g.stack n))
            (operand_now gone o one two f g paired.frames.0 seen now later made cells h.0 h.1 h.2 h.3 h.6 n)

        source_there : (s : Source) → IsObjectSource s → IsThere gone now.store (cell_of (value_of from s))
        source_there (OfOperand n) is = operand_there n
        source_there (OfMade n) is =
            found_there gone o now.store later.store h.0.store (slice_index_or made n 0) (slice_index_or cells n 0)
            (made_now gone o one two f g paired.frames.0 seen now later made cells h.0 h.1 h.2 h.3 h.6 n)
        source_there s is = absurd is

        goes_by_found : (next : Next) → AllByRecursion IsObjectSource (thrown_in next) → GoesOnByFound gone now.store from f next
        goes_by_found (JumpsIfSame same) all = (operand_there 0, operand_there 1)
        goes_by_found (Throws s) all = source_there s all.0
        goes_by_found next all = tt

        states_now : StatesPaired gone o (finished p price e x (Did now made)) (finished p price e y (Did later cells))
        states_now =
            continued_same gone p from second_from (done price now) (other_done price later) h.0 frames_now
            (ap (input_after e.reads) paired.input) paired.depth (ap (λ n. cond (is_done e.next) (n + price) n) paired.steps)
            (subst (λ ended. EndAlike gone now.store later.store ended w.ended) (sym going) other_going)
            e f g callers others frames_now.0 frames_now.1 writes_same gives_same
            (each_same (sources_of_next e.next) alike.thrown alike.thrown_numbers) (goes_by_found e.next alike.thrown_found)

        areas_are : (finished p price e x (Did now made)).areas ≡ now
        areas_are =
            ap (λ (s : State). s.areas) (continued_is p from e f callers (done price now)) ∙ followed_areas p from e f callers (done price now) e.next

        other_areas_are : (finished p price e y (Did later cells)).areas ≡ later
        other_areas_are =
            ap (λ (s : State). s.areas) (continued_is p second_from e g others (other_done price later))
            ∙ followed_areas p second_from e g others (other_done price later) e.next

        done_alike : AlikeStill gone o budget other limit (finished p price e x (Did now made)) (finished p price e y (Did later cells))
        done_alike = record {
          paired = states_now;
          unlimited = ap (λ (a : Areas). a.store.limit) areas_are ∙ h.4.limit ∙ still.unlimited;
          budget_is = ap (λ (a : Areas). a.store.budget) areas_are ∙ h.4.budget ∙ still.budget_is;
          limit_is = ap (λ (a : Areas). a.store.limit) other_areas_are ∙ h.5.limit ∙ still.limit_is;
          other_is = ap (λ (a : Areas). a.store.budget) other_areas_are ∙ h.5.budget ∙ still.other_is;
        }

      full : (price words : ℕ) (later : Areas) (u : Performed) → IsTooSmall gone two.limit one.budget two.budget
          → GoesAlike gone o budget other limit (done_by p price e x u) (done_by p price e y (FullAt later words))
      full price words later u small =
          OtherIsFull (
            small.0,
            sym still.limit_is ∙ small.1,
            subst (λ n. small.0 < 2 * (n + gone.words)) still.other_is small.2,
            subst (λ n. small.0 < 2 * n) still.budget_is small.3,
          ) (_, _, refl) (_, refl)

      finish : (price : ℕ) (u v : Performed) → ResultsAlike gone o one two v u → GoesAlike gone o budget other limit (done_by p price e x u) (done_by p price e y v)
      finish price (Did now made) (Did later cells) h = Both (done_alike price now later made cells h) refl
      finish price (FullAt now n) (Did later cells) h = absurd h
      finish price (LostAt v) (Did later cells) h = absurd h
      finish price u (FullAt later words) h = full price words later u h
      finish price u (LostAt v) h = absurd h

      now_few : two.budget ≤ MAX_LIVE_WORDS
      now_few = subst (λ n. n ≤ MAX_LIVE_WORDS) (sym still.other_is) few

      pub attempt_alike : GoesAlike gone o budget other limit (attempted p (lawful first) x e) (attempted p (lawful second) y e)
      attempt_alike =
          by_both (GoesAlike gone o budget other limit) (is_deep x e.next) (is_deep y e.next) _ _ _ _
          (λ deep other_deep. Both (ends_alike (end.TooDeep (length (f ∷ callers))) (end.TooDeep (length (g ∷ others))) (ap end.TooDeep (sym count))) refl)
          (λ deep other_shallow. absurd (false≢true (sym other_shallow ∙ deep_same e.next ∙ deep)))
          (λ shallow other_deep. absurd (false≢true (sym shallow ∙ sym (deep_same e.next) ∙ other_deep)))
          (λ shallow other_shallow. by_both (GoesAlike gone o budget other limit) (is_over o z.areas e.actions) (is_over o w.areas e.actions) _ _ _ _
          (λ over other_over. Both (ends_alike _ _ (lacks_same gone o z.areas w.areas paired.areas e.actions)) refl)
          (λ over other_within. OneLacks (one_less over other_within) (live_words one, words_made o z.areas e.actions, refl) (_, refl))
          (λ within other_over. OtherLacks (other_less within other_over) (live_words two, words_made o w.areas e.actions, refl) (_, refl))
          (λ within other_within. finish (max 1 (objects_made e.actions)) _ _
          (actions_alike gone few_gone o ready.steps.calls.runnable.sizes first second f g z.areas w.areas paired.frames.0 seen paired.areas sound.areas
          still.unlimited now_few e.actions within other_within
          (next_acts_fit p typings ready.steps ready.makes x sound (λ fits. few_within o w.areas e.actions now_few other_within) f callers refl within)
          places.puts alike.acts)))

  by_frames : (z w : State) (fs gs : List Frame) → IsSoundBy p typings (record z { frames = fs })
      → AlikeStill gone o budget other limit (record z { frames = fs }) (record w { frames = gs })
      → SeesNothingGone gone p.outline (record z { frames = fs }) → z.ended ≡ None
      → GoesAlike gone o budget other limit (attempted p (lawful first) (record z { frames = fs }) (next_effect p (record z { frames = fs })))
      (attempted p (lawful second) (record w { frames = gs }) (next_effect p (record z { frames = fs })))
  by_frames z w [] gs sound still seen going = let some = sound.running going in absurd (omega (arith, some))
  by_frames z w (f ∷ fs) [] sound still seen going = absurd still.paired.frames
  by_frames z w (f ∷ fs) (g ∷ gs) sound still seen going = attempt_alike z w f g fs gs sound still seen going

  pub step_alike : (x y : State) → IsSoundBy p typings x → AlikeStill gone o budget other limit x y → SeesNothingGone gone p.outline x → x.ended ≡ None
      → GoesAlike gone o budget other limit (step p (lawful first) x) (step p (lawful second) y)
  step_alike x y sound still seen going =
      let other_going : y.ended ≡ None = subst (λ ended. EndAlike gone x.areas.store y.areas.store ended y.ended) going still.paired.ended in
      let theirs : step p (lawful second) y ≡ attempted p (lawful second) y (next_effect p x) =
      step_going p (lawful second) y other_going ∙ ap (attempted p (lawful second) y) (effects_same gone p ready.hidden x y still.paired seen).0 in
      subst (λ m. GoesAlike gone o budget other limit m (step p (lawful second) y)) (sym (step_going p (lawful first) x going))
      (subst (λ m. GoesAlike gone o budget other limit (attempted p (lawful first) x (next_effect p x)) m) (sym theirs)
      (by_frames x y x.frames y.frames sound still seen going))
