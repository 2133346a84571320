-- What is inserted where a frame goes on leads to its next kept item, or the run ends: so it is after a step at a kept item.
use Rattle.std.proofs.Common.{◌≡◌, ℕ, ◌+◌, ◌*◌, ◌<◌, ◌≤◌, List, [], ◌∷◌, ◌++◌, length, map, Option, Some, None, option_and_then, unwrap_or, Contains, refl, sym, ap, subst, ◌∙◌, arith}
use Rattle.std.proofs.lemmas.Option.{slice_get_within}
use Rattle.fm_base.specs.declared.limits.TheConstants.{MAX_LIVE_WORDS}
use Rattle.fm_cells.specs.Choices.{lawful}
use Rattle.fm_code.specs.Edges.{insn_of, IsEdge}
use Rattle.fm_code.specs.declared.code_array.Code.{Code}
use Rattle.fm_code.specs.declared.instructions.Insn.TheVariants as insn
use Rattle.fm_conn.specs.Facts.{Facts}
use Rattle.fm_conn.specs.Links.{typed_method}
use Rattle.fm_conn.specs.Nodes.{TypedMethod}
use Rattle.fm_frames.specs.Acts.{cell_of, Choose}
use Rattle.fm_frames.specs.States.{Frame, Moved, State, word_at}
use Rattle.fm_frames.specs.Steps.{max_locals_of, next_insn, step}
use Rattle.fm_frames.specs.declared.ends.Ended.{Ended}
use Rattle.fm_frames.specs.declared.ends.Ended.TheVariants as end
use Rattle.fm_law_chained.specs.Called.{with_frame}
use Rattle.fm_law_same_runs.specs.Beside.{kept_item, Marks, most_inserted_steps}
use Rattle.fm_law_sound.proofs.Budgets.{step_budget}
use Rattle.fm_law_sound.proofs.CallsStand.{max_locals_in}
use Rattle.fm_law_sound.proofs.RunsSound.{makes_few}
use Rattle.fm_law_sound.specs.Laws.{SoundStatesStep}
use Rattle.fm_law_sound.specs.Resolved.{StepsAreResolved}
use Rattle.fm_law_sound.specs.Sound.{IsReference, IsSoundBy, Stand}
use Rattle.fm_law_unwoven.proofs.HoldersGo.{behind_stand, frees_stand, goes_along, IsWide, may_begin, may_behind, may_frees, start_stand}
use Rattle.fm_law_unwoven.proofs.InsertedSteps.{counted, goto_step}
use Rattle.fm_law_unwoven.proofs.KeptGoes.{below_other}
use Rattle.fm_law_unwoven.proofs.KeptReached.{coded, Holds, item_inside, reached_comes, reaches}
use Rattle.fm_law_unwoven.proofs.KeptSites.{gives, safe_at}
use Rattle.fm_law_unwoven.proofs.OneKept.{one_kept}
use Rattle.fm_law_unwoven.proofs.TodoCounts.{frees_count, keeps_count, starts_count, steps_both, steps_few}
use Rattle.fm_law_unwoven.proofs.TodosDone.{one_passed, passed-append}
use Rattle.fm_law_unwoven.specs.Doing.{all_steps_to, IsPassed, joins_in, state_after}
use Rattle.fm_law_unwoven.specs.Kept.{Begins, BothDo, BothFault, but_frames, FrameGoes, GoesBefore, GoesBehind, GoesByJump, HoldersStand, InMethod, IsAtKept, KeptStepsAreSteps, old_frame, old_state, Resumes, StandsAtKept, StatesGo, StepsAlike}
use Rattle.fm_law_unwoven.specs.Laid.{all_insns_to, frees_at, keeps_at, LieInserted, mark_at, starts_of, Todo}
use Rattle.fm_law_unwoven.specs.Reached.{AllReached, FramesReachKept, IsReached, jumps_ahead, OneMissed, Reached, state_reached, todos_ahead}
use Rattle.fm_law_unwoven.specs.Runs.{ComesToKept, HasEnded, KeptStatesGoOn}
use Rattle.fm_law_unwoven.specs.WovenFrom.{HasInserted, inserted_by, IsWovenFrom, own_marks}
use Rattle.fm_place.specs.Insertions.{after_at, Insertions}
use Rattle.fm_place.specs.Rewriting.{Plans}
use Rattle.fm_place.specs.Safe.{IsSafeAt}
use Rattle.fm_same.specs.Laws.{SitesAreNodes}
use Rattle.fm_world.specs.Programs.{code_at, Program}

module _ (p q : Program) (facts : Facts) (plans : Plans) (marks : Marks) (from : IsWovenFrom p q facts plans marks) (ready : StepsAreResolved p) (choose : Choose) where
  abbrev ch : Choose
  ch = lawful choose

  module _ (z : State) (f g : Frame) (callers below : List Frame) (holds : Holds p q facts plans marks z f g callers below) where
    abbrev ReachedBy : List Todo → Type 0
    ReachedBy todos = Reached p q facts plans marks (lawful choose) z f g below todos 0

    abbrev plan : Insertions
    plan = inserted_by (plans g.method)

    module _ (code : Code) (code_is : code_at p g.method ≡ Some code) (w : HasInserted q marks g.method code (inserted_by (plans g.method))) where
      abbrev x : TypedMethod
      x = typed_method p facts.typing g.method code

      inside : (j : ℕ) → f.item ≡ j → j < length code.items
      inside = item_inside p q facts plans marks from ready choose z f g callers below holds code code_is

      safe : (j : ℕ) → f.item ≡ j → IsSafeAt facts (typed_method p facts.typing g.method code) (inserted_by (plans g.method)) j
      safe j is = safe_at p q facts plans marks from g.method code code_is j (inside j is)

      -- what is inserted lies from the frame's item on
      lies_from : (at : ℕ) → g.item ≡ at → (todos : List Todo) (next : ℕ)
          → LieInserted w.new (own_marks marks g.method) at (all_insns_to w.calls code todos) next
          → LieInserted w.new (own_marks marks g.method) g.item (all_insns_to w.calls code todos) next
      lies_from at is todos next lies = subst (λ n. LieInserted w.new (own_marks marks g.method) n (all_insns_to w.calls code todos) next) (sym is) lies

      pub frees_few : (j : ℕ) → f.item ≡ j → all_steps_to (frees_at (inserted_by (plans g.method)) j) ≤ 4 * length (inserted_by (plans g.method)).holders
      frees_few j is =
          let at = safe j is in
          frees_count plan j at.once (λ h among. let may = at.may h among in slice_get_within plan.holders h may.holder may.is)

      -- ---- a method begins

      starts : f.item ≡ 0 → g.item ≡ 0 → length g.locals ≡ max_locals_of q g.method
          → ReachedBy (starts_of (inserted_by (plans g.method)) ++ frees_at (inserted_by (plans g.method)) f.item)
      starts old_first first width =
          let new : max_locals_of q g.method ≡ w.new.max_locals = ap max_locals_in w.new_is in
          let all = w.laid.locals in
          let wide : IsWide facts x plan g.locals = omega (arith, width, new, all) in
          let both = steps_both (starts_of plan) (frees_at plan 0) in
          let one = starts_count plan in
          let two = frees_few 0 old_first in
          subst (λ k. ReachedBy (starts_of plan ++ frees_at plan k)) (sym old_first)
          (reaches p q facts plans marks from ready choose z f g callers below holds code code_is w (starts_of plan ++ frees_at plan 0) 0 old_first
          (start_stand facts x plan g.stack g.locals wide (w.laid.numbers 0) g.method (safe 0 old_first))
          (lies_from 0 first (starts_of plan ++ frees_at plan 0) (w.laid.numbers 0) w.laid.start)
          (may_begin facts x plan g.stack g.locals wide z.areas (safe 0 old_first)) (omega (arith, both, one, two)))

      -- ---- it goes on behind an item

      module _ (j : ℕ) (stand : HoldersStand facts (typed_method p facts.typing g.method code) (inserted_by (plans g.method)) g j) where
        behind : SitesAreNodes → IsEdge code j f.item → f.item ≡ j + 1 → g.item ≡ w.laid.behind j
            → ReachedBy (keeps_at (inserted_by (plans g.method)) (joins_in z.areas.store (cell_of (word_at g.stack 0))) j
            ++ frees_at (inserted_by (plans g.method)) f.item)
        behind nodes edge old_next next =
            let on_top : (h : ℕ) → Contains (after_at plan j) h → (0 < length g.stack) × IsReference (word_at g.stack 0) =
            λ h among.
            subst (λ stack. (0 < length stack) × IsReference (word_at stack 0)) (sym holds.stack)
            (gives p q facts plans marks from g.method code code_is nodes ready holds.sound.typed j f holds.method old_next holds.sound.frames.0 h among) in
            let joins = joins_in z.areas.store (cell_of (word_at g.stack 0)) in
            let both = steps_both (keeps_at plan joins j) (frees_at plan (j + 1)) in
            let one = keeps_count plan joins j (one_kept p q facts plans marks from g.method code code_is j) in
            let two = frees_few (j + 1) old_next in
            subst (λ k. ReachedBy (keeps_at plan joins j ++ frees_at plan k)) (sym old_next)
            (reaches p q facts plans marks from ready choose z f g callers below holds code code_is w (keeps_at plan joins j ++ frees_at plan (j + 1)) (j + 1) old_next
            (behind_stand facts x plan g.stack g.locals stand.width stand.references j on_top joins (w.laid.numbers (j + 1)) g.method (safe (j + 1) old_next)
            (goes_along facts x plan g j (j + 1) stand (subst (IsEdge code j) old_next edge)))
            (lies_from (w.laid.behind j) next (keeps_at plan joins j ++ frees_at plan (j + 1)) (w.laid.numbers (j + 1)) (w.laid.left joins j (inside (j + 1) old_next)))
            (may_behind facts x plan g.stack g.locals stand.width stand.references j on_top joins z.areas refl (safe (j + 1) old_next))
            (omega (arith, both, one, two)))

        -- ---- and before one

        before : IsEdge code j f.item → g.item ≡ w.laid.entries f.item → ReachedBy (frees_at (inserted_by (plans g.method)) f.item)
        before edge next =
            let two = frees_few f.item refl in
            reaches p q facts plans marks from ready choose z f g callers below holds code code_is w (frees_at plan f.item) f.item refl
            (frees_stand facts x plan g.stack g.locals stand.width stand.references f.item (w.laid.numbers f.item) g.method (safe f.item refl)
            (goes_along facts x plan g j f.item stand edge))
            (lies_from (w.laid.entries f.item) next (frees_at plan f.item) (w.laid.numbers f.item) (w.laid.entered f.item (inside f.item refl)))
            (may_frees facts x plan g.stack g.locals stand.width stand.references z.areas f.item (safe f.item refl)) (omega (arith, two))

  -- ---- by where the frame goes

  -- a goto_w comes first, and leads to this item
  by_jump : (z : State) (f g : Frame) (below : List Frame) (target : ℕ) (todos : List Todo)
      → IsPassed q marks (lawful choose) 1 (with_frame z g below) (with_frame (counted q ch z) (record g { item = target }) below)
      → 1 + all_steps_to todos ≤ most_inserted_steps p q
      → Reached p q facts plans marks (lawful choose) (counted q ch z) f (record g { item = target }) below todos 0
      → Reached p q facts plans marks (lawful choose) z f g below todos 1
  by_jump z f g below target todos jump few r = record {
    code = r.code;
    code_is = r.code_is;
    number = r.number;
    number_is = r.number_is;
    width = r.width;
    may = r.may;
    few = few;
    done = by_done r.done;
  } where
    there : Frame
    there = record g { item = target }

    same : state_reached r.code (counted q ch z) (record g { item = target }) below todos 0 r.number ≡ state_reached r.code z g below todos 1 r.number
    same =
        let count : z.steps + 1 + 0 ≡ z.steps + 1 = omega arith in
        ap (λ n. state_after r.code (record z { steps = n }) g below todos r.number) count

    by_done : IsReached p q facts plans marks (lawful choose) r.code (counted q ch z) (record g { item = target }) below todos 0 r.number
        → IsReached p q facts plans marks (lawful choose) r.code z g below todos 1 r.number
    by_done (AllReached passed kept) =
        let count : 0 + all_steps_to todos ≡ all_steps_to todos = omega arith in
        AllReached
        (passed-append q marks ch 1 (all_steps_to todos) (1 + all_steps_to todos) (with_frame z g below)
        (with_frame (counted q ch z) (record g { item = target }) below) (state_reached r.code z g below todos 1 r.number) refl jump
        (subst (IsPassed q marks (lawful choose) (all_steps_to todos) (with_frame (counted q ch z) (record g { item = target }) below)) same
        (subst (λ n. IsPassed q marks (lawful choose) n (with_frame (counted q ch z) (record g { item = target }) below)
        (state_reached r.code (counted q ch z) (record g { item = target }) below todos 0 r.number)) count passed)))
        (subst (IsAtKept p q facts plans marks) same kept)
    by_done (OneMissed lost count last e fewer passed inserted printed ended) =
        OneMissed
        (record {
          before = lost.before;
          todo = lost.todo;
          behind = lost.behind;
          is = lost.is;
          misses = lost.misses;
        })
        (1 + count) last e (omega (arith, fewer))
        (passed-append q marks ch 1 count (1 + count) (with_frame z g below) (with_frame (counted q ch z) (record g { item = target }) below) last refl jump passed)
        inserted printed ended

  module _ (z : State) (f g : Frame) (callers below : List Frame) (holds : Holds p q facts plans marks z f g callers below) where
    -- the same frame at another item of its method, a step later
    moved : (item : ℕ) → Holds p q facts plans marks (counted q ch z) f (record g { item = item }) callers below
    moved item = record {
      method = holds.method;
      locals = holds.locals;
      stack = holds.stack;
      callers_are = holds.callers_are;
      stands_below = below_other p q facts plans marks from g (record g { item = item }) refl below holds.stands_below;
      sound = record {
        typed = holds.sound.typed;
        areas = holds.sound.areas;
        frames = holds.sound.frames;
        running = holds.sound.running;
        within = holds.sound.within;
      };
      words = holds.words;
    }

    -- by a goto_w
    jumps : (code : Code) (code_is : code_at p g.method ≡ Some code) (w : HasInserted q marks g.method code (inserted_by (plans g.method))) (j : ℕ)
        → HoldersStand facts (typed_method p facts.typing g.method code) (inserted_by (plans g.method)) g j → IsEdge code j f.item
        → insn_of w.new g.item ≡ Some (insn.Goto (w.laid.entries f.item)) → mark_at (own_marks marks g.method) g.item ≡ None
        → Reached p q facts plans marks (lawful choose) z f g below (frees_at (inserted_by (plans g.method)) f.item) 1
    jumps code code_is w j stand edge jump mark =
        let target = w.laid.entries f.item in
        let there : Frame = record g { item = target } in
        let found : next_insn q g ≡ Some (insn.Goto target) = ap (option_and_then (λ (c : Code). insn_of c g.item)) w.new_is ∙ jump in
        let few = frees_few z f g callers below holds code code_is w f.item refl in
        by_jump z f g below target (frees_at (inserted_by (plans g.method)) f.item)
        (one_passed q marks ch z g below (with_frame (counted q ch z) there below) 0 (with_frame (counted q ch z) there below) mark
        (goto_step q ch z g below target found) refl refl)
        (steps_few p q marks g.method code code_is (inserted_by (plans g.method)) w (1 + all_steps_to (frees_at (inserted_by (plans g.method)) f.item)) (omega (arith, few)))
        (before (counted q ch z) f there callers below (moved target) code code_is w j
        (record { width = stand.width; references = stand.references; may = stand.may }) edge refl)

    -- a method begins
    begins : f.item ≡ 0 → g.item ≡ 0 → length g.locals ≡ max_locals_of q g.method
        → Reached p q facts plans marks (lawful choose) z f g below (starts_of (inserted_by (plans g.method)) ++ frees_at (inserted_by (plans g.method)) f.item) 0
    begins old_first first width =
        let code = coded p q facts plans marks from ready choose z f g callers below holds in
        starts z f g callers below holds code.0 code.1 (from.methods g.method code.0 code.1) old_first first width

    -- at the item of a frame that waited
    resumes : StandsAtKept p facts plans marks g → kept_item marks g.method g.item ≡ Some f.item → Reached p q facts plans marks (lawful choose) z f g below [] 0
    resumes stands is = record {
      code = code.0;
      code_is = code.1;
      number = g.item;
      number_is = is;
      width = (stands.holders code.0 code.1).width;
      may = tt;
      few = omega arith;
      done = AllReached there (subst (IsAtKept p q facts plans marks) there kept);
    } where
      code : (c : Code) × (code_at p g.method ≡ Some c)
      code = coded p q facts plans marks from ready choose z f g callers below holds

      there : with_frame z g below ≡ state_reached code.0 z g below [] 0 g.item
      there =
          let count : z.steps ≡ z.steps + 0 + 0 = omega arith in
          ap (λ n. record z { frames = g ∷ below; steps = n; ended = None }) count

      frames_are : old_frame p marks g ∷ map (old_frame p marks) below ≡ f ∷ callers
      frames_are =
          let item : unwrap_or (kept_item marks g.method g.item) 0 ≡ f.item = ap (λ o. unwrap_or o 0) is in
          λ k. record { method = holds.method k; item = item k; locals = holds.locals k; stack = holds.stack k } ∷ holds.callers_are k

      kept : IsAtKept p q facts plans marks (with_frame z g below)
      kept = record {
        sound = record {
          typed = holds.sound.typed;
          areas = holds.sound.areas;
          frames = subst (Stand p facts.typing) (sym frames_are) holds.sound.frames;
          running = λ goes. omega arith;
          within = subst (λ (frames : List Frame). length frames ≤ z.depth) (sym frames_are) holds.sound.within;
        };
        frames = (stands, holds.stands_below);
        words = holds.words;
      }

    pub onwards : SitesAreNodes → (before_step : State) (go : FrameGoes p q facts plans marks before_step f g below)
        → Reached p q facts plans marks (lawful choose) z f g below (todos_ahead p q facts plans marks before_step z.areas.store f g below go)
        (jumps_ahead p q facts plans marks before_step f g below go)
    onwards nodes before_step (InMethod j code code_is w was (GoesBehind past old_next next) edge stand) =
        behind z f g callers below holds code code_is w j stand nodes edge old_next next
    onwards nodes before_step (InMethod j code code_is w was (GoesBefore next) edge stand) = before z f g callers below holds code code_is w j stand edge next
    onwards nodes before_step (InMethod j code code_is w was (GoesByJump jump mark) edge stand) = jumps code code_is w j stand edge jump mark
    onwards nodes before_step (Begins old_first first empty width on) = begins old_first first width
    onwards nodes before_step (Resumes stands is above frames_are) = resumes stands is

  -- ---- the states after a step

  -- both states are the same, but for their frames
  states_go : FramesReachKept → (before_step x y : State) → but_frames y ≡ but_frames x → y.ended ≡ None → y.areas.store.budget ≤ MAX_LIVE_WORDS
      → IsSoundBy p facts.typing x → (fs gs : List Frame) → x.frames ≡ fs → y.frames ≡ gs → StatesGo p q facts plans marks before_step fs gs
      → ComesToKept p q facts plans marks (lawful choose) y
  states_go reach before_step x y same going words sound [] gs old_are new_are go = absurd go
  states_go reach before_step x y same going words sound (f ∷ callers) [] old_are new_are go = absurd go
  states_go reach before_step x y same going words sound (f ∷ callers) (g ∷ below) old_are new_are go =
      let ended : x.ended ≡ None = ap (λ (s : State). s.ended) (sym same) ∙ going in
      let old_is : x ≡ with_frame y f callers = (λ k. record (sym same k) { frames = old_are k; ended = ended k }) in
      let new_is : y ≡ with_frame y g below = (λ k. record y { frames = new_are k; ended = going k }) in
      subst (ComesToKept p q facts plans marks (lawful choose)) (sym new_is)
      (reached_comes p q facts plans marks from ready choose y f g below _ _
      (reach p q facts plans marks from ready choose before_step y f g callers below go (subst (IsSoundBy p facts.typing) old_is sound) words) go.stands_below)

  -- the run of the second program has ended where that of the first one has
  pub moved_on : FramesReachKept → (before_step : State) (x y : Moved) → y.state.areas.store.budget ≤ MAX_LIVE_WORDS → IsSoundBy p facts.typing x.state
      → StepsAlike p q facts plans marks before_step x y → ComesToKept p q facts plans marks (lawful choose) y.state
  moved_on reach before_step x y words sound (BothFault method offset other cell old_end new_end) =
      HasEnded (end.Fault (record { 0 = method }) other cell) new_end
  moved_on reach before_step x y words sound (BothDo printed same go) = by_end y.state.ended refl where
    by_end : (o : Option Ended) → y.state.ended ≡ o → ComesToKept p q facts plans marks (lawful choose) y.state
    by_end (Some e) is = HasEnded e is
    by_end None is =
        states_go reach before_step x.state y.state same is words sound x.state.frames y.state.frames refl refl
        (go (ap (λ (s : State). s.ended) (sym same) ∙ is))

pub frames_reach : SitesAreNodes → FramesReachKept
frames_reach nodes p q facts plans marks from ready choose before_step z f g callers below go sound words =
    onwards p q facts plans marks from ready choose z f g callers below
    (record {
      method = go.method;
      locals = go.locals;
      stack = go.stack;
      callers_are = go.callers_are;
      stands_below = go.stands_below;
      sound = sound;
      words = words;
    })
    nodes before_step go.top

pub kept_states_go_on : KeptStepsAreSteps → SoundStatesStep → FramesReachKept → KeptStatesGoOn
kept_states_go_on kept_steps sound_steps reach p q facts plans marks from ready makes choose y at going =
    let x = old_state p marks y.steps y in
    let sound : IsSoundBy p facts.typing (old_state p marks y.steps y) =
    record {
      typed = at.sound.typed;
      areas = at.sound.areas;
      frames = at.sound.frames;
      running = at.sound.running;
      within = at.sound.within;
    } in
    moved_on p q facts plans marks from ready choose reach y (step p (lawful choose) (old_state p marks y.steps y)) (step q (lawful choose) y)
    (subst (λ n. n ≤ MAX_LIVE_WORDS) (sym (step_budget q (lawful choose) y)) at.words)
    (sound_steps p facts.typing ready makes choose x sound (makes_few p x at.words)).1
    (kept_steps p q facts plans marks from ready makes choose y at going)
