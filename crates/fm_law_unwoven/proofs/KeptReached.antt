-- From inserted items on, all that is inserted is done, and a state at a kept item follows; or the run ends where something is freed that isn't held.
use Rattle.std.proofs.Common.{◌≡◌, ℕ, zero, suc, ◌+◌, ◌*◌, ◌<◌, ◌≤◌, List, ◌∷◌, length, map, take, Some, unwrap_or, refl, sym, ap, subst, ◌∙◌, arith}
use Rattle.fm_base.proofs.OptionFacts.{same_value}
use Rattle.fm_base.specs.declared.limits.TheConstants.{MAX_LIVE_WORDS}
use Rattle.fm_cells.specs.Choices.{lawful}
use Rattle.fm_code.specs.declared.code_array.Code.{Code}
use Rattle.fm_conn.specs.Facts.{Facts}
use Rattle.fm_conn.specs.Links.{typed_method}
use Rattle.fm_frames.specs.Acts.{Choose}
use Rattle.fm_frames.specs.States.{Frame, State}
use Rattle.fm_frames.specs.Steps.{max_locals_of, step}
use Rattle.fm_frames.specs.declared.ends.Ended.TheVariants as end
use Rattle.fm_frames.specs.declared.values.Value.{Value}
use Rattle.fm_law_chained.specs.Called.{with_frame}
use Rattle.fm_law_same_runs.specs.Beside.{kept_item, Marks, most_inserted_steps}
use Rattle.fm_law_sound.proofs.Budgets.{step_budget}
use Rattle.fm_law_sound.proofs.CallsStand.{max_locals_in}
use Rattle.fm_law_sound.specs.Resolved.{StepsAreResolved}
use Rattle.fm_law_sound.specs.Sound.{IsSoundBy, Stand, StandsWithout}
use Rattle.fm_law_unwoven.proofs.Cleared.{below_cleared}
use Rattle.fm_law_unwoven.proofs.KeptGoes.{below_other}
use Rattle.fm_law_unwoven.proofs.KeptSound.{item_of}
use Rattle.fm_law_unwoven.proofs.TodoAreas.{areas_sound}
use Rattle.fm_law_unwoven.proofs.TodoCounts.{steps_few}
use Rattle.fm_law_unwoven.proofs.TodoLocals.{length_after, old_after}
use Rattle.fm_law_unwoven.proofs.TodosDone.{todos_done}
use Rattle.fm_law_unwoven.specs.Doing.{all_locals_after, all_steps_to, AllDone, IsDone, IsPassed, MayDoAll, OneLost, state_after}
use Rattle.fm_law_unwoven.specs.Kept.{HoldersStand, IsAtKept, old_frame, old_state, StandBelow, StandsAtKept}
use Rattle.fm_law_unwoven.specs.Laid.{all_insns_to, LieInserted, Todo}
use Rattle.fm_law_unwoven.specs.Reached.{AllReached, IsReached, OneMissed, Reached, state_reached}
use Rattle.fm_law_unwoven.specs.Runs.{ComesToKept, Ends, Kept}
use Rattle.fm_law_unwoven.specs.WovenFrom.{HasInserted, inserted_by, IsWovenFrom, own_marks}
use Rattle.fm_place.specs.Rewriting.{Plans}
use Rattle.fm_world.specs.Programs.{code_at, Program}

-- what a frame on top of others holds: the frame of the first program, in a sound state
pub record Holds (p q : Program) (facts : Facts) (plans : Plans) (marks : Marks) (z : State) (f g : Frame) (callers below : List Frame) : Type 0 where
  pub method : g.method ≡ f.method
  pub locals : take (max_locals_of p g.method) g.locals ≡ f.locals
  pub stack : g.stack ≡ f.stack
  pub callers_are : map (old_frame p marks) below ≡ callers
  pub stands_below : StandBelow p q facts plans marks g below
  pub sound : IsSoundBy p facts.typing (with_frame z f callers)
  pub words : z.areas.store.budget ≤ MAX_LIVE_WORDS

module _ (p q : Program) (facts : Facts) (plans : Plans) (marks : Marks) (from : IsWovenFrom p q facts plans marks) (ready : StepsAreResolved p) (choose : Choose) where
  abbrev ch : Choose
  ch = lawful choose

  -- inserted steps don't change how many words may live
  passed_budget : (n : ℕ) (y z : State) → IsPassed q marks (lawful choose) n y z → z.areas.store.budget ≡ y.areas.store.budget
  passed_budget zero y z passed = ap (λ (s : State). s.areas.store.budget) (sym passed)
  passed_budget (suc n) y z passed = passed_budget n (step q ch y).state z passed.3 ∙ step_budget q ch y

  module _ (z : State) (f g : Frame) (callers below : List Frame) (holds : Holds p q facts plans marks z f g callers below) where
    -- ---- the frame

    abbrev stands : StandsWithout p facts.typing 0 f
    stands = holds.sound.frames.0

    pub coded : (c : Code) × (code_at p g.method ≡ Some c)
    coded = (stands.code, ap (code_at p) holds.method ∙ stands.code_is)

    module _ (code : Code) (code_is : code_at p g.method ≡ Some code) where
      pub item_inside : (j : ℕ) → f.item ≡ j → j < length code.items
      item_inside j item_is =
          let here = item_of p facts.typing holds.sound.typed 0 f stands in
          let same : stands.code ≡ code =
          same_value (code_at p g.method) stands.code code (ap (code_at p) holds.method ∙ stands.code_is) code_is in
          let size = ap (λ (c : Code). length c.items) same in
          omega (arith, here, size, item_is)

      module _ (w : HasInserted q marks g.method code (inserted_by (plans g.method))) (todos : List Todo) (j : ℕ) (item_is : f.item ≡ j) where
        abbrev locals : List Value
        locals = all_locals_after code g.stack todos g.locals

        abbrev after : Frame
        after = record { method = g.method; item = w.laid.numbers j; locals = all_locals_after code g.stack todos g.locals; stack = g.stack }

        abbrev last : State
        last = state_after code z g below todos (w.laid.numbers j)

        marked : kept_item marks g.method (w.laid.numbers j) ≡ Some j
        marked = w.laid.marked j (item_inside j item_is)

        -- it holds the same frame
        old_is : old_frame p marks after ≡ f
        old_is =
            let item : unwrap_or (kept_item marks g.method (w.laid.numbers j)) 0 ≡ f.item = ap (λ o. unwrap_or o 0) marked ∙ sym item_is in
            let max : max_locals_of p g.method ≡ code.max_locals = ap max_locals_in code_is in
            let first : take (max_locals_of p g.method) locals ≡ f.locals =
            ap (λ n. take n locals) max ∙ old_after code g.stack todos g.locals ∙ ap (λ n. take n g.locals) (sym max) ∙ holds.locals in
            (λ k. record { method = holds.method k; item = item k; locals = first k; stack = holds.stack k })

        frames_are : old_frame p marks after ∷ map (old_frame p marks) below ≡ f ∷ callers
        frames_are = λ k. old_is k ∷ holds.callers_are k

        pub last_sound : IsSoundBy p facts.typing (old_state p marks 0 last)
        last_sound = record {
          typed = holds.sound.typed;
          areas = areas_sound p.outline ready.calls.runnable.sizes choose code g.stack todos g.locals z.areas holds.sound.areas;
          frames = subst (Stand p facts.typing) (sym frames_are) holds.sound.frames;
          running = λ goes. omega arith;
          within = subst (λ (frames : List Frame). length frames ≤ z.depth) (sym frames_are) holds.sound.within;
        }

        module _ (stand : HoldersStand facts (typed_method p facts.typing g.method code) (inserted_by (plans g.method)) after j) where
          pub stands_after : StandsAtKept p facts plans marks after
          stands_after = record {
            item = j;
            item_is = marked;
            holders = λ other other_is.
                subst (λ c. HoldersStand facts (typed_method p facts.typing g.method c) (inserted_by (plans g.method)) after j)
                (same_value (code_at p g.method) code other code_is other_is) stand;
          }

          pub at_kept : IsPassed q marks (lawful choose) (all_steps_to todos) (with_frame z g below) last → IsAtKept p q facts plans marks last
          at_kept passed = record {
            sound = last_sound;
            frames = (stands_after, below_other p q facts plans marks from g after refl below holds.stands_below);
            words = subst (λ n. n ≤ MAX_LIVE_WORDS) (sym (passed_budget (all_steps_to todos) (with_frame z g below) last passed)) holds.words;
          }

          -- what is inserted from the frame's item on leads there
          pub reaches : LieInserted w.new (own_marks marks g.method) g.item (all_insns_to w.calls code todos) (w.laid.numbers j)
              → MayDoAll code z.areas g.stack g.locals todos → all_steps_to todos ≤ 6 * length (inserted_by (plans g.method)).holders + 2
              → Reached p q facts plans marks (lawful choose) z f g below todos 0
          reaches lies may few = record {
            code = code;
            code_is = code_is;
            number = w.laid.numbers j;
            number_is = marked ∙ ap Some (sym item_is);
            width = sym (length_after code g.stack todos g.locals) ∙ stand.width;
            may = may;
            few = subst (λ n. n ≤ most_inserted_steps p q) count
                (steps_few p q marks g.method code code_is (inserted_by (plans g.method)) w (all_steps_to todos) few);
            done = by_done (todos_done q marks ch g code (inserted_by (plans g.method)) w todos (w.laid.numbers j) lies z below may);
          } where
            count : all_steps_to todos ≡ 0 + all_steps_to todos
            count = omega arith

            there : last ≡ state_reached code z g below todos 0 (w.laid.numbers j)
            there =
                let same : z.steps ≡ z.steps + 0 = omega arith in
                ap (λ n. state_after code (record z { steps = n }) g below todos (w.laid.numbers j)) same

            by_done : IsDone q marks (lawful choose) code z g below todos (w.laid.numbers j)
                → IsReached p q facts plans marks (lawful choose) code z g below todos 0 (w.laid.numbers j)
            by_done (AllDone passed) =
                AllReached
                (subst (λ n. IsPassed q marks (lawful choose) n (with_frame z g below) (state_reached code z g below todos 0 (w.laid.numbers j))) count
                (subst (IsPassed q marks (lawful choose) (all_steps_to todos) (with_frame z g below)) there passed))
                (subst (IsAtKept p q facts plans marks) there (at_kept passed))
            by_done (OneLost steps method offset cell lost_at lost fewer passed inserted ended printed) =
                OneMissed lost steps lost_at (end.Fault (record { 0 = method }) offset cell) (omega (arith, fewer)) passed inserted printed ended

  -- so the state reaches a kept item, or the run ends
  pub reached_comes : (z : State) (f g : Frame) (below : List Frame) (todos : List Todo) (jumps : ℕ)
      → Reached p q facts plans marks (lawful choose) z f g below todos jumps → StandBelow p q facts plans marks g below
      → ComesToKept p q facts plans marks (lawful choose) (with_frame z g below)
  reached_comes z f g below todos jumps r under = by_done r.done where
    by_done : IsReached p q facts plans marks (lawful choose) r.code z g below todos jumps r.number → ComesToKept p q facts plans marks (lawful choose) (with_frame z g below)
    by_done (AllReached passed kept) = Kept (jumps + all_steps_to todos) (state_reached r.code z g below todos jumps r.number) r.few passed refl kept
    by_done (OneMissed lost count last e fewer passed inserted printed ended) =
        let few = r.few in
        Ends count last e (omega (arith, few, fewer)) passed inserted printed ended (below_cleared p q facts plans marks from g below under)
