-- The kept step of the second program beside that of the first: over the old state of the second one, on both memories.
use Rattle.std.proofs.Common.{◌≡◌, ℕ, ◌+◌, Bool, true, false, length, nat_lt, Option, Some, None, ⊎_elim, refl, sym, ap, subst, ◌∙◌, arith}
use Rattle.std.proofs.lemmas.Bool.{cases_Bool, false≢true}
use Rattle.std.proofs.lemmas.List.Elements.{length_all_zip}
use Rattle.std.proofs.lemmas.Option.{none-some, same_Some}
use Rattle.fm_cells.specs.Choices.{lawful}
use Rattle.fm_cells.specs.Stores.{live_words, Store}
use Rattle.fm_conn.specs.Facts.{Facts}
use Rattle.fm_frames.proofs.StepCounts.{step_going}
use Rattle.fm_frames.specs.Acts.{Choose}
use Rattle.fm_frames.specs.Effects.{Calls, Effect, Enters, Next}
use Rattle.fm_frames.specs.States.{Moved, State}
use Rattle.fm_frames.specs.Steps.{attempted, is_deep, is_over, next_effect, step, words_made}
use Rattle.fm_frames.specs.declared.ends.Ended.{Ended}
use Rattle.fm_frames.specs.declared.ends.Ended.TheVariants as end
use Rattle.fm_law_lockstep.proofs.Uncounted.{steps_are_uncounted}
use Rattle.fm_law_lockstep.specs.Stepping.{BothEnd, BothGo, is_want, IsCountedFrom, KeptStepGoes, KeptStepsGoTogether, RiseAlike, SecondIsFull, SecondLacks}
use Rattle.fm_law_no_fault.specs.Whole.{HasNoFault}
use Rattle.fm_law_same_runs.specs.Beside.{Marks}
use Rattle.fm_law_sound.proofs.RunsSound.{makes_few}
use Rattle.fm_law_sound.proofs.StepsSound.{moved_by}
use Rattle.fm_law_sound.specs.Laws.{SoundStatesStep}
use Rattle.fm_law_sound.specs.Sound.{IsSoundBy}
use Rattle.fm_law_two_memories.proofs.EffectsSame.{effects_same}
use Rattle.fm_law_two_memories.proofs.StepSame.{AlikeStill, Both, GoesAlike, OneLacks, OtherIsFull, OtherLacks, step_alike}
use Rattle.fm_law_two_memories.proofs.TwoMemories.{ready_for}
use Rattle.fm_law_two_memories.specs.Pairing.{EndAlike, FramesPaired, Gone, SameEnd, StatesPaired}
use Rattle.fm_law_two_memories.specs.Runs.{LacksWords}
use Rattle.fm_law_unwoven.specs.Kept.{BothDo, BothFault, but_frames, KeptStepsAreSteps, old_state, StatesGo, StepsAlike}
use Rattle.fm_place.specs.Rewriting.{Plans}
use Rattle.fm_world.specs.Programs.{Outline, Program}

-- an end that isn't a fault and isn't for want of words is the same on both memories
same_end : (gone : Gone) (one other : Store) (x : State) → HasNoFault x → ¬ LacksWords x → (e : Ended) → x.ended ≡ Some e → (second : Ended)
    → SameEnd gone one other e second → second ≡ e
same_end gone one other x whole words (end.Fault method offset cell) is second same = absurd (whole method offset cell is)
same_end gone one other x whole words (end.Exhausted live needed) is second same = absurd (words (live, needed, is))
same_end gone one other x whole words end.Returned is second same = same
same_end gone one other x whole words (end.Exit number) is second same = same
same_end gone one other x whole words (end.Uncaught class) is second same = same
same_end gone one other x whole words end.Running is second same = same
same_end gone one other x whole words (end.TooDeep frames) is second same = same
same_end gone one other x whole words (end.InitFailed class) is second same = same
same_end gone one other x whole words (end.StoreFull made needed) is second same = same

module _ (p q : Program) (facts : Facts) (plans : Plans) (marks : Marks) (gone : Gone) (x y : State) (next old again following : Moved) (counted : IsCountedFrom x.steps y.steps old again) (whole : StatesPaired gone p.outline next.state old.state → HasNoFault next.state) (words : ¬ LacksWords next.state) (over_ends : is_over p.outline y.areas (next_effect p x).actions ≡ true → (e : Ended) × (old.state.ended ≡ Some e))
    (deep_ends : is_deep x (next_effect p x).next ≡ true → (n : ℕ) × (old.state.ended ≡ Some (end.TooDeep n))) (old_sound : IsSoundBy p facts.typing old.state) where
  abbrev Goes : Type 0
  Goes = KeptStepGoes p q facts plans marks gone x y next following

  -- the end of the second program's step is that of the old state's
  module _ (same : but_frames following.state ≡ but_frames again.state) where
    ended_same : following.state.ended ≡ old.state.ended
    ended_same = ap (λ (s : State). s.ended) same ∙ ap (λ (s : State). s.ended) counted.state

    rise_same : old.state.steps ≡ next.state.steps → RiseAlike x y next.state following.state
    rise_same steps =
        let own : following.state.steps ≡ y.steps + counted.rise = ap (λ (s : State). s.steps) same ∙ ap (λ (s : State). s.steps) counted.state in
        let rose = counted.steps in
        omega (arith, own, rose, steps)

    state_same : old.state.steps ≡ next.state.steps → record following.state { frames = old.state.frames; steps = next.state.steps } ≡ old.state
    state_same steps =
        ap (λ (s : State). record s { frames = old.state.frames; steps = next.state.steps }) same
        ∙ ap (λ (s : State). record s { frames = old.state.frames; steps = next.state.steps }) counted.state
        ∙ ap (λ k. record old.state { steps = k }) (sym steps)

    not_over : old.state.ended ≡ None → is_over p.outline y.areas (next_effect p x).actions ≡ false
    not_over going =
        ⊎_elim (λ over. let ends = over_ends over in absurd (none-some ends.0 (sym going ∙ ends.1))) (λ within. within)
        (cases_Bool (is_over p.outline y.areas (next_effect p x).actions))

    both_do : AlikeStill gone p.outline x.areas.store.budget y.areas.store.budget y.areas.store.limit next.state old.state → following.printed ≡ next.printed
        → (again.state.ended ≡ None → StatesGo p q facts plans marks y again.state.frames following.state.frames) → Goes
    both_do still printed go = by_end next.state.ended refl where
      paired : StatesPaired gone p.outline next.state old.state
      paired = still.paired

      by_end : (e : Option Ended) → next.state.ended ≡ e → Goes
      by_end None is =
          let going : old.state.ended ≡ None =
          subst (λ e. EndAlike gone next.state.areas.store old.state.areas.store e old.state.ended) is paired.ended in
          BothGo old.state.frames is (ended_same ∙ going) printed (rise_same paired.steps)
          (record {
            not_over = not_over going;
            unlimited = still.unlimited;
            limited = ap (λ (s : State). s.areas.store.limit) same ∙ ap (λ (s : State). s.areas.store.limit) counted.state ∙ still.limit_is;
          })
          (subst (StatesPaired gone p.outline next.state) (sym (state_same paired.steps)) paired)
          (subst (IsSoundBy p facts.typing) (sym (state_same paired.steps)) old_sound)
          (subst (λ frames. StatesGo p q facts plans marks y frames following.state.frames) (ap (λ (s : State). s.frames) counted.state)
          (go (ap (λ (s : State). s.ended) counted.state ∙ going)))
      by_end (Some e) is =
          let ends = subst (λ e. EndAlike gone next.state.areas.store old.state.areas.store e old.state.ended) is paired.ended in
          let one : ends.0 ≡ e = same_end gone next.state.areas.store old.state.areas.store next.state (whole paired) words e is ends.0 ends.2 in
          BothEnd e is (ended_same ∙ ends.1 ∙ ap Some one) printed (whole paired) (rise_same paired.steps)

  -- the old state's step doesn't fault
  no_fault : StatesPaired gone p.outline next.state old.state → (method offset cell : ℕ)
      → again.state.ended ≡ Some (end.Fault (record { 0 = method }) offset cell) → ⊥
  no_fault paired method offset cell faults = by_end next.state.ended refl where
    old_faults : old.state.ended ≡ Some (end.Fault (record { 0 = method }) offset cell)
    old_faults = sym (ap (λ (s : State). s.ended) counted.state) ∙ faults

    by_end : (e : Option Ended) → next.state.ended ≡ e → ⊥
    by_end None is =
        none-some (end.Fault (record { 0 = method }) offset cell)
        (sym (subst (λ e. EndAlike gone next.state.areas.store old.state.areas.store e old.state.ended) is paired.ended) ∙ old_faults)
    by_end (Some e) is =
        let ends = subst (λ e. EndAlike gone next.state.areas.store old.state.areas.store e old.state.ended) is paired.ended in
        let one : ends.0 ≡ e = same_end gone next.state.areas.store old.state.areas.store next.state (whole paired) words e is ends.0 ends.2 in
        whole paired (record { 0 = method }) offset cell (is ∙ sym (ap Some one) ∙ sym ends.1 ∙ old_faults)

  -- nor is its end another one
  no_other : (e : Ended) → old.state.ended ≡ Some e → (method offset cell : ℕ) → again.state.ended ≡ Some (end.Fault (record { 0 = method }) offset cell)
      → e ≡ end.Fault (record { 0 = method }) offset cell
  no_other e is method offset cell faults =
      let both : Some e ≡ Some (end.Fault (record { 0 = method }) offset cell) =
      sym is ∙ sym (ap (λ (s : State). s.ended) counted.state) ∙ faults in cc

  -- where the second run lacks words or room, the step makes no more frames than may be
  shallow : (d : Ended) → is_want d ≡ true → old.state.ended ≡ Some d → is_deep x (next_effect p x).next ≡ false
  shallow d want is =
      ⊎_elim
      (λ deep.
      let ends = deep_ends deep in absurd (false≢true (ap is_want (same_Some (end.TooDeep ends.0) d (sym ends.1 ∙ is)) ∙ want)))
      (λ within. within) (cases_Bool (is_deep x (next_effect p x).next))

  pub goes : GoesAlike gone p.outline x.areas.store.budget y.areas.store.budget y.areas.store.limit next old
      → StepsAlike p q facts plans marks y again following → Goes
  goes (Both still printed) (BothDo same_printed same go) = both_do same still (same_printed ∙ counted.printed ∙ printed) go
  goes (Both still printed) (BothFault method offset other cell faults second) = absurd (no_fault still.paired method offset cell faults)
  goes (OneLacks less lacks prefix) alike = absurd (words lacks)
  goes (OtherLacks less lacks prefix) (BothDo same_printed same go) =
      SecondLacks lacks.0 lacks.1 (ended_same same ∙ lacks.2) (shallow (end.Exhausted lacks.0 lacks.1) refl lacks.2) less
  goes (OtherLacks less lacks prefix) (BothFault method offset other cell faults second) =
      let no = no_other (end.Exhausted lacks.0 lacks.1) lacks.2 method offset cell faults in absurd (cc)
  goes (OtherIsFull small full prefix) (BothDo same_printed same go) =
      SecondIsFull full.0 full.1 (ended_same same ∙ full.2) (shallow (end.StoreFull full.0 full.1) refl full.2) small
  goes (OtherIsFull small full prefix) (BothFault method offset other cell faults second) =
      let no = no_other (end.StoreFull full.0 full.1) full.2 method offset cell faults in absurd (cc)

-- ---- where the first run does too much for the second one's words

-- what would pass the budget is no fault
over_no_fault : (p : Program) (choose : Choose) (y : State) (e : Effect) → is_over p.outline y.areas e.actions ≡ true → HasNoFault (attempted p choose y e).state
over_no_fault p choose y e over =
    moved_by HasNoFault (is_deep y e.next) _ _
    (λ deep method offset cell is. let no : Some (end.TooDeep (length y.frames)) ≡ Some (end.Fault method offset cell) = is in absurd (cc))
    (λ shallow. moved_by HasNoFault (is_over p.outline y.areas e.actions) _ _
    (λ past method offset cell is.
    let no : Some (end.Exhausted (live_words y.areas.store) (words_made p.outline y.areas e.actions)) ≡ Some (end.Fault method offset cell) = is in absurd (cc))
    (λ within. absurd (false≢true (sym within ∙ over))))

abbrev HasEnded : State → Type 0
HasEnded y = (e : Ended) × (y.ended ≡ Some e)

-- and isn't done
over_has_ended : (p : Program) (choose : Choose) (y : State) (e : Effect) → is_over p.outline y.areas e.actions ≡ true → HasEnded (attempted p choose y e).state
over_has_ended p choose y e over =
    moved_by HasEnded (is_deep y e.next) _ _ (λ deep. (_, refl))
    (λ shallow. moved_by HasEnded (is_over p.outline y.areas e.actions) _ _ (λ past. (_, refl)) (λ within. absurd (false≢true (sym within ∙ over))))

-- ---- where the step makes too many frames

-- it does on both memories
deep_paired : (gone : Gone) (o : Outline) (x y : State) → StatesPaired gone o x y → (next : Next) → is_deep y next ≡ is_deep x next
deep_paired gone o x y paired (Calls m) =
    ap (λ d. nat_lt d (length y.frames + 1)) paired.depth
    ∙ ap (λ n. nat_lt x.depth (n + 1)) (sym (length_all_zip (FramesPaired gone x.areas.store y.areas.store) x.frames y.frames paired.frames))
deep_paired gone o x y paired (Enters methods) =
    ap (λ d. nat_lt d (length y.frames + length methods)) paired.depth
    ∙ ap (λ n. nat_lt x.depth (n + length methods))
    (sym (length_all_zip (FramesPaired gone x.areas.store y.areas.store) x.frames y.frames paired.frames))
deep_paired gone o x y paired next = refl

-- and isn't done
deep_ended : (p : Program) (choose : Choose) (y : State) (e : Effect) → is_deep y e.next ≡ true
    → (attempted p choose y e).state.ended ≡ Some (end.TooDeep (length y.frames))
deep_ended p choose y e deep =
    moved_by (λ s. s.ended ≡ Some (end.TooDeep (length y.frames))) (is_deep y e.next) _ _ (λ too_deep. refl)
    (λ within. absurd (false≢true (sym within ∙ deep)))

-- a fault of the first run is one of the second
paired_no_fault : (gone : Gone) (o : Outline) (x y : State) → StatesPaired gone o x y → HasNoFault y → HasNoFault x
paired_no_fault gone o x y paired none method offset cell is =
    let ends = subst (λ e. EndAlike gone x.areas.store y.areas.store e y.ended) is paired.ended in
    none method offset ends.2.0 (ends.1 ∙ ap Some ends.2.1)

pub kept_steps_go_together : KeptStepsAreSteps → SoundStatesStep → KeptStepsGoTogether
kept_steps_go_together code sound_steps p q facts plans marks from ready first second gone few x y sound paired seen unlimited kept going no_fault words =
    let old : State = old_state p marks x.steps y in
    let goes_on : y.ended ≡ None = subst (λ e. EndAlike gone x.areas.store y.areas.store e y.ended) going paired.ended in
    goes p q facts plans marks gone x y (step p (lawful first) x) (step p (lawful second) old) (step p (lawful second) (old_state p marks y.steps y))
    (step q (lawful second) y) (steps_are_uncounted p (lawful second) old y.steps goes_on) whole words over_ends deep_ends old_sound
    (step_alike gone few p facts.typing (ready_for p facts.typing ready) first second x.areas.store.budget y.areas.store.budget y.areas.store.limit kept.words x old
    sound (record { paired = paired; unlimited = unlimited; budget_is = refl; limit_is = refl; other_is = refl }) seen going)
    (code p q facts plans marks from ready.steps ready.makes second y kept goes_on) where
      u : State
      u = old_state p marks x.steps y

      old_sound : IsSoundBy p facts.typing (step p (lawful second) u).state
      old_sound =
          (sound_steps p facts.typing ready.steps ready.makes second u
          (record {
            typed = kept.sound.typed;
            areas = kept.sound.areas;
            frames = kept.sound.frames;
            running = kept.sound.running;
            within = kept.sound.within;
          })
          (makes_few p u kept.words)).1

      runs_on : u.ended ≡ None
      runs_on = subst (λ e. EndAlike gone x.areas.store y.areas.store e y.ended) going paired.ended

      theirs : step p (lawful second) u ≡ attempted p (lawful second) u (next_effect p x)
      theirs = step_going p (lawful second) u runs_on ∙ ap (attempted p (lawful second) u) (effects_same gone p ready.hidden x u paired seen).0

      over_ends : is_over p.outline y.areas (next_effect p x).actions ≡ true → HasEnded (step p (lawful second) u).state
      over_ends over = subst (λ (m : Moved). HasEnded m.state) (sym theirs) (over_has_ended p (lawful second) u (next_effect p x) over)

      deep_ends : is_deep x (next_effect p x).next ≡ true → (n : ℕ) × ((step p (lawful second) u).state.ended ≡ Some (end.TooDeep n))
      deep_ends deep = (
        length u.frames,
        ap (λ (m : Moved). m.state.ended) theirs
            ∙ deep_ended p (lawful second) u (next_effect p x) (deep_paired gone p.outline x u paired (next_effect p x).next ∙ deep),
      )

      by_over : (b : Bool) → is_over p.outline y.areas (next_effect p x).actions ≡ b → StatesPaired gone p.outline (step p (lawful first) x).state (step p (lawful second) u).state
          → HasNoFault (step p (lawful first) x).state
      by_over false within both = no_fault within
      by_over true over both =
          paired_no_fault gone p.outline (step p (lawful first) x).state (step p (lawful second) u).state both
          (subst (λ (m : Moved). HasNoFault m.state) (sym theirs) (over_no_fault p (lawful second) u (next_effect p x) over))

      whole : StatesPaired gone p.outline (step p (lawful first) x).state (step p (lawful second) u).state → HasNoFault (step p (lawful first) x).state
      whole = by_over (is_over p.outline y.areas (next_effect p x).actions) refl
