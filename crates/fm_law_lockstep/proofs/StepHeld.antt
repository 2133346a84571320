-- A step of both programs that go on: what holders of all frames hold after it, before anything inserted is done.
use Rattle.std.proofs.Common.{◌≡◌, ℕ, true, List, [], ◌∷◌, None, sym, ap, subst, ◌∙◌, arith, ⊎_elim}
use Rattle.std.proofs.lemmas.Option.{none-some}
use Rattle.fm_cells.specs.Choices.{lawful}
use Rattle.fm_cells.specs.Soundness.{IsOrderly}
use Rattle.fm_conn.specs.Facts.{Facts}
use Rattle.fm_frames.specs.Acts.{Choose}
use Rattle.fm_frames.specs.States.{Frame, State}
use Rattle.fm_frames.specs.Steps.{next_effect, step}
use Rattle.fm_frames.specs.declared.ends.Ended.TheVariants as end
use Rattle.fm_law_held_objects.specs.Held.{FramesAreHeld}
use Rattle.fm_law_held_objects.specs.Laws.{StepsKeepHeld}
use Rattle.fm_law_lockstep.proofs.FramesHeld.{frames_step}
use Rattle.fm_law_lockstep.proofs.NothingFreed.{FreesNothing, nothing_freed}
use Rattle.fm_law_unwoven.proofs.OneKept.{safe_holders}
use Rattle.fm_law_lockstep.specs.Both.{Both}
use Rattle.fm_law_lockstep.specs.Known.{IsKnownOn, IsLinked}
use Rattle.fm_law_lockstep.specs.Stepping.{AreWithin}
use Rattle.fm_law_lockstep.specs.Together.{AreLimited, GoTogetherAt}
use Rattle.fm_law_lockstep.specs.Limits.{StepsStayWithin}
use Rattle.fm_law_sound.proofs.Budgets.{step_budget}
use Rattle.fm_law_sound.proofs.FewWords.{few_within}
use Rattle.fm_law_sound.specs.Making.{MakesFew}
use Rattle.fm_law_sound.specs.Sound.{IsSoundBy}
use Rattle.fm_law_two_memories.specs.Pairing.{EndAlike}
use Rattle.fm_law_two_memories.specs.Whole.{NextEffectsAreAlike}
use Rattle.fm_law_unwoven.specs.Kept.{BothDo, BothFault, KeptStepsAreSteps, old_state, StepsAlike}
use Rattle.fm_law_unwoven.specs.WovenFrom.{inserted_by, IsWovenFrom}
use Rattle.fm_same.specs.Advances.{IsResult}
use Rattle.fm_same.specs.Regions.{Region, Retired}

-- what is retired is no result's
not_result : (facts : Facts) (frames : List Frame) (r : Region) → r ≡ Retired → IsResult facts frames r → ⊥
not_result facts [] r is result = result
not_result facts (f ∷ callers) r is result = let both = sym is ∙ result in absurd (cc)

module _ (b : Both) (from : IsWovenFrom b.one b.other b.facts b.plans b.marks) (linked : IsLinked b.one b.facts) (first second : Choose) (x y : State) (t : GoTogetherAt b x y)
    (on : IsKnownOn b.one b.facts x (step b.one (lawful first) x).state t.colour t.made)
    (going : (step b.one (lawful first) x).state.ended ≡ None) (other_going : (step b.other (lawful second) y).state.ended ≡ None)
    (within : AreWithin b.one x y (step b.one (lawful first) x).state (step b.other (lawful second) y).state) where
  pub second_going : y.ended ≡ None
  second_going = subst (λ e. EndAlike t.gone x.areas.store y.areas.store e y.ended) t.goes_on t.paired.ended

  -- ---- nothing is freed

  abbrev u : State
  u = old_state b.one b.marks y.steps y

  sound : IsSoundBy b.one b.facts.typing (old_state b.one b.marks y.steps y)
  sound = record {
    typed = t.kept.sound.typed;
    areas = t.kept.sound.areas;
    frames = t.kept.sound.frames;
    running = t.kept.sound.running;
    within = t.kept.sound.within;
  }

  freed_by : NextEffectsAreAlike → StepsAlike b.one b.other b.facts b.plans b.marks y (step b.one (lawful second) (old_state b.one b.marks y.steps y))
      (step b.other (lawful second) y) → FreesNothing y.areas (step b.other (lawful second) y).state.areas
  freed_by alike (BothDo printed same go) =
      subst (FreesNothing y.areas) (ap (λ (s : State). s.areas) (sym same))
      (nothing_freed alike b.one b.facts.typing linked.without second u second_going sound (ap (λ (s : State). s.ended) (sym same) ∙ other_going))
  freed_by alike (BothFault method offset other cell old_end new_end) =
      absurd (none-some (end.Fault (record { 0 = method }) other cell) (sym other_going ∙ new_end))

  pub frees_nothing : NextEffectsAreAlike → KeptStepsAreSteps → FreesNothing y.areas (step b.other (lawful second) y).state.areas
  frees_nothing alike kept_steps =
      freed_by alike
      (kept_steps b.one b.other b.facts b.plans b.marks from linked.without.steps linked.without.makes second y t.kept second_going)

  -- ---- what is gone stays retired

  pub still_retired : (birth : ℕ) → t.gone.births birth ≡ true → on.fewer birth ≡ Retired
  still_retired birth lost =
      let before = t.retired birth lost in
      on.still birth
      (⊎_elim (λ same. same ∙ before) (λ result. absurd (not_result b.facts x.frames (t.colour birth) before result))
      (on.over.advances birth (t.paired.areas.store.past birth lost)))

  -- ---- limits

  pub few : MakesFew b.one x
  few fits = few_within b.one.outline y.areas (next_effect b.one x).actions t.kept.words within.not_over

  pub limits_on : StepsStayWithin → AreLimited b (step b.one (lawful first) x).state.areas.store (step b.other (lawful second) y).state.areas.store
  limits_on stay =
      let budget : (step b.one (lawful first) x).state.areas.store.budget ≡ b.words = step_budget b.one (lawful first) x ∙ t.limits.budget in
      let own = t.limits.budget in
      let lives = t.limits.within in
      let most = t.limits.few in
      let later =
      stay b.one b.facts.typing linked.without first x t.known.whole.sound few t.goes_on (omega (arith, own, most)) (omega (arith, own, lives)) in
      record {
        unlimited = within.unlimited;
        limited = within.limited ∙ t.limits.limited;
        budget = budget;
        other_budget = step_budget b.other (lawful second) y ∙ t.limits.other_budget;
        within = omega (arith, later, own);
        few = t.limits.few;
      }

  -- ---- holders

  -- all frames from before, with what their holders hold after the step
  pub step_held : StepsKeepHeld → IsOrderly (step b.other (lawful second) y).state.areas.store → FreesNothing y.areas (step b.other (lawful second) y).state.areas
      → FramesAreHeld b.one b.facts b.plans b.marks (step b.one (lawful first) x).state on.over.other (step b.other (lawful second) y).state.areas.store y.frames
  step_held keep orderly still =
      frames_step b.one b.facts b.plans b.marks t.gone x.areas.store y.areas.store x (step b.one (lawful first) x).state t.colour on.over.other
      y.areas.store (step b.other (lawful second) y).state.areas.store x.frames
      (λ depth method code values there code_is had.
      keep b.one b.facts linked.resolved linked.without.steps linked.without.makes linked.cells linked.without.no_free first x t.made t.known.whole few
      t.known.made_at t.colour on.over y.areas.store (step b.other (lawful second) y).state.areas.store t.paired.areas.store.other_orderly orderly t.paired.areas.store.births still.keeps
      depth method there code (inserted_by (b.plans method)) (safe_holders b.one b.other b.facts b.plans b.marks from method code code_is) values had)
      x.frames y.frames t.paired.frames (λ depth method there. there) t.held
