-- Two runs that begin alike go alike, step for step.
use Rattle.std.proofs.Common.{◌≡◌, ℕ, zero, suc, ◌≤◌, ◌⊎◌, inl, inr, Bool, true, false, List, [], ◌∷◌, ◌++◌, Option, Some, None, refl, sym, ◌∙◌, ap, subst, append-nil, append_assoc, arith}
use Rattle.std.specs.List.{AllByRecursion}
use Rattle.std.proofs.lemmas.Bool.{false≢true}
use Rattle.fm_base.specs.declared.limits.TheConstants.{MAX_LIVE_WORDS}
use Rattle.fm_cells.specs.Choices.{lawful}
use Rattle.fm_cells.specs.Stores.{Store}
use Rattle.fm_world.specs.Programs.{Outline, Program}
use Rattle.fm_frames.specs.Acts.{Choose}
use Rattle.fm_frames.specs.Effects.{Effect}
use Rattle.fm_frames.specs.Runs.{after}
use Rattle.fm_frames.specs.States.{Moved, State}
use Rattle.fm_frames.specs.Steps.{attempted, is_deep, is_over, next_effect, step}
use Rattle.fm_frames.specs.declared.ends.Ended.{Ended}
use Rattle.fm_frames.specs.declared.ends.Ended.TheVariants as end
use Rattle.fm_frames.specs.declared.values.Value.{Value}
use Rattle.fm_law_sound.proofs.FewWords.{few_within}
use Rattle.fm_law_sound.proofs.NextActs.{next_acts_fit}
use Rattle.fm_law_sound.proofs.StepsSound.{moved_by, step_sound}
use Rattle.fm_law_sound.specs.Sound.{IsSoundBy, Typings}
use Rattle.fm_law_two_memories.specs.Pairing.{EndAlike, Gone, none_gone}
use Rattle.fm_law_two_memories.specs.Results.{IsFewGone}
use Rattle.fm_law_two_memories.specs.Runs.{Alike, FirstLacks, GoAlike, IsPrefix, SecondIsFull, SecondLacks}
use Rattle.fm_law_two_memories.specs.Seeing.{IsSeen, SeesNothingGone}
use Rattle.fm_law_two_memories.proofs.EffectsSame.{effects_same}
use Rattle.fm_law_two_memories.proofs.StepSame.{AlikeStill, Both, GoesAlike, IsReady, OneLacks, OtherIsFull, OtherLacks, step_alike}
use Rattle.fm_frames.proofs.StepCounts.{step_ended, step_going}

-- ---- what was printed

prefix_more : (printed all more : List ℕ) → IsPrefix printed all → IsPrefix (printed ++ []) (all ++ more)
prefix_more printed all more h = (
  h.0 ++ more,
  ap (λ bytes. bytes ++ more) h.1 ∙ append_assoc printed h.0 more ∙ ap (λ bytes. bytes ++ (h.0 ++ more)) (sym (append-nil printed)),
)

prefix_both : (before other printed all : List ℕ) → other ≡ before → IsPrefix printed all → IsPrefix (before ++ printed) (other ++ all)
prefix_both before other printed all same h =
    (h.0, ap (λ bytes. bytes ++ all) same ∙ ap (λ bytes. before ++ bytes) h.1 ∙ sym (append_assoc before printed h.0))

-- the state after the next step, with all that was printed
abbrev joined : Moved → Moved → Moved
joined before next = record { state = next.state; printed = before.printed ++ next.printed }

module _ (gone : Gone) (o : Outline) (budget other : ℕ) (limit : Option ℕ) where
  both_joined : (x y u v : Moved) → y.printed ≡ x.printed → GoesAlike gone o budget other limit u v
      → GoesAlike gone o budget other limit (joined x u) (joined y v)
  both_joined x y u v same (Both still printed) = Both still (ap (λ bytes. bytes ++ v.printed) same ∙ ap (λ bytes. x.printed ++ bytes) printed)
  both_joined x y u v same (OneLacks less lacks prefix) = OneLacks less lacks (prefix_both x.printed y.printed u.printed v.printed same prefix)
  both_joined x y u v same (OtherLacks less lacks prefix) = OtherLacks less lacks (prefix_both y.printed x.printed v.printed u.printed (sym same) prefix)
  both_joined x y u v same (OtherIsFull small full prefix) =
      OtherIsFull small full (prefix_both y.printed x.printed v.printed u.printed (sym same) prefix)

  pub told : (x y : Moved) → GoesAlike gone o budget other limit x y → GoAlike gone o budget other limit x y
  told x y (Both still printed) = Alike still.paired printed
  told x y (OneLacks less lacks prefix) = FirstLacks less lacks prefix
  told x y (OtherLacks less lacks prefix) = SecondLacks less lacks prefix
  told x y (OtherIsFull small full prefix) = SecondIsFull small full prefix

-- ---- a run

-- where nothing is gone nothing that is gone is seen
pub all_seen : (o : Outline) (store : Store) (stack : List Value) → AllByRecursion (IsSeen none_gone o store) stack
all_seen o store [] = tt
all_seen o store (v ∷ vs) = (record { word = λ object held. refl; hidden = λ object held hides other at. refl }, all_seen o store vs)

pub few_none : IsFewGone none_gone
few_none = omega arith

module _ (gone : Gone) (few_gone : IsFewGone gone) (p : Program) (typings : Typings) (ready : IsReady p) (first second : Choose) (budget other : ℕ) (limit : Option ℕ) (few : other ≤ MAX_LIVE_WORDS) where
  abbrev Go : Moved → Moved → Type 0
  Go x y = GoesAlike gone p.outline budget other limit x y

  abbrev Still : State → State → Type 0
  Still x y = AlikeStill gone p.outline budget other limit x y

  -- as long as the first run goes on it sees nothing that is gone
  abbrev Sees : State → Type 0
  Sees x = x.ended ≡ None → SeesNothingGone gone p.outline x

  -- the run has ended
  abbrev HasEnded : State → Type 0
  HasEnded y = (e : Ended) × (y.ended ≡ Some e)

  -- the first run is sound as long as the second one goes on
  abbrev IsFollowed : State → State → Type 0
  IsFollowed x y = IsSoundBy p typings x ⊎ HasEnded y

  -- paired states that have ended stay so
  ended_alike : (x y : State) (e : Ended) → x.ended ≡ Some e → Still x y → Go (step p (lawful first) x) (step p (lawful second) y)
  ended_alike x y e is still =
      let others = subst (λ ended. EndAlike gone x.areas.store y.areas.store ended y.ended) is still.paired.ended in
      subst (λ m. Go m (step p (lawful second) y)) (sym (step_ended p (lawful first) x e is))
      (subst (λ m. Go (record { state = x; printed = [] }) m) (sym (step_ended p (lawful second) y others.0 others.1)) (Both still refl))

  moves_alike : (x y : State) → IsFollowed x y → Sees x → Still x y → Go (step p (lawful first) x) (step p (lawful second) y)
  moves_alike x y followed seen still = by_end x.ended refl where
    by_followed : x.ended ≡ None → IsFollowed x y → Go (step p (lawful first) x) (step p (lawful second) y)
    by_followed is (inl sound) =
        step_alike gone few_gone p typings ready first second budget other limit few x y sound still (seen is) is
    by_followed is (inr ended) =
        let going : y.ended ≡ None = subst (λ end. EndAlike gone x.areas.store y.areas.store end y.ended) is still.paired.ended in
        let no : Some ended.0 ≡ None = sym ended.1 ∙ going in absurd (cc)

    by_end : (ended : Option Ended) → x.ended ≡ ended → Go (step p (lawful first) x) (step p (lawful second) y)
    by_end None is = by_followed is followed
    by_end (Some e) is = ended_alike x y e is still

  -- one more step
  goes_on : (x y : Moved) → IsFollowed x.state y.state → Sees x.state → Go x y
      → Go (joined x (step p (lawful first) x.state)) (joined y (step p (lawful second) y.state))
  goes_on x y followed seen (Both still printed) =
      both_joined gone p.outline budget other limit x y (step p (lawful first) x.state) (step p (lawful second) y.state) printed
      (moves_alike x.state y.state followed seen still)
  goes_on x y followed seen (OneLacks less lacks prefix) =
      subst (λ m. Go (joined x m) (joined y (step p (lawful second) y.state)))
      (sym (step_ended p (lawful first) x.state (end.Exhausted lacks.0 lacks.1) lacks.2))
      (OneLacks less lacks (prefix_more x.printed y.printed (step p (lawful second) y.state).printed prefix))
  goes_on x y followed seen (OtherLacks less lacks prefix) =
      subst (λ m. Go (joined x (step p (lawful first) x.state)) (joined y m))
      (sym (step_ended p (lawful second) y.state (end.Exhausted lacks.0 lacks.1) lacks.2))
      (OtherLacks less lacks (prefix_more y.printed x.printed (step p (lawful first) x.state).printed prefix))
  goes_on x y followed seen (OtherIsFull small full prefix) =
      subst (λ m. Go (joined x (step p (lawful first) x.state)) (joined y m))
      (sym (step_ended p (lawful second) y.state (end.StoreFull full.0 full.1) full.2))
      (OtherIsFull small full (prefix_more y.printed x.printed (step p (lawful first) x.state).printed prefix))

  -- ---- the first run is sound still

  sound_stays : (x y : State) (e : Ended) → x.ended ≡ Some e → IsSoundBy p typings x → IsFollowed (step p (lawful first) x).state (step p (lawful second) y).state
  sound_stays x y e is sound = inl (subst (λ (m : Moved). IsSoundBy p typings m.state) (sym (step_ended p (lawful first) x e is)) sound)

  end_stays : (x y : State) → HasEnded y → IsFollowed (step p (lawful first) x).state (step p (lawful second) y).state
  end_stays x y ended = inr (subst (λ (m : Moved). HasEnded m.state) (sym (step_ended p (lawful second) y ended.0 ended.1)) ended)

  -- what would pass the budget isn't done
  over_ends : (y : State) (e : Effect) → is_over p.outline y.areas e.actions ≡ true → HasEnded (attempted p (lawful second) y e).state
  over_ends y e over =
      moved_by HasEnded (is_deep y e.next) _ _ (λ deep. (_, refl))
      (λ shallow. moved_by HasEnded (is_over p.outline y.areas e.actions) _ _ (λ is. (_, refl)) (λ within. absurd (false≢true (sym within ∙ over))))

  both_follow : (x y : State) → IsSoundBy p typings x → Sees x → Still x y → x.ended ≡ None
      → IsFollowed (step p (lawful first) x).state (step p (lawful second) y).state
  both_follow x y sound seen still going = by_over (is_over p.outline y.areas (next_effect p x).actions) refl where
    other_going : y.ended ≡ None
    other_going = subst (λ ended. EndAlike gone x.areas.store y.areas.store ended y.ended) going still.paired.ended

    theirs : step p (lawful second) y ≡ attempted p (lawful second) y (next_effect p x)
    theirs =
        step_going p (lawful second) y other_going
        ∙ ap (attempted p (lawful second) y) (effects_same gone p ready.hidden x y still.paired (seen going)).0

    now_few : y.areas.store.budget ≤ MAX_LIVE_WORDS
    now_few = subst (λ n. n ≤ MAX_LIVE_WORDS) (sym still.other_is) few

    by_over : (b : Bool) → is_over p.outline y.areas (next_effect p x).actions ≡ b → IsFollowed (step p (lawful first) x).state (step p (lawful second) y).state
    by_over false within =
        inl (step_sound p typings ready.steps first x sound
        (λ running. next_acts_fit p typings ready.steps ready.makes x sound (λ fits. few_within p.outline y.areas (next_effect p x).actions now_few within)))
    by_over true over = inr (subst (λ (m : Moved). HasEnded m.state) (sym theirs) (over_ends y (next_effect p x) over))

  follows_on : (x y : Moved) → IsFollowed x.state y.state → Sees x.state → Go x y → IsFollowed (step p (lawful first) x.state).state (step p (lawful second) y.state).state
  follows_on x y (inr ended) seen go = end_stays x.state y.state ended
  follows_on x y (inl sound) seen (Both still printed) = by_end x.state.ended refl where
    by_end : (ended : Option Ended) → x.state.ended ≡ ended → IsFollowed (step p (lawful first) x.state).state (step p (lawful second) y.state).state
    by_end None is = both_follow x.state y.state sound seen still is
    by_end (Some e) is = sound_stays x.state y.state e is sound
  follows_on x y (inl sound) seen (OneLacks less lacks prefix) = sound_stays x.state y.state (end.Exhausted lacks.0 lacks.1) lacks.2 sound
  follows_on x y (inl sound) seen (OtherLacks less lacks prefix) = end_stays x.state y.state (end.Exhausted lacks.0 lacks.1, lacks.2)
  follows_on x y (inl sound) seen (OtherIsFull small full prefix) = end_stays x.state y.state (end.StoreFull full.0 full.1, full.2)

  both_so : (x y : Moved) → IsSoundBy p typings x.state → ((k : ℕ) → Sees (after p (lawful first) k x).state) → Go x y
      → (k : ℕ) → Go (after p (lawful first) k x) (after p (lawful second) k y) × IsFollowed (after p (lawful first) k x).state (after p (lawful second) k y).state
  unfolding after
  both_so x y sound seen begins zero = (begins, inl sound)
  both_so x y sound seen begins (suc k) =
      let before = both_so x y sound seen begins k in (
        goes_on (after p (lawful first) k x) (after p (lawful second) k y) before.1 (seen k) before.0,
        follows_on (after p (lawful first) k x) (after p (lawful second) k y) before.1 (seen k) before.0,
      )

  pub runs_alike : (x y : Moved) → IsSoundBy p typings x.state → ((k : ℕ) → Sees (after p (lawful first) k x).state) → Go x y
      → (k : ℕ) → Go (after p (lawful first) k x) (after p (lawful second) k y)
  runs_alike x y sound seen begins k = (both_so x y sound seen begins k).0
