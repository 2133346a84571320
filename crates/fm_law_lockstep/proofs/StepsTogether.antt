-- Each step of both programs goes on together.
use Rattle.std.proofs.Common.{◌≡◌, ◌+◌, ◌*◌, ◌<◌, true, false, None, Some, refl, sym, subst, ◌∙◌, arith}
use Rattle.std.proofs.lemmas.Option.{same_Some}
use Rattle.fm_base.specs.declared.limits.TheConstants.{MAX_MADE_WORDS}
use Rattle.fm_cells.specs.Choices.{lawful}
use Rattle.fm_frames.specs.Acts.{Choose}
use Rattle.fm_frames.specs.States.{Moved, State}
use Rattle.fm_frames.specs.Steps.{is_deep, is_over, next_effect, step}
use Rattle.fm_frames.specs.declared.ends.Ended.{Ended}
use Rattle.fm_frames.specs.declared.ends.Ended.TheVariants as end
use Rattle.fm_law_lockstep.proofs.Seen.{retired_is_unseen}
use Rattle.fm_law_lockstep.proofs.Wanting.{wanting_steps_do_nothing}
use Rattle.fm_law_lockstep.specs.Composing.{BothCatchUp, LockstepsStep, ProgramsCatchUp}
use Rattle.fm_law_lockstep.specs.Both.{Both}
use Rattle.fm_law_lockstep.specs.Known.{IsKnownOn, IsLinked, StepsStayKnown}
use Rattle.fm_law_lockstep.specs.Limits.{ShallowStepsCost}
use Rattle.fm_law_lockstep.specs.Stepping.{BothEnd, BothGo, is_want, KeptStepGoes, KeptStepsGoTogether, SecondIsFull, SecondLacks}
use Rattle.fm_law_lockstep.specs.Together.{EndsTogether, EndsWanting, GoTogetherAt, IsWantOf, LockStep, OfRoom, OfWords, StaysTogether}
use Rattle.fm_law_no_fault.specs.Whole.{HasNoFault}
use Rattle.fm_law_sound.proofs.FewWords.{few_within}
use Rattle.fm_law_sound.specs.Making.{MakesFew}
use Rattle.fm_law_two_memories.specs.Pairing.{EndAlike}
use Rattle.fm_law_two_memories.specs.Results.{IsFewGone, IsTooSmall}
use Rattle.fm_law_two_memories.specs.Runs.{LacksWords}
use Rattle.fm_law_unwoven.specs.WovenFrom.{IsWovenFrom}

module _ (b : Both) (from : IsWovenFrom b.one b.other b.facts b.plans b.marks) (linked : IsLinked b.one b.facts) (kept_go : KeptStepsGoTogether)
    (known_on : StepsStayKnown) (costs : ShallowStepsCost) (catch_up : BothCatchUp b) (first second : Choose) (x y : State)
    (t : GoTogetherAt b x y) (words : ¬ LacksWords (step b.one (lawful first) x).state) where
  abbrev next : Moved
  next = step b.one (lawful first) x

  abbrev following : Moved
  following = step b.other (lawful second) y

  abbrev Goes : Type 0
  Goes = LockStep b second x y next following

  few_gone : IsFewGone t.gone
  few_gone =
      let lives = t.paired.areas.store.words in
      let within = t.limits.within in
      let few = t.limits.few in omega (arith, lives, within, few)

  -- what both make is few, as the second one has room for it
  few_made : is_over b.one.outline y.areas (next_effect b.one x).actions ≡ false → MakesFew b.one x
  few_made within fits = few_within b.one.outline y.areas (next_effect b.one x).actions t.kept.words within

  pub known : is_over b.one.outline y.areas (next_effect b.one x).actions ≡ false → HasNoFault next.state
      × (x.ended ≡ None → next.state.ended ≡ None → IsKnownOn b.one b.facts x next.state t.colour t.made)
  known within = known_on b.one b.facts linked first x t.colour t.made (few_made within) t.known

  pub goes : KeptStepGoes b.one b.other b.facts b.plans b.marks t.gone x y next following
  goes =
      kept_go b.one b.other b.facts b.plans b.marks from linked.without first second t.gone few_gone x y t.known.whole.sound t.paired
      (retired_is_unseen b.one b.facts linked.without x t.colour t.gone t.known.coloured t.retired t.paired.areas.store.loose)
      t.limits.unlimited t.kept t.goes_on (λ within. (known within).0) words

  second_going : y.ended ≡ None
  second_going = subst (λ e. EndAlike t.gone x.areas.store y.areas.store e y.ended) t.goes_on t.paired.ended

  wanting : (e : Ended) → following.state.ended ≡ Some e → is_want e ≡ true → is_deep x (next_effect b.one x).next ≡ false → IsWantOf b e → Goes
  wanting e is want shallow lacks =
      let idle = wanting_steps_do_nothing b.other (lawful second) y second_going e is want in
      EndsWanting e is lacks idle.0 idle.1
      (costs b.one b.facts.typing linked.without linked.cells first x t.known.whole t.goes_on t.limits.unlimited shallow words)

  fewer_words : y.areas.store.budget + t.gone.words < x.areas.store.budget → b.other_words < b.words
  fewer_words less =
      let own = t.limits.budget in
      let theirs = t.limits.other_budget in omega (arith, less, own, theirs)

  little_room : IsTooSmall t.gone y.areas.store.limit x.areas.store.budget y.areas.store.budget → MAX_MADE_WORDS < 2 * b.words
  little_room small =
      let limit : small.0 ≡ MAX_MADE_WORDS = same_Some small.0 MAX_MADE_WORDS (sym small.1 ∙ t.limits.limited) in
      let own = t.limits.budget in
      let more = small.3 in omega (arith, limit, own, more)

  by_step : KeptStepGoes b.one b.other b.facts b.plans b.marks t.gone x y next following → Goes
  by_step (BothGo frames going other_going printed rise within paired sound go) =
      StaysTogether printed (catch_up first second x y t ((known within.not_over).1 t.goes_on going) frames going other_going within paired sound go)
  by_step (BothEnd e is other_is printed none rise) = EndsTogether e is other_is none printed rise
  by_step (SecondLacks live needed is shallow less) = wanting (end.Exhausted live needed) is refl shallow (OfWords live needed refl (fewer_words less))
  by_step (SecondIsFull made needed is shallow small) = wanting (end.StoreFull made needed) is refl shallow (OfRoom made needed refl (little_room small))

  pub lock_step : Goes
  lock_step = by_step goes

pub locksteps_step : KeptStepsGoTogether → StepsStayKnown → ShallowStepsCost → ProgramsCatchUp → LockstepsStep
locksteps_step kept_go known_on costs catch_up b from linked first second x y t words =
    lock_step b from linked kept_go known_on costs (catch_up b from linked) first second x y t words
