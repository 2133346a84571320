-- One step of both programs from states that go together: the second one is at a kept item.
use Rattle.std.specs.Prelude.{◌≡◌, ℕ, ◌+◌, ◌<◌, Bool, true, false, List, [], None, Some}
use Rattle.fm_cells.specs.Choices.{lawful}
use Rattle.fm_conn.specs.Facts.{Facts}
use Rattle.fm_frames.specs.Acts.{Choose}
use Rattle.fm_frames.specs.States.{Frame, Moved, State}
use Rattle.fm_frames.specs.Steps.{is_deep, is_over, next_effect, step}
use Rattle.fm_frames.specs.declared.ends.Ended.{Ended}
use Rattle.fm_frames.specs.declared.ends.Ended.TheVariants as end
use Rattle.fm_law_no_fault.specs.Whole.{HasNoFault}
use Rattle.fm_law_same_runs.specs.Beside.{Marks}
use Rattle.fm_law_sound.specs.Sound.{IsSoundBy}
use Rattle.fm_law_two_memories.specs.Pairing.{Gone, StatesPaired}
use Rattle.fm_law_two_memories.specs.Results.{IsFewGone, IsTooSmall}
use Rattle.fm_law_two_memories.specs.Runs.{IsWithoutFrees, LacksWords}
use Rattle.fm_law_two_memories.specs.Seeing.{SeesNothingGone}
use Rattle.fm_law_unwoven.specs.Kept.{IsAtKept, old_state, StatesGo}
use Rattle.fm_law_unwoven.specs.WovenFrom.{IsWovenFrom}
use Rattle.fm_place.specs.Rewriting.{Plans}
use Rattle.fm_world.specs.Programs.{Program}

-- ---- counted steps

-- both print the same and lead to the same state, but that the one counts on from n steps and the other from m
pub record IsCountedFrom (n m : ℕ) (one other : Moved) : Type 0 where
  pub rise : ℕ
  pub steps : one.state.steps ≡ n + rise
  pub printed : other.printed ≡ one.printed
  pub state : other.state ≡ record one.state { steps = m + rise }

-- so it is of each step of a run that goes on: it doesn't look at how many steps were counted
abbrev pub StepsAreUncounted : Type 0
StepsAreUncounted =
    (p : Program) (choose : Choose) (x : State) (m : ℕ) → x.ended ≡ None
    → IsCountedFrom x.steps m (step p choose x) (step p choose (record x { steps = m }))

-- ---- want

-- the end of a run that lacked words or room
abbrev pub is_want : Ended → Bool
is_want end.Returned = false
is_want (end.Exit number) = false
is_want (end.Uncaught class) = false
is_want end.Running = false
is_want (end.Exhausted live needed) = true
is_want (end.TooDeep frames) = false
is_want (end.InitFailed class) = false
is_want (end.StoreFull made needed) = true
is_want (end.Fault method offset cell) = false

-- a step that ends a run so prints nothing, and isn't counted
abbrev pub WantingStepsDoNothing : Type 0
WantingStepsDoNothing =
    (p : Program) (choose : Choose) (x : State) → x.ended ≡ None → (e : Ended) → (step p choose x).state.ended ≡ Some e → is_want e ≡ true
    → ((step p choose x).printed ≡ []) × ((step p choose x).state.steps ≡ x.steps)

-- ---- a step at a kept item

-- both count the same for it
abbrev pub RiseAlike : (x y next following : State) → Type 0
RiseAlike x y next following = following.steps + x.steps ≡ next.steps + y.steps

-- what is made doesn't pass the second one's budget, and the stores have the limits that they had
pub record AreWithin (p : Program) (x y next following : State) : Type 0 where
  pub not_over : is_over p.outline y.areas (next_effect p x).actions ≡ false
  pub unlimited : next.areas.store.limit ≡ None
  pub limited : following.areas.store.limit ≡ y.areas.store.limit

-- Both go on, print the same and are paired again, by old frames that the second program's frames hold, and which are sound; or both end alike; or the second
-- one ends for want of words, of which it may have fewer than the first one with what is gone, or of room, where the first one may have more than fit twice: then
-- the step makes no more frames than may be.
pub data KeptStepGoes (p q : Program) (facts : Facts) (plans : Plans) (marks : Marks) (gone : Gone) (x y : State) (next following : Moved) : Type 0 where
  BothGo : (frames : List Frame) → next.state.ended ≡ None → following.state.ended ≡ None → following.printed ≡ next.printed
      → RiseAlike x y next.state following.state → AreWithin p x y next.state following.state
      → StatesPaired gone p.outline next.state (record following.state { frames = frames; steps = next.state.steps })
      → IsSoundBy p facts.typing (record following.state { frames = frames; steps = next.state.steps })
      → StatesGo p q facts plans marks y frames following.state.frames → KeptStepGoes p q facts plans marks gone x y next following
  BothEnd : (e : Ended) → next.state.ended ≡ Some e → following.state.ended ≡ Some e → following.printed ≡ next.printed
      → HasNoFault next.state → RiseAlike x y next.state following.state → KeptStepGoes p q facts plans marks gone x y next following
  SecondLacks : (live needed : ℕ) → following.state.ended ≡ Some (end.Exhausted live needed) → is_deep x (next_effect p x).next ≡ false
      → y.areas.store.budget + gone.words < x.areas.store.budget → KeptStepGoes p q facts plans marks gone x y next following
  SecondIsFull : (made needed : ℕ) → following.state.ended ≡ Some (end.StoreFull made needed) → is_deep x (next_effect p x).next ≡ false
      → IsTooSmall gone y.areas.store.limit x.areas.store.budget y.areas.store.budget → KeptStepGoes p q facts plans marks gone x y next following

-- So it is, where the step sees nothing that is gone, and the first run neither faults nor lacks words in it.
abbrev pub KeptStepsGoTogether : Type 0
KeptStepsGoTogether =
    (p q : Program) (facts : Facts) (plans : Plans) (marks : Marks) → IsWovenFrom p q facts plans marks → IsWithoutFrees p facts.typing
    → (first second : Choose) (gone : Gone) → IsFewGone gone → (x y : State) → IsSoundBy p facts.typing x
    → StatesPaired gone p.outline x (old_state p marks x.steps y) → SeesNothingGone gone p.outline x → x.areas.store.limit ≡ None
    → IsAtKept p q facts plans marks y → x.ended ≡ None
    → (is_over p.outline y.areas (next_effect p x).actions ≡ false → HasNoFault (step p (lawful first) x).state) → ¬ LacksWords (step p (lawful first) x).state
    → KeptStepGoes p q facts plans marks gone x y (step p (lawful first) x) (step q (lawful second) y)
